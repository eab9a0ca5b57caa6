-- What turns and states mean.
use Rattle.std.specs.Prelude.{ℕ, List, Option}
use Rattle.home_image.specs.Parts.{Meaning}
use Rattle.platform_lock.specs.Devices.{account_of}
use Rattle.share_api.specs.declared.step.Step.{Step}
use Rattle.home_locks.specs.declared.account.Entry.{Entry}

abbrev pub client_of : {T : Type 0} → Entry T → ℕ
client_of entry = entry.client

-- Contents C, durable parts D, users U, turns with their answers T, states in memory X. The words are those of the
-- meaning of an account's data, over a turn in place of its entry. What a turn's own device steps did to the state is
-- `moves`: the state before, the turn, the steps, the state after.
pub record Rules (C D U T X : Type 0) : Type 1 where
  pub does : C → Step → C → Type 0
  pub holds : C → D → Type 0
  pub durable : U → D
  pub other : U → Option D
  pub allows : U → T → U → Type 0
  pub clean : List C → U → T → Type 0
  pub fits : X → C → U → Type 0
  pub moves : X → T → List Step → X → Type 0

module _ {C D U T X : Type 0} where
  abbrev pub meaning_of : Rules C D U T X → Meaning C Step D U (Entry T) X
  meaning_of rules = record {
    account = account_of;
    does = rules.does;
    holds = rules.holds;
    durable = rules.durable;
    other = rules.other;
    allows = λ before entry after. rules.allows before entry.turn after;
    place = λ entry. entry.place;
    clean = λ seen user entry. rules.clean seen user entry.turn;
    fits = rules.fits;
  }
