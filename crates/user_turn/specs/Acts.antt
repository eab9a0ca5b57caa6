-- What one turn of an account does, whether its last turn failed or not.
use Rattle.std.specs.Prelude.{◌≡◌, ◌⊎◌, ◌↔◌, ℕ, ◌<◌, ◌^◌, List, Option, None, Some, Contains, IsTrue}
use Rattle.std.specs.FinMap.{get}
use Rattle.account_machine.specs.declared.answer.Answer.{Answer}
use Rattle.account_machine.specs.declared.answer.Answer.TheVariants as answers
use Rattle.account_machine.specs.declared.entry.Entry.{Entry}
use Rattle.account_machine.specs.declared.entry.Told.{Told}
use Rattle.account_machine.specs.declared.entry.Told.TheVariants.{Settled}
use Rattle.account_machine.specs.declared.request.Turn.{Turn}
use Rattle.account_machine.specs.declared.request.Turn.TheVariants.{Look}
use Rattle.account_machine.specs.declared.user.Durable.{Durable}
use Rattle.account_machine.specs.declared.user.User.{User}
use Rattle.account_machine.specs.Step.{Turned}
use Rattle.account_machine.specs.Step as machine
use Rattle.home_recovery.specs.Reading.{RunsOver}
use Rattle.record_names.specs.Names.{is_account_name}
use Rattle.scrypt_kdf.specs.Derive.{derive}
use Rattle.share_api.specs.Contents.{Bytes, Contents}
use Rattle.share_api.specs.Seen.{ShareSeen, HasFailed}
use Rattle.share_api.specs.declared.step.Step.{Step}
use Rattle.stored_home.specs.Clean.{IsClean, IsTurnSecret}
use Rattle.stored_home.specs.Holds.{Keys, HoldsUnder}
use Rattle.stored_home.specs.declared.derived.Derived.{Derived}
use Rattle.stored_home.specs.declared.fault.StoreFault.{StoreFault}
use Rattle.stored_home.specs.declared.fault.StoreFault.TheVariants as faults
use Rattle.turn_rows.specs.Looks.{seen_by}
use Rattle.user_state.specs.Fits.{Fits, is_lost}
use Rattle.user_state.specs.Sound.{IsSound, IsTellable}
use Rattle.user_state.specs.Turns.{IsGiven, KeepsAccount, Turns, secret_of}
use Rattle.user_state.specs.declared.state.Seen.{Seen}
use Rattle.user_state.specs.declared.state.UserState.{UserState}
use Rattle.user_turn.specs.Moves.{RowMoves, Moves}

-- the durable part is the user's, or the second possible one
abbrev pub IsOneOf : User → Durable → Type 0
IsOneOf user held = (held ≡ user.durable) ⊎ (user.other ≡ Some held)

-- The state is a user's over these contents, which hold one of the user's possible durable parts, and no two inputs
-- coincide that are recorded of the contents seen.
pub record TurnPremises (seen : List Contents) (contents : Contents) (before : UserState) (secret : Option Bytes)
    (user : User) (held : Durable) (keys : Keys) : Type 0 where
  pub among : Contains seen contents
  pub clean : IsClean (IsTurnSecret user.durable user.other secret) (Contains seen) before.account
  pub fits : Fits before contents user keys
  pub which : IsOneOf user held
  pub holds : HoldsUnder (is_lost before) contents before.account held keys

-- a client's entry of a turn: at the number that the clock gave and the moment that counts, and at its place
abbrev pub entry_by : ℕ → ℕ → ℕ → Turn → Told → Answer → ℕ → Entry
entry_by caller given moment turn told answer place = record {
  caller = caller;
  given = given;
  moment = moment;
  told = told;
  turn = turn;
  answer = answer;
  place = place;
}

-- A turn at the user's last moment, of whatever contents its device steps fit: the reload that was due told this, and
-- the machine may answer so. Without a doubt nothing is reloaded.
pub record IsTurn (old new : ShareSeen) (before after : UserState) (turn : Turn) (told : Told) (answer : Answer)
    : Type 0 where
  pub steps : List Step
  pub runs : RunsOver old new steps
  pub settled : (told ≡ Settled) ↔ (before.doubt ≡ None)
  pub fault : answer ≡ answers.StorageFault → HasFailed steps
  pub keeps : KeepsAccount before after
  pub moves : (caller given place : ℕ)
      → Moves old.era before (entry_by caller given before.last turn told answer place) steps after
  pub right : (seen : List Contents) (contents : Contents) (user : User) (held : Durable) (keys : Keys)
      → TurnPremises seen contents before (secret_of turn) user held keys
      → Turns old.era seen (is_lost before) before.account held (Turned old.era user told turn answer)
      after steps user contents

-- The turn of an entry, at the number that the clock gave: of whatever contents its device steps fit, the machine may
-- make the entry.
pub record IsAct (old new : ShareSeen) (before after : UserState) (entry : Entry) : Type 0 where
  pub steps : List Step
  pub runs : RunsOver old new steps
  pub settled : (entry.told ≡ Settled) ↔ (before.doubt ≡ None)
  pub fault : entry.answer ≡ answers.StorageFault → HasFailed steps
  pub keeps : KeepsAccount before after
  pub moves : Moves old.era before entry steps after
  pub right : (seen : List Contents) (contents : Contents) (user : User) (held : Durable) (keys : Keys)
      → TurnPremises seen contents before (secret_of entry.turn) user held keys
      → Turns old.era seen (is_lost before) before.account held (λ next. machine.Step old.era user entry next)
      after steps user contents

-- ---- what a turn asks

-- the derived key is that of the turn's secret, with its own salt and cost
abbrev pub IsDerivedOf : Option Bytes → Derived → Type 0
IsDerivedOf None derived = Unit {0}
IsDerivedOf (Some secret) derived = derived.key ≡ derive secret derived.salt derived.cost

-- ---- a settled turn, over a share that took memory for its calls

-- the machine may take the row, and this is what the row did
pub record IsMade (old new : ShareSeen) (before after : UserState) (turn : Turn) (answer : Answer) : Type 0 where
  pub given : IsGiven old new before after turn answer
  pub moves : RowMoves old.era before after turn answer given.steps

pub record GivenOver (old new : ShareSeen) (before after : UserState) (turn : Turn) (answer : Answer) : Type 0 where
  pub start : ShareSeen
  pub stocked : start ≡ record old { spare = start.spare }
  pub made : IsMade start new before after turn answer

-- ---- a state between turns

-- The account's name is plain, its last moment is one, what is loaded fits together, and what is in doubt can be told.
pub record IsSteady (state : UserState) : Type 0 where
  pub plain : IsTrue (is_account_name state.account)
  pub moment : state.last < 2 ^ 40
  pub sound : IsSound state
  pub tellable : IsTellable state.doubt state

-- a row leaves the last moment, a sound state, and a doubt that can be told
pub record RestsOn (before after : UserState) : Type 0 where
  pub last : after.last ≡ before.last
  pub sound : IsSound after
  pub tellable : IsTellable after.doubt after

-- what is shown is what a look was answered: of the label's factor now, beside a new salt
pub record ShowsFactor (after : UserState) (turn : Turn) (answer : Answer) (seen : Seen) : Type 0 where
  pub label : Bytes
  pub turn_is : turn ≡ Look label
  pub answer_is : answer ≡ answers.Seen seen.edition
  pub seen_is : seen ≡ seen_by (get after.stored.factors label) after.cost seen.fresh

-- how a reload's fault is answered. Want of memory may stand for a damaged record, whose name takes memory
abbrev pub IsFaultAnswer : StoreFault → Answer → Type 0
IsFaultAnswer faults.Failed answer = answer ≡ answers.StorageFault
IsFaultAnswer (faults.Damaged name) answer = (answer ≡ answers.Damaged name) ⊎ (answer ≡ answers.NoMemory)
IsFaultAnswer faults.NoMemory answer = answer ≡ answers.NoMemory
IsFaultAnswer (faults.TreeLost host chip) answer = answer ≡ answers.NoMemory
