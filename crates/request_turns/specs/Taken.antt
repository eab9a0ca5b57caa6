-- What turns are to the entries that a client's seat knows.
use Rattle.std.specs.Prelude.{◌≡◌, ℕ, List, [], ◌∷◌, ◌++◌}
use Rattle.account_machine.specs.declared.answer.Answer.{Answer}
use Rattle.account_machine.specs.declared.entry.Entry.{Entry}
use Rattle.account_machine.specs.declared.request.Request.{Request}
use Rattle.account_machine.specs.declared.request.Request.TheVariants.{Authenticate}
use Rattle.account_machine.specs.declared.request.Turn.{Turn}
use Rattle.client_output.specs.Output.{IsToldOf}
use Rattle.client_output.specs.Turns.{IsTurnOf}

-- the own entries have one more: the turn, of whose answer this was told
pub record Takes (caller given : ℕ) (turn : Turn) (old new : List Entry) (told : Answer) : Type 0 where
  pub entry : Entry
  pub is : IsTurnOf caller given turn entry
  pub told_is : IsToldOf entry.answer told
  pub own : new ≡ old ++ entry ∷ []

-- the own entries have such turns more
pub record GrowsBy (Turns : List Entry → Type 0) (old new : List Entry) : Type 0 where
  pub turns : List Entry
  pub are : Turns turns
  pub own : new ≡ old ++ turns

-- the own entries have such turns more, which gave the answer of which this was told
pub record Gives (Turns : Answer → List Entry → Type 0) (old new : List Entry) (told : Answer) : Type 0 where
  pub answer : Answer
  pub turns : List Entry
  pub are : Turns answer turns
  pub told_is : IsToldOf answer told
  pub own : new ≡ old ++ turns

-- how many clearings may follow the act of a request
abbrev pub most_clearings : Request → ℕ
most_clearings (Authenticate account token label secret) = 8
most_clearings _ = 0
