-- The first PIN with a count of wrong tries.
use Rattle.std.specs.Prelude.{◌≡◌, ℕ, ◌==◌, List, [], ◌∷◌, map, not, Bool, false, Option, None, Some, Result, Ok, Err, IfErr, IsErrOf, if◌then◌else◌}
use Rattle.std.specs.FinMap.{len, entries}
use Rattle.account_machine.specs.declared.answer.Answer.{Answer}
use Rattle.account_machine.specs.declared.answer.Answer.TheVariants as answers
use Rattle.account_machine.specs.declared.answer.FactorLine.{FactorLine}
use Rattle.account_machine.specs.declared.session.Token.{Token}
use Rattle.factor_files.specs.declared.factor.FactorRecord.{FactorRecord}
use Rattle.share_api.specs.Contents.{Bytes, Contents}
use Rattle.share_api.specs.Seen.{ShareSeen}
use Rattle.stored_home.specs.declared.fault.StoreFault.{StoreFault}
use Rattle.stored_home.specs.declared.fault.StoreFault.TheVariants as faults
use Rattle.user_state.specs.declared.state.UserState.{UserState}
use Rattle.turn_secrets.specs.Listing.{Looks, IsListFault, count_in, line_in}
use Rattle.turn_pins.specs.Looking.{IsRefusal}
use Rattle.turn_pins.specs.Resetting.{ResetsLeaf}

-- a count of wrong tries that isn't 0
abbrev pub has_count : Option ℕ → Bool
has_count None = false
has_count (Some wrong) = not (wrong == 0)

-- the label of the first factor that is listed with one
abbrev pub first_shown : List FactorLine → Option Bytes
first_shown [] = None
first_shown (line ∷ lines) = if has_count line.wrong then Some line.label else first_shown lines

-- what a look at a factor's leaf tells of contents
abbrev pub TellsCounted : FactorRecord → Result Bool StoreFault → Contents → Type 0
TellsCounted row (Ok counted) contents = counted ≡ has_count (count_in row.kind false contents.leaves row.leaf)
TellsCounted row (Err fault) contents = Unit {0}

-- what the looks at the leaves of factors tell, up to the first that has a count
abbrev pub TellsFirst : List (Bytes × FactorRecord) → Result (Option Bytes) StoreFault → Contents → Type 0
TellsFirst rows (Ok label) contents = label ≡ first_shown (map (line_in false contents.leaves) rows)
TellsFirst rows (Err fault) contents = Unit {0}

-- a PIN that was set back is told as cleared
abbrev pub cleared_answer : Answer → Answer
cleared_answer answers.Ok = answers.PinCleared
cleared_answer other = other

-- how a clearing ends, by what the looks found
abbrev pub ClearEnds : ShareSeen → ShareSeen → Token → Result (Option Bytes) StoreFault → UserState → UserState → Answer
    → Type 0
ClearEnds mid new token (Ok None) before after answer =
    (new ≡ mid) × (after ≡ before) × (answer ≡ answers.PinsClear)
ClearEnds mid new token (Ok (Some label)) before after answer =
    (raw : Answer) × ResetsLeaf mid new token label before after raw × (answer ≡ cleared_answer raw)
ClearEnds mid new token (Err fault) before after answer = (new ≡ mid) × (after ≡ before) × IsRefusal fault answer

-- The leaves were looked at up to the first with a count, and that one was reset.
pub record ClearsFirst (old new : ShareSeen) (token : Token) (before after : UserState) (answer : Answer) : Type 0 where
  pub mid : ShareSeen
  pub found : Result (Option Bytes) StoreFault
  pub looks : Looks old mid (IsErrOf found faults.Failed) (len before.stored.factors)
      (TellsFirst (entries before.stored.factors) found)
  pub only : IfErr found IsListFault
  pub ends : ClearEnds mid new token found before after answer
