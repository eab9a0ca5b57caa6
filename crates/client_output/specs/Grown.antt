-- What a client's seat knows, before and after some lines.
use Rattle.std.specs.Prelude.{◌≡◌, ℕ, Bool, List, [], ◌++◌, map, MatchBool, bytes_eq, if◌then◌else◌}
use Rattle.std.specs.List.{AllByRecursion}
use Rattle.pw_types.specs.Moment.{cut_moment}
use Rattle.request_loop.specs.Exchange.{Exchange}
use Rattle.account_machine.specs.Asked.{account_of}
use Rattle.account_machine.specs.declared.answer.Answer.{Answer}
use Rattle.account_machine.specs.declared.answer.Answer.TheVariants as answers
use Rattle.account_machine.specs.declared.entry.Entry.{Entry}
use Rattle.account_machine.specs.declared.request.Request.{Request}
use Rattle.client_output.specs.Turns.{Makes}
use Rattle.client_output.specs.Output.{Owned, LineTurns, LineGives, IsToldOf, accounts_in, is_among, turns_for}

-- a client's seat of a home: the client's number, and its own entries of each account
pub record SeatSeen : Type 0 where
  pub caller : ℕ
  pub owned : List Owned

-- an account with more entries behind its own
abbrev pub with_more : Owned → List Entry → Owned
with_more own turns = record own { entries = own.entries ++ turns }

-- more entries of one account
abbrev pub grown_at : List ℕ → List Entry → List Owned → List Owned
grown_at account turns owned =
    map (λ own. with_more own (if bytes_eq own.account account then turns else [])) owned

-- the account that is asked has the turns of this request more, which gave the answer that was told
pub record MakesTurns (old new : SeatSeen) (request : Request) (moment : ℕ) (told : Answer) : Type 0 where
  pub answer : Answer
  pub turns : List Entry
  pub told_is : IsToldOf answer told
  pub makes : Makes old.caller (cut_moment moment) request answer turns
  pub owned : new.owned ≡ grown_at (account_of request) turns old.owned

-- What a call does to a seat: the turns of the request, or nothing where the account isn't served.
pub record Calls (old new : SeatSeen) (request : Request) (moment : ℕ) (told : Answer) : Type 0 where
  pub caller : new.caller ≡ old.caller
  pub owned : MatchBool (is_among (account_of request) (accounts_in old.owned))
      (MakesTurns old new request moment told)
      ((told ≡ answers.UnknownAccount) × (new.owned ≡ old.owned))

-- the own entries after these lines
abbrev pub grown_by : Bool → List LineTurns → List Owned → List Owned
grown_by pins lines owned = map (λ own. with_more own (turns_for pins own.account lines)) owned

-- since it was the first, the seat has answered these lines so, and no others
pub record Grew (pins : Bool) (start now : SeatSeen) (exchanges : List Exchange) : Type 0 where
  pub lines : List LineTurns
  pub exchanged : map (λ line. line.exchange) lines ≡ exchanges
  pub each : AllByRecursion (LineGives pins (accounts_in start.owned) start.caller) lines
  pub caller : now.caller ≡ start.caller
  pub used : now.owned ≡ grown_by pins lines start.owned
