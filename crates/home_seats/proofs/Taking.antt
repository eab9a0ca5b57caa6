-- A turn behind an account's lock, as the turns of a request take it.
use Rattle.std.proofs.Common.{◌≡◌, ℕ, List, [], ◌∷◌, ◌++◌, Option, Some, refl, sym, ap, ◌∙◌, subst}
use Rattle.std.proofs.lemmas.List.{map-append}
use Rattle.account_machine.specs.declared.entry.Entry.{Entry as MachineEntry}
use Rattle.account_machine.specs.declared.request.Turn.{Turn}
use Rattle.turn_lock.specs.Seats.{SeatView}
use Rattle.home_locks.specs.Accounts.{AddsTurn}
use Rattle.home_locks.specs.declared.account.Entry.{Entry}
use Rattle.request_turns.specs.Taken.{Takes}
use Rattle.turn_meaning.specs.declared.taken.TurnTaken.{TurnTaken}
use Rattle.user_accounts.specs.Told.{TellsTurn}
use Rattle.user_accounts.specs.declared.asked.TurnAsked.{TurnAsked}
use Rattle.user_accounts.specs.declared.told.TurnTold.{TurnTold}
use Rattle.home_seats.specs.Seats.{entry_at, own_at}

-- the entry that the client's seat has more is the turn that was asked
pub takes : (given : ℕ) (turn : Turn) (old new : SeatView (Entry TurnTaken)) (asked : TurnAsked) (told : TurnTold)
    (place : ℕ)
    → asked.turn ≡ turn
    → asked.moment ≡ given
    → AddsTurn TellsTurn old new asked told place
    → Takes old.caller given turn (own_at (Some old)) (own_at (Some new)) told.answer
takes given turn old new asked told place of at adds = record {
  entry = entry_at adds.entry;
  is = record {
    caller_is = adds.client;
    given_is = adds.turn.given_is ∙ at;
    turn_is = adds.turn.turn_is ∙ of;
  };
  told_is = adds.turn.told_is;
  own = ap (λ (s : SeatView (Entry TurnTaken)). own_at (Some s)) adds.own
      ∙ map-append (λ (known : ℕ × Entry TurnTaken). entry_at known.1) old.own ((adds.place, adds.entry) ∷ []);
}
