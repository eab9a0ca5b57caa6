-- The clients so far have the first numbers, and room for their seats.
use Rattle.std.proofs.Common.{◌≡◌, map}
use Rattle.std.specs.List.{range_with_len}
use Rattle.client_seats.specs.Dealing.{room_view, without_seats}
use Rattle.client_seats.proofs.dealing.clients_without_seats.Given as goal

abbrev pub invariant-loop-number : goal.invariant-loop-number
invariant-loop-number g l =
    map room_view l.made.items ≡ map (without_seats l.accounts) (range_with_len 0 l.number)
