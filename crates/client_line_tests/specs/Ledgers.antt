-- Ledgers, and clients' seats of their locks.
use Rattle.std.specs.Prelude.{ℕ, List, [], ◌∷◌, ◌++◌, map, Option, None, Some}
use Rattle.account_machine.specs.declared.answer.Answer.{Answer}
use Rattle.account_machine.specs.declared.answer.Answer.TheVariants as answers
use Rattle.account_machine.specs.declared.entry.Entry.{Entry}
use Rattle.account_machine.specs.declared.request.Request.TheVariants.{Authenticate}
use Rattle.account_machine.specs.declared.request.Turn.{Turn}
use Rattle.account_machine.specs.declared.request.Turn.TheVariants as turns
use Rattle.turn_lock.specs.Seats.{LockId, SeatView}
use Rattle.client_output.specs.Seats.{BareSeat}

abbrev pub caller_of : Entry → ℕ
caller_of entry = entry.caller

-- what is answered to a turn
abbrev pub answer_to : Turn → Answer
answer_to (turns.Look label) = answers.Seen None
answer_to (turns.Act (Authenticate account token label secret)) = answers.OkPassword 600
answer_to (turns.Act _) = answers.Ok
answer_to (turns.Clear token) = answers.PinsClear

-- the lock of a seat
abbrev pub lock_at : Option (SeatView Entry) → Option LockId
lock_at None = None
lock_at (Some seat) = Some seat.lock

-- a seat of a lock without what it knows
abbrev pub bare_at : LockId → Option (SeatView Entry) → BareSeat
bare_at lock None = record { lock = lock; caller = 0; others = [] }
bare_at lock (Some seat) =
    record { lock = lock; caller = seat.caller; others = map (λ known. known.0) seat.joined ++ seat.spare }

-- the entries that a seat knows
abbrev pub own_at : Option (SeatView Entry) → List Entry
own_at None = []
own_at (Some seat) = map (λ known. known.1) seat.own

-- the client's number
abbrev pub caller_in : List BareSeat → ℕ
caller_in [] = 0
caller_in (seat ∷ seats) = seat.caller
