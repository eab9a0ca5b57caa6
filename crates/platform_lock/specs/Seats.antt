-- What a contract sees of an account's seat and of its share.
use Rattle.std.specs.Prelude.{◌≡◌, ℕ, ◌%◌, ◌^◌, List, [], ◌∷◌, ◌++◌, Option, None, Some, IsSomeAnd, Result}
use Rattle.share_api.specs.Seen.{ShareSeen, Makes, step_of}
use Rattle.share_api.specs.declared.fault.ShareFault.{ShareFault}
use Rattle.share_api.specs.declared.step.Op.{Op}
use Rattle.share_api.specs.declared.step.Reply.{Reply}
use Rattle.share_api.specs.declared.step.Step.{Step}
use Rattle.turn_lock.specs.Seats.{LockId, SeatView}
use Rattle.platform_lock.specs.Answers.{IsAnswerTo}
use Rattle.platform_lock.specs.Devices.{DeviceSeen, HasAccount, owner_at}
use Rattle.platform_lock.specs.declared.answer.Answer.{Answer}

-- an account's seat of the platform's lock, how often the account's steps have failed, and for how many more
-- it has memory
pub record AccountView : Type 0 where
  pub seat : SeatView Step
  pub faults : ℕ
  pub spare : ℕ

-- the entries that the seat knows
abbrev pub own_at : Option (SeatView Step) → List (ℕ × Step)
own_at None = []
own_at (Some seat) = seat.own

-- An account's share for a turn: what the platform was when its lock was made, the lock, and the account's seat of
-- it. `place` is that of the turn's last step.
pub record ShareView : Type 0 where
  pub device : DeviceSeen
  pub lock : LockId
  pub seat : Option (SeatView Step)
  pub account : ℕ
  pub place : ℕ
  pub faults : ℕ
  pub spare : ℕ

-- The share as its trait sees it: its steps are those that its seat knows.
abbrev pub seen_of : ShareView → ShareSeen
seen_of share = record {
  account = share.account;
  owner = owner_at share.device share.account;
  own = own_at share.seat;
  place = share.place;
  faults = share.faults;
  era = share.device.era;
  spare = share.spare;
  lost = share.device.lost;
}

-- a share that has made no step in its turn
abbrev pub new_share : DeviceSeen → AccountView → ShareView
new_share device own = record {
  device = device;
  lock = own.seat.lock;
  seat = Some own.seat;
  account = own.seat.caller;
  place = 0;
  faults = own.faults;
  spare = own.spare;
}

-- a seat of this lock, of the account with this number
pub record IsOwnSeat (lock : LockId) (account : ℕ) (seat : SeatView Step) : Type 0 where
  pub of : seat.lock ≡ lock
  pub caller : seat.caller ≡ account

-- The seat is there, and of an account of the platform.
pub record IsSeated (device : DeviceSeen) (lock : LockId) (account : ℕ) (seat : Option (SeatView Step)) : Type 0 where
  pub seated : IsSomeAnd seat (IsOwnSeat lock account)
  pub served : HasAccount device account

-- the seat has this step more, at some place that is this one modulo 2^64
abbrev pub AddsStep : SeatView Step → SeatView Step → ℕ → Step → Type 0
AddsStep old new reduced step = (place : ℕ) × (reduced ≡ place % 2 ^ 64)
    × (new ≡ record old { own = old.own ++ (place, step) ∷ [] })

-- The share of the same account after some steps: its seat is of the same lock, and knows what it knew and perhaps
-- more steps.
abbrev pub IsSameShare : ShareView → ShareView → Type 0
IsSameShare old new = (new.lock ≡ old.lock)
    × ((seat : SeatView Step) → old.seat ≡ Some seat
    → (after : SeatView Step) × (new.seat ≡ Some after) × (after ≡ record seat { own = after.own }))

-- the share made this step, and answered so
pub record AnswersStep (old new : ShareSeen) (moment : ℕ) (op : Op) (answer : Result Answer ShareFault) : Type 0 where
  pub reply : Reply
  pub answers : IsAnswerTo old.lost op answer reply
  pub makes : Makes old new (step_of old moment op reply)
