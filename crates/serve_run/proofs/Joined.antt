-- What a home that was begun and ended left.
use Rattle.std.proofs.Common.{◌≡◌, ℕ, ◌<◌, List, length, map, Option}
use Rattle.account_machine.specs.User.{opened}
use Rattle.account_machine.specs.declared.user.Durable.{Durable}
use Rattle.share_api.specs.Contents.{Bytes}
use Rattle.share_api.specs.declared.step.Step.{Step}
use Rattle.turn_lock.specs.Seats.{LockId, SeatView}
use Rattle.board_device.specs.Device.{era_of, seen_by}
use Rattle.board_device.specs.declared.device.BoardDevice.{BoardDevice}
use Rattle.home_locks.specs.Accounts.{started_at}
use Rattle.home_locks.specs.Settled.{AreOpened}
use Rattle.home_locks.specs.declared.account.Entry.{Entry}
use Rattle.turn_meaning.specs.Meanings.{HoldsPart, user_rules}
use Rattle.turn_meaning.specs.declared.taken.TurnTaken.{TurnTaken}
use Rattle.user_accounts.specs.Parts.{parts_of}
use Rattle.home_seats.specs.Seats.{LockSeen}
use Rattle.home_opening.specs.declared.opening.Opening.{Opening}
use Rattle.home_begin.specs.Begins.{IsBegun}
use Rattle.serve_run.specs.Histories.{ArePremises, AreTold, Histories, IsEnded, users_of}
use Rattle.serve_run.specs.Outside.{Outside}
use Rattle.serve_run.proofs.Saying.{accounts_say}

module _ {B S K C : Type 0} (outside : Outside B S K C) (handed : B) (named : List Bytes) (opening : Opening)
    (first : BoardDevice B) (shared : LockId) (names : List Bytes) (locks : List LockSeen)
    (idle : Option (SeatView Step)) where
  -- where each account's part holds a durable part, the accounts are opened with these
  abbrev pub Opens : Type 0
  Opens = (durable : ℕ → Durable)
      → ((account : ℕ) → account < length names → HoldsPart (parts_of outside.disk first account) (durable account))
      → AreOpened (user_rules (era_of first)) (parts_of outside.disk first)
      (λ account. opened (durable account) opening.moment) 0
      (map (λ at. started_at at.seat at.state) locks)

  -- its end tells of its books what they are to the board
  pub histories_of : (now : Option B) (books : List (List (Entry TurnTaken)))
      → IsBegun outside.disk outside.board_faults handed named opening first shared names locks idle
      → Opens
      → length books ≡ length names
      → IsEnded outside first (map (λ at. started_at at.seat at.state) locks) now books
      → Histories outside handed named opening now names books
  histories_of now books begun opens many ended = record {
    first = first;
    last = ended.0;
    chain = ended.1;
    shared = shared;
    locks = locks;
    idle = idle;
    begun = begun;
    many = many;
    now_is = ended.2;
    served = ended.3;
    says = accounts_say (seen_by outside.board_faults first) shared opening ended.1 0 names locks books begun.opened ended.4;
    right = λ durable premises.
        let opened = begun.device_is.right premises.told premises.agrees in
        let settles = ended.5 opened in
        let are = opens durable premises.held in
        record {
          at_one_place = settles.at_one_place (users_of durable opening.moment) are premises.clean premises.short;
          ended = settles.ended (users_of durable opening.moment) are premises.clean premises.short;
          lasts = settles.lasts (users_of durable opening.moment) are premises.clean premises.short;
          others = ended.3.chain_stands.platform.others opened;
        };
  }
