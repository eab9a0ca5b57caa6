-- What accounts' books say, by how the accounts were opened and what moved their states.
use Rattle.std.proofs.Common.{◌≡◌, ℕ, ◌+◌, List, [], ◌∷◌, map, Option, subst}
use Rattle.share_api.specs.Contents.{Bytes}
use Rattle.share_api.specs.declared.step.Step.{Step}
use Rattle.turn_lock.specs.Seats.{LockId}
use Rattle.platform_lock.specs.Devices.{DeviceSeen}
use Rattle.platform_lock.specs.Seats.{AccountView}
use Rattle.home_locks.specs.Accounts.{started_at}
use Rattle.home_locks.specs.Settled.{IsMoved, AreMoved}
use Rattle.home_locks.specs.declared.account.Entry.{Entry}
use Rattle.turn_meaning.specs.Moves.{MovesAccount}
use Rattle.turn_meaning.specs.declared.taken.TurnTaken.{TurnTaken}
use Rattle.home_seats.specs.Seats.{LockSeen}
use Rattle.home_opening.specs.Opened.{AreOpenedFrom, IsOpenedAt}
use Rattle.home_opening.specs.declared.opening.Opening.{Opening}
use Rattle.serve_run.specs.Says.{AccountSays, AccountsSay}

module _ (device : DeviceSeen) (shared : LockId) (opening : Opening) (chain : List Step) where
  -- an account that was opened, and moved since
  account_says : (account : ℕ) (name : Bytes) (at : LockSeen) (book : List (Entry TurnTaken))
      → IsOpenedAt device shared opening account name at
      → IsMoved (MovesAccount device.era) chain account (started_at at.seat at.state) book
      → AccountSays device shared opening chain account name book
  account_says account name at book is moves =
      let moved = subst (λ (seat : Option AccountView). IsMoved (MovesAccount device.era) chain account
      (started_at seat at.state) book) is.of.start_is moves in
      record {
        early = is.of.start.seat.own;
        own = moved.own;
        steps_are = moved.steps_are;
        start = at.state;
        opened = is.opened;
        last = moved.after;
        moved = moved.led;
      }

  -- so are all
  pub accounts_say : (account : ℕ) (names : List Bytes) (locks : List LockSeen) (books : List (List (Entry TurnTaken)))
      → AreOpenedFrom device shared opening account names locks
      → AreMoved (MovesAccount device.era) chain account (map (λ (at : LockSeen). started_at at.seat at.state) locks) books
      → AccountsSay device shared opening chain account names books
  accounts_say account [] [] [] is moves = tt
  accounts_say account [] [] (book ∷ books) is moves = absurd moves
  accounts_say account [] (at ∷ locks) books is moves = absurd is
  accounts_say account (name ∷ names) [] books is moves = absurd is
  accounts_say account (name ∷ names) (at ∷ locks) [] is moves = absurd moves
  accounts_say account (name ∷ names) (at ∷ locks) (book ∷ books) is moves = (
    account_says account name at book is.0 moves.0,
    accounts_say (account + 1) names locks books is.1 moves.1,
  )
