-- The accounts' locks with their joined seats, before they are closed.
use Rattle.std.proofs.Common.{◌≡◌, ℕ, List, map, length, All, sym, ap, ◌∙◌, subst}
use Rattle.std.proofs.lemmas.List.{length-map}
use Rattle.std.proofs.lemmas.List.Elements.{recursion_from_All, All-from_recursion}
use Rattle.std.proofs.lemmas.Simd.{map-map}
use Rattle.std.specs.List.{AllByRecursion, range_with_len}
use Rattle.account_machine.specs.declared.user.Durable.{Durable}
use Rattle.account_machine.specs.declared.user.User.{User}
use Rattle.board_device.specs.declared.device.BoardDevice.{BoardDevice}
use Rattle.client_seats.specs.Gathering.{IsWholeSeat}
use Rattle.client_seats.specs.declared.seats.WholeLock.{WholeLock}
use Rattle.home_locks.specs.Accounts.{started_at}
use Rattle.home_locks.specs.Closing.{IsWhole, account_at}
use Rattle.home_locks.specs.declared.account.Account.{Account}
use Rattle.home_locks.specs.declared.account.Entry.{Entry}
use Rattle.home_locks.specs.declared.ending.Part.{Part}
use Rattle.pw_types.specs.declared.era.Era.{Era}
use Rattle.turn_lock.specs.Seats.{Lock, LockId}
use Rattle.turn_meaning.specs.declared.taken.TurnTaken.{TurnTaken}
use Rattle.user_accounts.specs.declared.asked.TurnAsked.{TurnAsked}
use Rattle.user_accounts.specs.declared.part.AccountPart.{AccountPart}
use Rattle.user_accounts.specs.declared.told.TurnTold.{TurnTold}
use Rattle.user_accounts.specs.declared.turns.UserTurns.{UserTurns}
use Rattle.user_state.specs.declared.state.UserState.{UserState}
use Rattle.home_seats.specs.Seats.{LockSeen, lock_seen}
use Rattle.home_opening.specs.Locks.{AccountSeen, account_seen}
use Rattle.user_home.specs.Ending.{AreAccountLocks}
use Rattle.user_home.proofs.EndingLemmas.{all_images, all_of_images, are_whole, numbers_are}

-- a user behind a lock of the board, and its lock with the joined seat, for the clients and for the end
abbrev pub LockedUser : Type 0 → Type 0
LockedUser B = Account (UserTurns B) (BoardDevice B) AccountPart Durable User TurnAsked TurnTaken TurnTold UserState

abbrev pub UserPart : Type 0 → Type 0
UserPart B = Part (UserTurns B) (BoardDevice B) AccountPart Durable User TurnAsked TurnTaken TurnTold UserState

abbrev pub UserWhole : Type 0 → Type 0
UserWhole B = WholeLock (LockedUser B) (Entry TurnTaken)

module _ {B : Type 0} where
  abbrev pub part_seen : UserPart B → AccountSeen
  part_seen part =
      account_seen part.lock.id part.lock.first.seat part.lock.first.state part.lock.first.era part.seat

  abbrev pub whole_seen : UserWhole B → AccountSeen
  whole_seen whole =
      account_seen whole.lock.id whole.lock.first.seat whole.lock.first.state whole.lock.first.era whole.seat

  abbrev pub seen_lock : Lock (LockedUser B) → LockSeen
  seen_lock lock = lock_seen lock.id lock.first.seat lock.first.state lock.first.era

  -- what a contract sees of the locks of the joined seats are the locks
  pub whole_locks : (wholes : List (UserWhole B)) (locks : List (Lock (LockedUser B)))
      → map (λ whole. whole.lock) wholes ≡ locks
      → map (λ whole. seen_lock whole.lock) wholes ≡ map seen_lock locks
  whole_locks wholes locks are =
      sym (map-map seen_lock (λ (whole : UserWhole B). whole.lock) wholes)
      ∙ ap (λ (all : List (Lock (LockedUser B))). map seen_lock all) are

  -- so are their starts
  pub whole_starts : (wholes : List (UserWhole B)) (locks : List (Lock (LockedUser B)))
      → map (λ whole. whole.lock) wholes ≡ locks
      → map (λ whole. started_at whole.lock.first.seat whole.lock.first.state) wholes
      ≡ map (λ lock. started_at lock.first.seat lock.first.state) locks
  whole_starts wholes locks are =
      sym (map-map (λ (lock : Lock (LockedUser B)). started_at lock.first.seat lock.first.state)
      (λ (whole : UserWhole B). whole.lock) wholes)
      ∙ ap (λ (all : List (Lock (LockedUser B))). map (λ lock. started_at lock.first.seat lock.first.state) all) are

  module _ (parts : List (UserPart B)) (wholes : List (UserWhole B))
      (same : map part_seen parts ≡ map whole_seen wholes) where
    -- the accounts are the same for the end
    same_of : {X : Type 0} (f : AccountSeen → X)
        → map (λ part. f (part_seen part)) parts ≡ map (λ whole. f (whole_seen whole)) wholes
    same_of f = sym (map-map f part_seen parts) ∙ ap (λ (all : List AccountSeen). map f all) same
        ∙ map-map f whole_seen wholes

    pub same_starts : map (λ part. started_at part.lock.first.seat part.lock.first.state) parts
        ≡ map (λ whole. started_at whole.lock.first.seat whole.lock.first.state) wholes
    same_starts = same_of (λ (seen : AccountSeen). started_at seen.at.seat seen.at.state)

    pub same_clients : map (λ part. part.seat) parts ≡ map (λ whole. whole.seat) wholes
    same_clients = same_of (λ (seen : AccountSeen). seen.client)

    module _ (shared : LockId) (era : Era) (clients : ℕ)
        (of : AreAccountLocks shared era clients 0 (map (λ whole. seen_lock whole.lock) wholes)) where
      -- each lock is whole
      pub parts_whole : All (λ whole. IsWholeSeat whole.lock.id whole.seat) wholes
          → All (λ part. IsWhole era shared part.lock.id part.lock.first.seat part.lock.first.era part.seat) parts
      parts_whole whole =
          let P : AccountSeen → Type 0 = λ seen. IsWhole era shared seen.at.lock seen.at.seat seen.at.era seen.client in
          let seats : AllByRecursion (λ (seen : AccountSeen). IsWholeSeat seen.at.lock seen.client)
          (map whole_seen wholes) =
          all_images (λ (seen : AccountSeen). IsWholeSeat seen.at.lock seen.client) whole_seen wholes
          (recursion_from_All (λ (w : UserWhole B). IsWholeSeat w.lock.id w.seat) wholes whole) in
          let locks : AreAccountLocks shared era clients 0
          (map (λ (seen : AccountSeen). seen.at) (map whole_seen wholes)) =
          subst (AreAccountLocks shared era clients 0)
          (sym (map-map (λ (seen : AccountSeen). seen.at) whole_seen wholes)) of in
          All-from_recursion (λ (part : UserPart B). P (part_seen part)) parts
          (all_of_images P part_seen parts
          (subst (AllByRecursion P) (sym same)
          (are_whole shared era clients 0 (map whole_seen wholes) locks seats)))

      -- the numbers are all those of the platform's lock
      pub parts_numbers : shared.callers ≡ length wholes
          → map (λ part. account_at part.lock.first.seat) parts ≡ range_with_len 0 shared.callers
      parts_numbers many =
          same_of (λ (seen : AccountSeen). account_at seen.at.seat)
          ∙ sym (map-map (λ (at : LockSeen). account_at at.seat) (λ (w : UserWhole B). seen_lock w.lock) wholes)
          ∙ numbers_are shared era clients 0 (map (λ (w : UserWhole B). seen_lock w.lock) wholes) of
          ∙ ap (range_with_len 0) (length-map wholes (λ (w : UserWhole B). seen_lock w.lock) ∙ sym many)
