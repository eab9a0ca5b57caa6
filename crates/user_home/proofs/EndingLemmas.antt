-- The accounts of a home, when it ends.
use Rattle.std.proofs.Common.{◌≡◌, ℕ, suc, zero, ◌+◌, List, [], ◌∷◌, map, length, refl, ap, ◌∙◌, arith}
use Rattle.std.specs.List.{AllByRecursion, range_with_len}
use Rattle.pw_types.specs.declared.era.Era.{Era}
use Rattle.image_path.specs.Showing.{ByAccount}
use Rattle.share_api.specs.declared.step.Step.{Step}
use Rattle.turn_lock.specs.Seats.{LockId, SeatView, Recalls}
use Rattle.client_seats.specs.Gathering.{EachAt, IsWholeSeat}
use Rattle.home_locks.specs.Closing.{AreRecalled, IsWhole, account_at}
use Rattle.home_locks.specs.Meanings.{Rules, client_of}
use Rattle.home_locks.specs.Settled.{Settles}
use Rattle.home_locks.specs.declared.account.Entry.{Entry}
use Rattle.home_seats.specs.Seats.{LockSeen}
use Rattle.home_opening.specs.Locks.{AccountSeen}
use Rattle.user_home.specs.Ending.{AreAccountLocks}

-- ---- lists and their images

module _ {X Y : Type 0} (P : Y → Type 0) (f : X → Y) where
  -- what holds of each image holds of the images
  pub all_images : (xs : List X) → AllByRecursion (λ x. P (f x)) xs → AllByRecursion P (map f xs)
  all_images [] all = tt
  all_images (x ∷ xs) all = (all.0, all_images xs all.1)

  pub all_of_images : (xs : List X) → AllByRecursion P (map f xs) → AllByRecursion (λ x. P (f x)) xs
  all_of_images [] all = tt
  all_of_images (x ∷ xs) all = (all.0, all_of_images xs all.1)

-- ---- each account's lock, with its joined seat

-- the lock of an account with all its numbers is whole
pub are_whole : (shared : LockId) (era : Era) (clients account : ℕ) (accounts : List AccountSeen)
    → AreAccountLocks shared era clients account (map (λ seen. seen.at) accounts)
    → AllByRecursion (λ seen. IsWholeSeat seen.at.lock seen.client) accounts
    → AllByRecursion (λ seen. IsWhole era shared seen.at.lock seen.at.seat seen.at.era seen.client) accounts
are_whole shared era clients account [] of whole = tt
are_whole shared era clients account (seen ∷ accounts) of whole = (
  record {
    of = whole.0.of;
    numbers = whole.0.numbers;
    era_is = of.0.era_is;
    start = of.0.start;
    start_is = of.0.start_is;
    start_of = ap (λ (seat : SeatView Step). seat.lock) of.0.start_of;
    joined = ap (λ (seat : SeatView Step). seat.joined) of.0.start_of;
    spare = ap (λ (seat : SeatView Step). seat.spare) of.0.start_of;
  },
  are_whole shared era clients (account + 1) accounts of.1 whole.1,
)

-- the accounts have all numbers, in order
pub numbers_are : (shared : LockId) (era : Era) (clients account : ℕ) (locks : List LockSeen)
    → AreAccountLocks shared era clients account locks
    → map (λ at. account_at at.seat) locks ≡ range_with_len account (length locks)
numbers_are shared era clients account [] of = refl
numbers_are shared era clients account (at ∷ locks) of =
    let here : account_at at.seat ≡ account =
    ap account_at of.0.start_is ∙ ap (λ (seat : SeatView Step). seat.caller) of.0.start_of in
    λ i. here i ∷ numbers_are shared era clients (account + 1) locks of.1 i

-- ---- no account

-- without accounts there is nothing to be read
pub settles_none : {C D U T X : Type 0} (rules : Rules C D U T X) (first now : ByAccount C)
    (images images_now : ByAccount C → Type 0) (chain : List Step) → Settles rules [] first now images images_now chain []
settles_none rules first now images images_now chain = record {
  at_one_place = λ user opened clean small image is. (0, omega arith, tt);
  ended = λ user opened clean small. tt;
  lasts = λ user opened clean small image may. tt;
}

-- ---- what clients knew

module _ {T : Type 0} where
  -- there is a book for each account
  pub as_many : (seats : List (SeatView (Entry T))) (books : List (List (Entry T))) → AreRecalled seats books
      → length books ≡ length seats
  as_many [] [] recalled = refl
  as_many [] (book ∷ books) recalled = absurd recalled
  as_many (seat ∷ seats) [] recalled = absurd recalled
  as_many (seat ∷ seats) (book ∷ books) recalled = ap suc (as_many seats books recalled.1)

  -- what holds of each seat with its place holds so of each book
  pub each_recalled : (Q : ℕ → SeatView (Entry T) → Type 0) (R : ℕ → List (Entry T) → Type 0)
      (seats : List (SeatView (Entry T))) (books : List (List (Entry T)))
      → ((account : ℕ) (seat : SeatView (Entry T)) (book : List (Entry T)) → Q account seat
      → Recalls client_of book seat → R account book)
      → AreRecalled seats books
      → EachAt Q seats
      → EachAt R books
  each_recalled Q R [] [] gives recalled each place d below = absurd (omega (arith, below))
  each_recalled Q R [] (book ∷ books) gives recalled each place d below = absurd recalled
  each_recalled Q R (seat ∷ seats) [] gives recalled each place d below = absurd recalled
  each_recalled Q R (seat ∷ seats) (book ∷ books) gives recalled each zero d below =
      gives 0 seat book (each 0 seat (omega arith)) recalled.0
  each_recalled Q R (seat ∷ seats) (book ∷ books) gives recalled each (suc place) d below =
      each_recalled (λ account. Q (suc account)) (λ account. R (suc account)) seats books
      (λ account seat book. gives (suc account) seat book) recalled.1
      (λ account e under. each (suc account) e (omega (arith, under))) place d (omega (arith, below))

-- what holds of each image with its place
pub each_image : {X Y : Type 0} (P : ℕ → Y → Type 0) (f : X → Y) (xs : List X) → EachAt (λ n x. P n (f x)) xs
    → EachAt P (map f xs)
each_image P f [] each place d below = absurd (omega (arith, below))
each_image P f (x ∷ xs) each zero d below = each 0 x (omega arith)
each_image P f (x ∷ xs) each (suc place) d below =
    each_image (λ n. P (suc n)) f xs (λ n e under. each (suc n) e (omega (arith, under))) place d
    (omega (arith, below))
