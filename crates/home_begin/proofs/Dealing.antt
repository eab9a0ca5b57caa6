-- The locks of accounts and their seats, apart and together again.
use Rattle.std.proofs.Common.{◌≡◌, ℕ, suc, ◌+◌, ◌<◌, List, [], ◌∷◌, ◌++◌, map, length, reverse, All, Option, None, Some, inl, refl, sym, ap, ◌∙◌, subst, arith}
use Rattle.std.specs.List.{AllByRecursion, range_with_len}
use Rattle.std.specs.Prelude.{IfNone, IfSome}
use Rattle.pw_types.specs.declared.era.Era.{Era}
use Rattle.share_api.specs.declared.step.Step.{Step}
use Rattle.turn_lock.specs.Lists.{count_of}
use Rattle.turn_lock.specs.Seats.{Lock, LockId, SeatView, HasEachNumber, first_seat, numbers_of}
use Rattle.turn_lock.proofs.Counts.{count_of-range_with_len}
use Rattle.platform_lock.specs.Devices.{DeviceSeen}
use Rattle.home_locks.specs.declared.account.Entry.{Entry}
use Rattle.turn_meaning.specs.declared.taken.TurnTaken.{TurnTaken}
use Rattle.home_opening.specs.Locks.{AccountSeen, AreNewLocks}
use Rattle.home_opening.specs.Numbers.{AreSameNumbers, known_at, known_by}
use Rattle.home_opening.specs.Opened.{AreOpenedLocks, KnowsOpenings}
use Rattle.home_opening.specs.declared.opening.Opening.{Opening}
use Rattle.home_opening.proofs.KnownLemmas.{openings_alone}

-- ---- lists and their images

abbrev head_or : {A : Type 0} → A → List A → A
head_or other [] = other
head_or other (x ∷ xs) = x

abbrev rest_of : {A : Type 0} → List A → List A
rest_of [] = []
rest_of (x ∷ xs) = xs

-- images of images that are the same are the same
pub same_images : {A X Y Z : Type 0} (g : X → Y) (f : A → X) (h : Z → Y) (k : A → Z) (xs : List A)
    → ((x : A) → g (f x) ≡ h (k x))
    → map g (map f xs) ≡ map h (map k xs)
same_images g f h k [] same = refl
same_images g f h k (x ∷ xs) same = λ i. same x i ∷ same_images g f h k xs same i

module _ {X T : Type 0} (lock_of : X → Lock T) (seat_of : X → SeatView (Entry TurnTaken)) (f : X → AccountSeen)
    (lock_is : (x : X) → (f x).at.lock ≡ (lock_of x).id) (seat_is : (x : X) → (f x).client ≡ seat_of x)
    (shared : LockId) (era : Era) (clients : ℕ) where
  -- new locks are for so many clients
  pub callers_are : (xs : List X) → AreNewLocks shared era clients (map f xs)
      → AllByRecursion (λ lock. lock.id.callers ≡ clients) (map lock_of xs)
  callers_are [] new = tt
  callers_are (x ∷ xs) new = (
    ap (λ (lock : LockId). lock.callers) (sym (lock_is x)) ∙ new.0.0.1.callers,
    callers_are xs new.1,
  )

  -- and each seat is its lock's first one
  pub seats_are : (xs : List X) → AreNewLocks shared era clients (map f xs)
      → map seat_of xs ≡ map (λ lock. first_seat lock.id) (map lock_of xs)
  seats_are [] new = refl
  seats_are (x ∷ xs) new = λ i.
      (sym (seat_is x) ∙ new.0.1.first ∙ ap first_seat (lock_is x)) i ∷ seats_are xs new.1 i

-- ---- together again

module _ {X T : Type 0} (lock_of : X → Lock T) (seat_of : X → SeatView (Entry TurnTaken)) (f : X → AccountSeen)
    (same : (x y : X) → lock_of x ≡ lock_of y → seat_of x ≡ seat_of y → f x ≡ f y) where
  -- accounts with the same locks and seats are the same
  pub same_accounts : (xs ys : List X) → map lock_of xs ≡ map lock_of ys → map seat_of xs ≡ map seat_of ys
      → map f xs ≡ map f ys
  same_accounts [] [] locks seats = refl
  same_accounts [] (y ∷ ys) locks seats = absurd (let long = ap length locks in omega (arith, long))
  same_accounts (x ∷ xs) [] locks seats = absurd (let long = ap length locks in omega (arith, long))
  same_accounts (x ∷ xs) (y ∷ ys) locks seats = λ i.
      same x y (ap (head_or (lock_of x)) locks) (ap (head_or (seat_of x)) seats) i
      ∷ same_accounts xs ys (ap rest_of locks) (ap rest_of seats) i

-- a seat that has as often the numbers of all accounts has each number
pub each_counted : (shared : LockId) (accounts : ℕ) (numbers : List ℕ) (seat : SeatView Step)
    → seat.lock ≡ shared
    → shared.callers ≡ accounts
    → numbers ≡ range_with_len 0 accounts
    → AreSameNumbers (numbers_of seat) numbers
    → HasEachNumber seat
each_counted shared accounts numbers seat of callers are same number below =
    let many : seat.lock.callers ≡ shared.callers = ap (λ (lock : LockId). lock.callers) of in
    let once = (count_of-range_with_len 0 accounts number).inside (omega arith)
    (omega (arith, many, callers, below)) in
    let here = same number in
    let there = ap (count_of number) are in
    omega (arith, once, here, there)

-- The seat with all numbers knows of openings alone: it is the lock's first one where there is no account, and knows
-- what all accounts knew where there are some.
pub whole_knows : (device : DeviceSeen) (shared : LockId) (opening : Opening) (idle : Option (SeatView Step))
    (whole : SeatView Step) (accounts : List AccountSeen)
    → IfSome idle (λ seat. seat ≡ first_seat shared)
    → IfSome idle (λ seat. whole ≡ seat)
    → IfNone idle (known_by whole ≡ reverse (known_at accounts))
    → AreOpenedLocks device shared opening accounts
    → KnowsOpenings device shared opening whole
whole_knows device shared opening None whole accounts first is known opened =
    openings_alone device shared opening whole accounts known opened
whole_knows device shared opening (Some seat) whole accounts first is known opened =
    subst (KnowsOpenings device shared opening) (sym (is ∙ first)) (inl refl, tt)
