-- The clients of a home that was begun have all numbers of each of its locks.
use Rattle.std.proofs.Common.{◌≡◌, ℕ, zero, suc, ◌+◌, ◌<◌, List, [], ◌∷◌, map, refl, sym, Result, Ok, Err, ap, ◌∙◌, subst, arith}
use Rattle.std.specs.Prelude.{IfOk}
use Rattle.std.specs.List.{AllByRecursion, range_with_len}
use Rattle.share_api.specs.Contents.{Bytes}
use Rattle.turn_lock.specs.Lists.{count_of}
use Rattle.turn_lock.specs.Seats.{LockId}
use Rattle.turn_lock.proofs.Counts.{count_of-range_with_len}
use Rattle.platform_lock.specs.Devices.{DeviceSeen}
use Rattle.client_seats.specs.Clients.{ClientView, new_client}
use Rattle.client_seats.specs.Gathering.{HaveEachNumber}
use Rattle.home_seats.specs.Seats.{LockSeen}
use Rattle.home_opening.specs.Opened.{AreOpenedFrom}
use Rattle.home_opening.specs.declared.opening.Opening.{Opening}

-- ---- what holds of a result

module _ {A E : Type 0} where
  -- what follows of each value follows of the result's
  pub weaker_ok : (result : Result A E) (P Q : A → Type 0) → ((a : A) → P a → Q a) → IfOk result P → IfOk result Q
  weaker_ok (Ok a) P Q gives p = gives a p
  weaker_ok (Err e) P Q gives p = tt

  -- and both of two
  pub both_ok : (result : Result A E) (P Q : A → Type 0) → IfOk result P → IfOk result Q → IfOk result (λ a. P a × Q a)
  both_ok (Ok a) P Q p q = (p, q)
  both_ok (Err e) P Q p q = tt

-- ---- numbers

-- images of images
pub images_of : {A X Y : Type 0} (g : X → Y) (f : A → X) (xs : List A) → map g (map f xs) ≡ map (λ x. g (f x)) xs
images_of g f [] = refl
images_of g f (x ∷ xs) = ap (λ (rest : List _). g (f x) ∷ rest) (images_of g f xs)

-- new clients have the numbers from the first one on
new_numbers : (E : Type 0) (locks : List LockId) (first count : ℕ)
    → map (λ (client : ClientView E). client.number) (map (new_client {E = E} locks) (range_with_len first count))
    ≡ range_with_len first count
new_numbers E locks first zero = refl
new_numbers E locks first (suc count) = ap (λ (rest : List ℕ). first ∷ rest) (new_numbers E locks (first + 1) count)

-- so have clients that are seen as new ones, and these are all numbers below their count
pub dealt_have_numbers : {T E : Type 0} (view : T → ClientView E) (locks : List LockId) (count : ℕ) (clients : List T)
    → map view clients ≡ map (new_client locks) (range_with_len 0 count)
    → HaveEachNumber (map (λ client. (view client).number) clients) count
dealt_have_numbers {E = E} view locks count clients dealt number within =
    let numbers : map (λ client. (view client).number) clients ≡ range_with_len 0 count =
    sym (images_of (λ (client : ClientView E). client.number) view clients)
    ∙ ap (λ (seen : List (ClientView E)). map (λ client. client.number) seen) dealt
    ∙ new_numbers E locks 0 count in
    let once = (count_of-range_with_len 0 count number).inside (omega arith) (omega (arith, within)) in
    subst (λ (have : List ℕ). 0 < count_of number have) (sym numbers) (omega (arith, once))

-- so each lock of accounts that were opened has its numbers among them
pub have_numbers : (device : DeviceSeen) (shared : LockId) (opening : Opening) (numbers : List ℕ) (account : ℕ)
    (names : List Bytes) (locks : List LockSeen)
    → AreOpenedFrom device shared opening account names locks
    → HaveEachNumber numbers opening.clients
    → AllByRecursion (λ at. HaveEachNumber numbers at.lock.callers) locks
have_numbers device shared opening numbers account [] [] opened have = tt
have_numbers device shared opening numbers account [] (at ∷ locks) opened have = absurd opened
have_numbers device shared opening numbers account (name ∷ names) [] opened have = absurd opened
have_numbers device shared opening numbers account (name ∷ names) (at ∷ locks) opened have = (
  subst (HaveEachNumber numbers) (sym opened.0.of.callers) have,
  have_numbers device shared opening numbers (account + 1) names locks opened.1 have,
)

-- what holds of each image
pub each_of : {A X : Type 0} (P : X → Type 0) (f : A → X) (xs : List A) → AllByRecursion P (map f xs)
    → AllByRecursion (λ x. P (f x)) xs
each_of P f [] all = tt
each_of P f (x ∷ xs) all = (all.0, each_of P f xs all.1)
