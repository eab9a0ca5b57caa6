-- Which numbers seats have while accounts are opened and closed.
use Rattle.std.proofs.Common.{◌≡◌, ℕ, ◌+◌, ◌<◌, List, [], ◌∷◌, ◌++◌, map, length, Result, Ok, Err, refl, sym, ap, ◌∙◌, subst, append_assoc, arith}
use Rattle.std.specs.Prelude.{IfOk, IfErr}
use Rattle.std.proofs.lemmas.List.{map-append}
use Rattle.std.specs.List.{range_with_len}
use Rattle.pw_types.specs.declared.era.Era.{Era}
use Rattle.share_api.specs.declared.step.Step.{Step}
use Rattle.turn_lock.specs.Lists.{count_of}
use Rattle.turn_lock.specs.Seats.{LockId, SeatView, HasEachNumber, HasNumbersOf, numbers_of, new_seat}
use Rattle.turn_lock.proofs.Counts.{count_of-append}
use Rattle.platform_lock.specs.Devices.{DeviceSeen}
use Rattle.home_locks.specs.Closing.{account_at}
use Rattle.home_seats.specs.Seats.{LockSeen}
use Rattle.home_opening.specs.Locks.{AccountSeen, IsAccountLock}
use Rattle.home_opening.specs.Numbers.{AreSameNumbers, numbers_at}
use Rattle.home_opening.specs.Opened.{AreOpenedFrom, IsOpenedAt}
use Rattle.home_opening.specs.declared.opening.Opening.{Opening}
use Rattle.share_api.specs.Contents.{Bytes}

-- the account's number is that of its lock's first seat
pub account_number : (shared : LockId) (era : Era) (clients account : ℕ) (at : LockSeen)
    → IsAccountLock shared era clients account at
    → account_at at.seat ≡ account
account_number shared era clients account at new =
    ap account_at new.start_is ∙ ap (λ (s : SeatView Step). s.caller) new.start_of

-- accounts that were opened in order have the numbers in order
pub opened_numbers : (device : DeviceSeen) (shared : LockId) (opening : Opening) (account : ℕ) (names : List Bytes)
    (accounts : List AccountSeen)
    → AreOpenedFrom device shared opening account names (map (λ seen. seen.at) accounts)
    → numbers_at accounts ≡ range_with_len account (length names)
opened_numbers device shared opening account [] [] opened = refl
opened_numbers device shared opening account [] (seen ∷ all) opened = absurd opened
opened_numbers device shared opening account (name ∷ names) [] opened = absurd opened
opened_numbers device shared opening account (name ∷ names) (seen ∷ all) opened =
    λ i. account_number shared device.era opening.clients account seen.at opened.0.of i
    ∷ opened_numbers device shared opening (account + 1) names all opened.1 i

-- one number was given away and taken by an account
pub numbers_taken : (rest kept given refused : SeatView Step) (seen : AccountSeen) (old new : List AccountSeen)
    → HasNumbersOf rest kept given
    → numbers_of given ≡ account_at seen.at.seat ∷ []
    → AreSameNumbers (numbers_of refused ++ numbers_at new) (numbers_of kept ++ numbers_at (old ++ seen ∷ []))
    → AreSameNumbers (numbers_of refused ++ numbers_at new) (numbers_of rest ++ numbers_at old)
numbers_taken rest kept given refused seen old new split one same number =
    let account : List ℕ = account_at seen.at.seat ∷ [] in
    let at_old : numbers_at (old ++ seen ∷ []) ≡ numbers_at old ++ account =
    map-append (λ (s : AccountSeen). account_at s.at.seat) old (seen ∷ []) in
    let with_seen = count_of-append number (numbers_of kept) (numbers_at (old ++ seen ∷ [])) in
    let seen_last = ap (count_of number) at_old ∙ count_of-append number (numbers_at old) account in
    let without = count_of-append number (numbers_of rest) (numbers_at old) in
    let parts = split number in
    let taken = ap (count_of number) one in
    let all = same number in
    omega (arith, all, with_seen, seen_last, without, parts, taken)

-- the number that was given away came back
pub numbers_back : (rest kept given whole : SeatView Step) (old : List AccountSeen)
    → HasNumbersOf rest kept given
    → HasNumbersOf whole kept given
    → AreSameNumbers (numbers_of whole ++ numbers_at old) (numbers_of rest ++ numbers_at old)
numbers_back rest kept given whole old split joined number =
    let left = count_of-append number (numbers_of whole) (numbers_at old) in
    let right = count_of-append number (numbers_of rest) (numbers_at old) in
    let parts = split number in
    let back = joined number in
    omega (arith, left, right, parts, back)

-- the last account's number is joined, and then those of the others
pub numbers_joined : (seat own joined whole : SeatView Step) (seen : AccountSeen) (accounts others : List AccountSeen)
    → accounts ≡ others ++ seen ∷ []
    → HasNumbersOf joined seat own
    → numbers_of own ≡ account_at seen.at.seat ∷ []
    → AreSameNumbers (numbers_of whole) (numbers_of joined ++ numbers_at others)
    → AreSameNumbers (numbers_of whole) (numbers_of seat ++ numbers_at accounts)
numbers_joined seat own joined whole seen accounts others are joins one same number =
    let account : List ℕ = account_at seen.at.seat ∷ [] in
    let at_all : numbers_at accounts ≡ numbers_at others ++ account =
    ap numbers_at are ∙ map-append (λ (s : AccountSeen). account_at s.at.seat) others (seen ∷ []) in
    let left = count_of-append number (numbers_of joined) (numbers_at others) in
    let right = count_of-append number (numbers_of seat) (numbers_at accounts) in
    let seen_last = ap (count_of number) at_all ∙ count_of-append number (numbers_at others) account in
    let parts = joins number in
    let taken = ap (count_of number) one in
    let all = same number in
    omega (arith, all, left, right, seen_last, parts, taken)

-- a seat that has as many numbers as one with each number has each number
pub each_number : (first refused whole : SeatView Step) (accounts : List AccountSeen)
    → HasEachNumber first
    → AreSameNumbers (numbers_of refused ++ numbers_at accounts) (numbers_of first)
    → AreSameNumbers (numbers_of whole) (numbers_of refused ++ numbers_at accounts)
    → whole.lock ≡ first.lock
    → HasEachNumber whole
each_number first refused whole accounts each same closed of number below =
    let some = each number (subst (λ (lock : LockId). number < lock.callers) of below) in
    let here = same number in
    let there = closed number in
    omega (arith, some, here, there)

-- a seat that was only just given has one number, the account's
pub one_number : (shared : LockId) (era : Era) (clients : ℕ) (given : SeatView Step) (at : LockSeen)
    → given ≡ new_seat shared given.caller []
    → IsAccountLock shared era clients given.caller at
    → numbers_of given ≡ account_at at.seat ∷ []
one_number shared era clients given at new of =
    ap numbers_of new ∙ ap (λ (n : ℕ). n ∷ []) (sym (account_number shared era clients given.caller at of))

-- where opening the others was refused, each number is where it was
pub numbers_refused : {R : Type 0} {F : Type 0} (result : Result R (F × SeatView Step)) (rest kept given : SeatView Step)
    (seen : AccountSeen) (old new : List AccountSeen)
    → HasNumbersOf rest kept given
    → numbers_of given ≡ account_at seen.at.seat ∷ []
    → IfErr result (λ refused. AreSameNumbers (numbers_of refused.1 ++ numbers_at new)
    (numbers_of kept ++ numbers_at (old ++ seen ∷ [])))
    → IfErr result (λ refused. AreSameNumbers (numbers_of refused.1 ++ numbers_at new)
    (numbers_of rest ++ numbers_at old))
numbers_refused (Ok done) rest kept given seen old new split one same = tt
numbers_refused (Err refused) rest kept given seen old new split one same =
    numbers_taken rest kept given refused.1 seen old new split one same

-- one account was opened, and then the others
pub opened_more : {R E : Type 0} (result : Result R E) (device : DeviceSeen) (shared : LockId) (opening : Opening)
    (account next : ℕ) (all names : List Bytes) (name : Bytes) (seen : AccountSeen) (old mid new : List AccountSeen)
    → all ≡ name ∷ names
    → next ≡ account + 1
    → mid ≡ old ++ seen ∷ []
    → IsOpenedAt device shared opening account name seen.at
    → IfOk result (λ rest. (more : List AccountSeen) × (new ≡ mid ++ more)
    × AreOpenedFrom device shared opening next names (map (λ seen. seen.at) more))
    → IfOk result (λ rest. (more : List AccountSeen) × (new ≡ old ++ more)
    × AreOpenedFrom device shared opening account all (map (λ seen. seen.at) more))
opened_more (Ok rest) device shared opening account next all names name seen old mid new all_is next_is mid_is first
    others = (
      seen ∷ others.0,
      others.1
          ∙ ap (λ (xs : List AccountSeen). xs ++ others.0) mid_is
          ∙ append_assoc old (seen ∷ []) others.0,
      subst (λ (ns : List Bytes). AreOpenedFrom device shared opening account ns
          (map (λ (s : AccountSeen). s.at) (seen ∷ others.0))) (sym all_is) (
            first,
            subst (λ (n : ℕ). AreOpenedFrom device shared opening n names
                (map (λ (s : AccountSeen). s.at) others.0)) next_is others.2,
          ),
    )
opened_more (Err fault) device shared opening account next all names name seen old mid new all_is next_is mid_is first
    others = tt

-- the same where the accounts are given in another way
pub numbers_over : {R : Type 0} {F : Type 0} (result : Result R (F × SeatView Step)) (kept : SeatView Step)
    (old mid new : List AccountSeen)
    → mid ≡ old
    → IfErr result (λ refused. AreSameNumbers (numbers_of refused.1 ++ numbers_at new) (numbers_of kept ++ numbers_at mid))
    → IfErr result (λ refused. AreSameNumbers (numbers_of refused.1 ++ numbers_at new) (numbers_of kept ++ numbers_at old))
numbers_over result kept old mid new is same = subst
    (λ (xs : List AccountSeen). IfErr result (λ refused. AreSameNumbers (numbers_of refused.1 ++ numbers_at new)
    (numbers_of kept ++ numbers_at xs))) is same

-- Where the first account is refused after all others were opened, each number is where it was.
pub first_refused : (device : DeviceSeen) (shared : LockId) (opening : Opening) (names : List Bytes)
    (first rest refused : SeatView Step) (more : ℕ) (accounts : List AccountSeen) (next : ℕ) (opened : List AccountSeen)
    → accounts ≡ opened
    → next ≡ 1
    → AreOpenedFrom device shared opening next names (map (λ seen. seen.at) opened)
    → first ≡ new_seat shared 0 (range_with_len 1 more)
    → more ≡ length names
    → rest ≡ new_seat shared 0 []
    → refused ≡ record rest { own = refused.own }
    → AreSameNumbers (numbers_of refused ++ numbers_at accounts) (numbers_of first)
first_refused device shared opening names first rest refused more accounts next all are one opened first_is more_is
    rest_is kept number =
    let refused_is : numbers_of refused ≡ 0 ∷ [] = ap numbers_of kept ∙ ap numbers_of rest_is in
    let accounts_are : numbers_at accounts ≡ range_with_len 1 more =
    ap numbers_at are ∙ opened_numbers device shared opening next names all opened
    ∙ (λ i. range_with_len (one i) (sym more_is i)) in
    (λ i. count_of number (refused_is i ++ accounts_are i)) ∙ sym (ap (λ (s : SeatView Step). count_of number (numbers_of s)) first_is)
