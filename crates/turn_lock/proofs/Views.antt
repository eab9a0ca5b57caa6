-- The numbers of seats, as contracts see them.
use Rattle.std.proofs.Common.{◌≡◌, ℕ, zero, suc, ◌+◌, ◌-◌, ◌<◌, List, [], ◌∷◌, ◌++◌, map, length, sym, ap, ◌∙◌, arith}
use Rattle.std.specs.Prelude.{All}
use Rattle.std.specs.List.{AllByRecursion}
use Rattle.std.proofs.lemmas.List.Elements.{All-from_recursion}
use Rattle.std.specs.List.{range_with_len}
use Rattle.turn_lock.specs.Lists.{count_of}
use Rattle.turn_lock.specs.Seats.{LockId, SeatView, new_seat, first_seat, joined_seat, numbers_of, HasNumbersOf, HasEachNumber}
use Rattle.std.proofs.lemmas.List.FromFn.{length-range_with_len}
use Rattle.turn_lock.proofs.Counts.{count_of-append, count_of-range_with_len}
use Rattle.turn_lock.proofs.Joining.{measure-both}
use Rattle.turn_lock.proofs.Splitting.{measure-given}

module _ {E : Type 0} where
  -- a seat that joins another has the numbers of both
  pub numbers_of-joined_seat : (seat other : SeatView E)
      → HasNumbersOf (joined_seat seat other) seat other
  numbers_of-joined_seat seat other number =
      measure-both (count_of number) (count_of-append number) seat.caller other.caller other.own
      seat.joined other.joined seat.spare other.spare

  -- a number that is given away stays one of the two seats'
  pub numbers_of-split : (seat kept given : SeatView E)
      → seat.spare ≡ given.caller ∷ kept.spare
      → kept ≡ record seat { spare = kept.spare }
      → given ≡ new_seat seat.lock given.caller []
      → HasNumbersOf seat kept given
  numbers_of-split seat kept given spare kept_is given_is number =
      let joined = map (λ known. known.0) seat.joined in
      let whole = ap (λ (spare : List ℕ). count_of number (seat.caller ∷ (joined ++ spare)))
      spare in
      let parts = measure-given (count_of number) (count_of-append number) seat.caller given.caller
      joined kept.spare in
      let left = ap (λ (view : SeatView E). count_of number (numbers_of view)) kept_is in
      let right = ap (λ (view : SeatView E). count_of number (numbers_of view)) given_is in
      whole ∙ (sym parts ∙ (λ i. sym left i + sym right i))

-- the first seat has every number of its lock
pub numbers_of-first_seat : (E : Type 0) (lock : LockId)
    → 0 < lock.callers → HasEachNumber (first_seat {E = E} lock)
numbers_of-first_seat E lock some_callers number below =
    let more : suc (lock.callers - 1) ≡ lock.callers = omega arith in
    let same = ap (λ (callers : ℕ). count_of number (range_with_len 0 callers)) more in
    let range = (count_of-range_with_len 0 lock.callers number).inside (omega arith) (omega arith) in
    let once : count_of number (numbers_of (first_seat {E = E} lock)) ≡ 1 = same ∙ range in
    omega arith

-- where there are spare numbers, the first is below the end
pub spare-lt : (first end : ℕ) (spare : List ℕ)
    → spare ≡ range_with_len first (end - first)
    → 0 < length spare
    → first < end
spare-lt first end spare is some_spare =
    let size = ap length is ∙ length-range_with_len first (end - first) in omega arith

numbers_from_above : (bound first more : ℕ)
    → bound < first
    → AllByRecursion (λ number. bound < number) (range_with_len first more)
numbers_from_above bound first zero above = tt
numbers_from_above bound first (suc more) above =
    (above, numbers_from_above bound (first + 1) more (omega arith))

-- the first spare number is the least
pub numbers_from-least : (first more : ℕ)
    → All (λ number. first < number) (range_with_len (first + 1) more)
numbers_from-least first more =
    All-from_recursion _ (range_with_len (first + 1) more)
    (numbers_from_above first (first + 1) more (omega arith))
