-- The callers' seats, and how often the callers have a number.
use Rattle.std.proofs.Common.{◌≡◌, ℕ, suc, ◌+◌, List, [], ◌∷◌, ◌++◌, Some, ap, refl, subst, arith}
use Rattle.std.specs.Prelude.{All, IsSomeAnd}
use Rattle.std.proofs.lemmas.List.Elements.{All-pop}
use Rattle.turn_lock.specs.Lists.{count_of}
use Rattle.turn_lock.specs.Seats.{LockId, SeatView, numbers_of}
use Rattle.std.proofs.lemmas.List.Sums.{sum_by-append, sum_by-cons}
use Rattle.shared_sum.specs.Callers.{HasSeat, numbers_at, count_in, EachKeepsNumbers}
use Rattle.shared_sum.specs.declared.callers.Caller.{Caller}
use Rattle.shared_sum.specs.declared.sum.Added.{Added}

-- where each caller keeps its numbers, they all have what they had
pub count_in-kept : (number : ℕ) (old new : List Caller)
    → EachKeepsNumbers old new
    → count_in number new ≡ count_in number old
count_in-kept number [] [] keeps = refl
count_in-kept number [] (y ∷ ys) keeps = let size = keeps.count in absurd (omega arith)
count_in-kept number (x ∷ xs) [] keeps = let size = keeps.count in absurd (omega arith)
count_in-kept number (x ∷ xs) (y ∷ ys) keeps =
    let size = keeps.count in
    let first = ap (count_of number) (keeps.each 0 x (omega arith)) in
    let rest = count_in-kept number xs ys record {
      count = omega arith;
      each = λ k caller low. keeps.each (suc k) caller (omega arith);
    } in
    let numbers : Caller → ℕ = λ one. count_of number (numbers_at one.seat) in
    let had = sum_by-cons numbers x xs in
    let has = sum_by-cons numbers y ys in omega arith

-- what one caller with a seat, behind the others, means
module _ (all others : List Caller) (caller : Caller) (seat : SeatView Added)
    (is : all ≡ others ++ caller ∷ []) (has : caller.seat ≡ Some seat) where
  -- its numbers count beside those of the others
  pub count_in-last : (number : ℕ)
      → count_in number all ≡ count_in number others + count_of number (numbers_of seat)
  count_in-last number =
      let count : Caller → ℕ = λ one. count_of number (numbers_at one.seat) in
      let whole = ap (count_in number) is in
      let parts = sum_by-append count others (caller ∷ []) in
      let own = ap (λ seat. count_of number (numbers_at seat)) has in omega arith

  -- where all have seats of a lock, the others have, and the seat is of it
  pub seats-last : (id : LockId)
      → All (HasSeat id) all → All (HasSeat id) others × (seat.lock ≡ id)
  seats-last id each =
      let parts = All-pop (HasSeat id) all others (Some caller) is each in
      (parts.0, subst (λ seat. IsSomeAnd seat (λ seat. seat.lock ≡ id)) has parts.1)
