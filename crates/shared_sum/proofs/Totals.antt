-- The sum, and the sums in the entries, with one entry more.
use Rattle.std.proofs.Common.{◌≡◌, ℕ, ◌+◌, ◌%◌, ◌^◌, List, [], ◌∷◌, ◌++◌, arith}
use Rattle.std.specs.Prelude.{sum_by}
use Rattle.std.proofs.lemmas.List.Sums.{sum_by-append}
use Rattle.shared_sum.specs.Summed.{amount_of, HaveSums, IsSumOf}
use Rattle.shared_sum.specs.declared.sum.Sum.{Sum}
use Rattle.shared_sum.specs.declared.sum.Added.{Added}

-- an entry that has the sum after it, behind entries that have theirs
HaveSums-push : (before : ℕ) (entries : List Added) (entry : Added)
    → HaveSums before entries
    → entry.total ≡ (before + sum_by amount_of (entries ++ entry ∷ [])) % 2 ^ 64
    → HaveSums before (entries ++ entry ∷ [])
HaveSums-push before [] entry have is =
    let one : sum_by amount_of ([] ++ entry ∷ []) ≡ entry.amount = omega arith in
    (omega arith, have)
HaveSums-push before (x ∷ xs) entry have is =
    let parts = sum_by-append amount_of (x ∷ []) (xs ++ entry ∷ []) in
    let first = have.0 in
    (first, HaveSums-push x.total xs entry have.1 (omega arith))

-- the sum with that entry, which has the sum after it
pub IsSumOf-push : (first before now : Sum) (entries : List Added) (entry : Added)
    → IsSumOf first before entries
    → now.total ≡ (before.total + entry.amount) % 2 ^ 64
    → entry.total ≡ now.total
    → IsSumOf first now (entries ++ entry ∷ [])
IsSumOf-push first before now entries entry is added told =
    let sums = sum_by-append amount_of entries (entry ∷ []) in
    let was = is.total in
    let after : now.total ≡ (first.total + sum_by amount_of (entries ++ entry ∷ [])) % 2 ^ 64 =
    omega arith in record {
      total = after;
      each = HaveSums-push first.total entries entry is.each (omega arith);
    }
