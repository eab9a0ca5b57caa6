-- Counting records, and a list without one.
use Rattle.std.proofs.Common.{◌≡◌, ℕ, suc, ◌+◌, ◌<◌, inl, inr, Option, None, List, length, refl, sym, ◌∙◌, ap, arith, true, false, cond, add-one}
use Rattle.std.specs.Prelude.{is_some}
use Rattle.std.proofs.lemmas.Bool.{cases_lt}
use Rattle.std.proofs.Math.ListN.{get_or-eq_default}
use Rattle.leaf_table.specs.Rows.{row_in, no_rows, rows_below}

-- where no place has a record, no label has one
pub empty_rows : (rows : List (Option (List ℕ))) → length rows ≡ 16384 → ((i : ℕ) → i < 16384 → row_in rows i ≡ None) → row_in rows ≡ no_rows
empty_rows rows size each =
    let at : (i : ℕ) → row_in rows i ≡ None =
    λ i. elim (cases_lt i 16384) [
      | inl h ↦ each i h
      | inr h ↦ get_or-eq_default rows None (omega arith)
    ] in
    λ j i. at i j

-- below no label there is none
pub counted_none : (rows : ℕ → Option (List ℕ)) → rows_below rows 0 ≡ 0
unfolding rows_below
counted_none rows = refl

-- a label with a record is counted
pub counted_more : (rows : ℕ → Option (List ℕ)) (n count : ℕ) → count ≡ rows_below rows n → is_some (rows n) ≡ true → count + 1 ≡ rows_below rows (n + 1)
unfolding rows_below
counted_more rows n count is some = add-one count ∙ ap suc is ∙ sym (ap (λ b. cond b (suc (rows_below rows n)) (rows_below rows n)) some) ∙ ap (rows_below rows) (sym (add-one n))

-- one without isn't
pub counted_same : (rows : ℕ → Option (List ℕ)) (n count : ℕ) → count ≡ rows_below rows n → is_some (rows n) ≡ false → count ≡ rows_below rows (n + 1)
unfolding rows_below
counted_same rows n count is none = is ∙ sym (ap (λ b. cond b (suc (rows_below rows n)) (rows_below rows n)) none) ∙ ap (rows_below rows) (sym (add-one n))
