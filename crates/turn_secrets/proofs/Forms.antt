-- A block of a stash is looked for, place after place.
use Rattle.std.proofs.Common.{◌≡◌, ℕ, zero, suc, ◌+◌, ◌≤◌, List, [], ◌∷◌, Bool, cond, drop, length, None, Some, refl, sym, ap, ◌∙◌, subst, bytes_eq, nat_eq, arith}
use Rattle.std.specs.Prelude.{slice_get}
use Rattle.std.specs.FinMap.{find}
use Rattle.name_map.proofs.RowLemmas.{Name, order, eq_by_cmp-bytes_eq}
use Rattle.stash_format.specs.Forms.{form_number}
use Rattle.stash_format.specs.declared.block.Form.{Form}
use Rattle.stash_format.specs.declared.block.Form.TheVariants.{Plain, Bound}
use Rattle.stored_home.proofs.MapLemmas.{from_some, not_None}
use Rattle.turn_secrets.specs.Binding.{is_plain_form}

module _ {V : Type 0} (name : Name) where
  -- a search from a place on reads the row there
  pub find_at : (rows : List (Name × V)) (at : ℕ) (row : Name × V) → slice_get rows at ≡ Some row
      → find order name (drop at rows) ≡ cond (bytes_eq row.0 name) (Some row.1) (find order name (drop (suc at) rows))
  find_at [] at row e = absurd (not_None row (sym e))
  find_at (first ∷ rows) zero row e =
      subst (λ (r : Name × V). find order name (first ∷ rows) ≡ cond (bytes_eq r.0 name) (Some r.1) (find order name
      rows))
      (from_some first row e)
      (ap (λ b. cond b (Some first.1) (find order name rows)) (eq_by_cmp-bytes_eq name first.0))
  find_at (first ∷ rows) (suc at) row e = find_at rows at row e

  -- the same, by whether the row has the name
  pub find_more : (rows : List (Name × V)) (at : ℕ) (row : Name × V) (same : Bool) → slice_get rows at ≡ Some row
      → bytes_eq row.0 name ≡ same
      → find order name (drop at rows) ≡ cond same (Some row.1) (find order name (drop (at + 1) rows))
  find_more rows at row same e test =
      let next : suc at ≡ at + 1 = omega arith in
      find_at rows at row e
      ∙ (λ i. cond (test i) (Some row.1) (find order name (drop (next i) rows)))

  -- behind the last row there is none
  pub find_past : (rows : List (Name × V)) (at : ℕ) → length rows ≤ at → find order name (drop at rows) ≡ None
  find_past [] zero past = refl
  find_past [] (suc at) past = refl
  find_past (first ∷ rows) zero past = absurd (omega arith)
  find_past (first ∷ rows) (suc at) past = find_past rows at (omega arith)

-- the number of the form that is bound to nothing is 1
pub plain_number : (form : Form) → nat_eq (form_number form) 1 ≡ is_plain_form form
plain_number Plain = refl
plain_number Bound = refl
