-- The first PIN with a count, among factors that are listed.
use Rattle.std.proofs.Common.{◌≡◌, ℕ, ◌+◌, ◌<◌, ◌≤◌, ◌==◌, List, [], ◌∷◌, map, drop, length, get_or, not, Bool, true, false, Option, None, Some, refl, sym, ap, ◌∙◌, subst, option_map}
use Rattle.std.specs.Prelude.{if◌then◌else◌}
use Rattle.std.specs.List.{AllByRecursion}
use Rattle.std.proofs.lemmas.List.{drop_more, drop_all}
use Rattle.account_machine.specs.Effect.{line_of, first_counted}
use Rattle.account_machine.specs.Outline.{is_pin_kind}
use Rattle.account_machine.specs.declared.answer.FactorLine.{FactorLine}
use Rattle.account_machine.specs.declared.factor.Factor.{Factor}
use Rattle.factor_files.specs.declared.factor.FactorRecord.{FactorRecord}
use Rattle.share_api.specs.Contents.{Bytes, Contents}
use Rattle.stored_home.proofs.MapLemmas.{not_None, from_some}
use Rattle.turn_secrets.specs.Listing.{line_in, count_in}
use Rattle.turn_pins.specs.Clearing.{has_count, first_shown}

module _ (rows : List (Bytes × FactorRecord)) (c : Contents) where
  abbrev line : Bytes × FactorRecord → FactorLine
  line row = line_in false c.leaves row

  -- no row before this place has a count
  abbrev pub NoneBefore : ℕ → Type 0
  NoneBefore at = first_shown (map line rows) ≡ first_shown (map line (drop at rows))

  -- by the row there
  at_row : (at : ℕ) (row : Bytes × FactorRecord) → at < length rows → row ≡ get_or rows at row → NoneBefore at
      → first_shown (map line rows)
      ≡ (if has_count (count_in row.1.kind false c.leaves row.1.leaf) then Some row.0
      else first_shown (map line (drop (at + 1) rows)))
  at_row at row inside is so = so
      ∙ ap (λ (rest : List (Bytes × FactorRecord)). first_shown (map line rest))
      (drop_more rows at row inside ∙ (λ i. sym is i ∷ drop (at + 1) rows))

  -- one that has none is passed
  pub passed : (at : ℕ) (row : Bytes × FactorRecord) → at < length rows → row ≡ get_or rows at row
      → false ≡ has_count (count_in row.1.kind false c.leaves row.1.leaf) → NoneBefore at → NoneBefore (at + 1)
  passed at row inside is none so = at_row at row inside is so
      ∙ ap (λ (b : Bool). if b then Some row.0 else first_shown (map line (drop (at + 1) rows))) (sym none)

  -- one that has a count is the first
  pub found_first : (at : ℕ) (row : Bytes × FactorRecord) → at < length rows → row ≡ get_or rows at row
      → true ≡ has_count (count_in row.1.kind false c.leaves row.1.leaf) → NoneBefore at
      → Some row.0 ≡ first_shown (map line rows)
  found_first at row inside is some so = sym (at_row at row inside is so
      ∙ ap (λ (b : Bool). if b then Some row.0 else first_shown (map line (drop (at + 1) rows))) (sym some))

  -- behind the last there is none
  pub none_first : (at : ℕ) → length rows ≤ at → NoneBefore at → None ≡ first_shown (map line rows)
  none_first at past so =
      sym (so ∙ ap (λ (rest : List (Bytes × FactorRecord)). first_shown (map line rest)) (drop_all at rows past))

-- ---- beside the machine's

line_first : (pin : Bool) (wrong : ℕ) (label : Bytes) (row : Bytes × Factor) (rest : Option Bytes)
    (more : Option (Bytes × Factor)) → rest ≡ option_map (λ (e : Bytes × Factor). e.0) more → label ≡ row.0
    → (if has_count (if pin then Some wrong else None) then Some label else rest)
    ≡ option_map (λ (e : Bytes × Factor). e.0) (if pin then (if wrong == 0 then more else Some row) else more)
line_first false wrong label row rest more same is = same
line_first true wrong label row rest more same is = by (wrong == 0)
  where
    by : (zero : Bool) → (if not zero then Some label else rest)
        ≡ option_map (λ (e : Bytes × Factor). e.0) (if zero then more else Some row)
    by true = same
    by false = ap (λ (l : Bytes). Some l) is

-- the first factor that is listed with a count is the machine's first one
pub shown_counted : (es : List (Bytes × Factor))
    → first_shown (map line_of es) ≡ option_map (λ (e : Bytes × Factor). e.0) (first_counted es)
shown_counted [] = refl
shown_counted (e ∷ es) = line_first (is_pin_kind e.1.kind) e.1.wrong e.0 e (first_shown (map line_of es))
    (first_counted es) (shown_counted es) refl

-- and it is among the factors
pub counted_among : (P : Bytes × Factor → Type 0) (es : List (Bytes × Factor)) → AllByRecursion P es
    → (row : Bytes × Factor) → first_counted es ≡ Some row → P row
counted_among P [] all row e = absurd (not_None row (sym e))
counted_among P (x ∷ es) all row e = by (is_pin_kind x.1.kind) (x.1.wrong == 0) (counted_among P es all.1 row) e
  where
    by : (pin zero : Bool) → (first_counted es ≡ Some row → P row)
        → (if pin then (if zero then first_counted es else Some x) else first_counted es) ≡ Some row → P row
    by true true rest e = rest e
    by true false rest e = subst P (from_some x row e) all.0
    by false zero rest e = rest e

-- the row of a label that is there
pub mapped_some : (o : Option (Bytes × Factor)) (label : Bytes) → option_map (λ (e : Bytes × Factor). e.0) o ≡ Some label
    → (row : Bytes × Factor) × (o ≡ Some row) × (row.0 ≡ label)
mapped_some None label e = absurd (not_None label (sym e))
mapped_some (Some row) label e = (row, refl, from_some row.0 label e)

pub mapped_none : (o : Option (Bytes × Factor)) → option_map (λ (e : Bytes × Factor). e.0) o ≡ None → o ≡ None
mapped_none None e = refl
mapped_none (Some row) e = absurd (not_None row.0 e)
