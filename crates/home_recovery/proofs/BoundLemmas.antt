-- A home keeps its bounds, or breaks one of them, by the tests of its rows.
use Rattle.std.proofs.Common.{◌≡◌, ◌≢◌, ℕ, zero, suc, ◌+◌, ◌<◌, Bool, true, false, cond, List, [], ◌∷◌, map, Option, None, Some, refl, sym, ap, ◌∙◌, inl, inr, ⊎_elim, true≢false, eq-eqb, arith}
use Rattle.std.specs.Prelude.{◌&&◌, ◌||◌, not, nat_le, slice_get, bytes_eq, count_by}
use Rattle.std.specs.List.{list_any, fold}
use Rattle.std.specs.FinMap.{get, entries, len}
use Rattle.std.proofs.lemmas.Bool.{and_parts, leb-true, leb-false}
use Rattle.std.proofs.lemmas.Slice.Eq.{bytes_eq-Decides}
use Rattle.account_machine.specs.Outline.{is_pin_kind, is_password_kind}
use Rattle.account_machine.specs.declared.factor.Kind.{Kind}
use Rattle.account_machine.specs.declared.factor.Kind.TheVariants.{Password, Pin}
use Rattle.factor_files.specs.declared.factor.FactorRecord.{FactorRecord}
use Rattle.share_api.specs.Contents.{Bytes}
use Rattle.stored_home.specs.declared.stored.Stored.{Stored}
use Rattle.stored_home.proofs.MapLemmas.{either, not_None, from_some, same_or_apart}
use Rattle.home_recovery.specs.Bounds.{ShareLeaf, BreaksBounds}
use Rattle.stored_home.specs.Coherent.{pin_rows, HaveOwnLeaves, KeepsBounds}
use Rattle.home_recovery.specs.Home.{Row, is_one_leaf, is_rival}
use Rattle.home_recovery.proofs.RowLemmas.{get_place, get_of_place}

fold-map : {A B C : Type 0} (g : C → B → C) (f : A → B) (z : C) (xs : List A) → fold g z (map f xs) ≡ fold (λ c x. g c (f x)) z xs
fold-map g f z [] = refl
fold-map g f z (x ∷ xs) = fold-map g f (g z (f x)) xs

pub count_by-map : {A B : Type 0} (p : B → Bool) (f : A → B) (xs : List A) → count_by p (map f xs) ≡ count_by (λ x. p (f x)) xs
count_by-map p f xs = fold-map (λ n x. n + cond (p x) 1 0) f 0 xs

module _ {X : Type 0} (p : X → Bool) where
  -- where one passes, it stands at a place
  pub any_true : (xs : List X) → list_any p xs ≡ true → (i : ℕ) × (x : X) × (slice_get xs i ≡ Some x) × (p x ≡ true)
  any_true [] e = absurd (true≢false (sym e))
  any_true (x ∷ xs) e = ⊎_elim
      (λ here. (zero, x, refl, here))
      (λ other. later (any_true xs (sym (ap (λ b. b || list_any p xs) other) ∙ e)))
      (either (p x))
    where
      later : (i : ℕ) × (y : X) × (slice_get xs i ≡ Some y) × (p y ≡ true)
          → (i : ℕ) × (y : X) × (slice_get (x ∷ xs) i ≡ Some y) × (p y ≡ true)
      later h = (suc h.0, h.1, h.2, h.3)

  or_first : (a b : Bool) → (a || b) ≡ false → a ≡ false
  or_first true b e = e
  or_first false b e = refl

  or_second : (a b : Bool) → (a || b) ≡ false → b ≡ false
  or_second true b e = absurd (true≢false e)
  or_second false b e = e

  -- where none passes, this one doesn't
  pub any_false : (xs : List X) (i : ℕ) (x : X) → list_any p xs ≡ false → slice_get xs i ≡ Some x → p x ≡ false
  any_false [] i x e at = absurd (not_None x (sym at))
  any_false (y ∷ xs) zero x e at = ap p (sym (from_some y x at)) ∙ or_first (p y) (list_any p xs) e
  any_false (y ∷ xs) (suc i) x e at = any_false xs i x (or_second (p y) (list_any p xs) e) at

password_is : (kind : Kind) → is_password_kind kind ≡ true → kind ≡ Password
password_is Password e = refl
password_is Pin e = absurd (true≢false (sym e))

-- two leaves that are one
pub one_leaf : (x y : Option ℕ) → is_one_leaf x y ≡ true → (tree : ℕ) × (x ≡ Some tree) × (y ≡ Some tree)
one_leaf None y e = absurd (true≢false (sym e))
one_leaf (Some a) None e = absurd (true≢false (sym e))
one_leaf (Some a) (Some b) e =
    let same : a ≡ b = Rattle.std.proofs.lemmas.Bool.eqb-true a b e in
    (a, refl, ap (λ (n : ℕ). Some n) (sym same))

pub same_leaf : (x y : Option ℕ) (tree : ℕ) → x ≡ Some tree → y ≡ Some tree → is_one_leaf x y ≡ true
same_leaf x y tree p q =
    ap (λ o. is_one_leaf o y) p ∙ ap (λ o. is_one_leaf (Some tree) o) q ∙ eq-eqb tree tree refl

not_true : (b : Bool) → not b ≡ true → b ≡ false
not_true true e = absurd (true≢false (sym e))
not_true false e = refl

pub not_false : (b : Bool) → not b ≡ false → b ≡ true
not_false true e = refl
not_false false e = absurd (true≢false e)

both_true : (a b : Bool) → a ≡ true → b ≡ true → (a && b) ≡ true
both_true a b p q = ap (λ x. x && b) p ∙ q

module _ (stored : Stored) where
  abbrev rows : List Row
  rows = entries stored.factors

  abbrev pub some_password : Bool
  some_password = list_any (λ (row : Row). is_password_kind row.1.kind) rows

  abbrev pub few_pins : Bool
  few_pins = nat_le (count_by (λ (row : Row). is_pin_kind row.1.kind) rows) 8

  abbrev pub some_rival : Bool
  some_rival = list_any (λ (row : Row). list_any (is_rival row) rows) rows

  abbrev pub few_files : Bool
  few_files = nat_le (len stored.files) 256

  pins_are : pin_rows stored.factors ≡ count_by (λ (row : Row). is_pin_kind row.1.kind) rows
  pins_are = count_by-map (λ (row : FactorRecord). is_pin_kind row.kind) (λ (e : Row). e.1) rows

  own_leaves : some_rival ≡ false → HaveOwnLeaves stored.factors
  own_leaves none one two tree p q = ⊎_elim (λ e. e) (λ apart. absurd (true≢false (sym (rival apart) ∙ no_rival))) (same_or_apart one two)
    where
      at_one : (i : ℕ) × (i < len stored.factors) × (slice_get rows i ≡ Some (one, p.row))
      at_one = get_place stored.factors one p.row p.there

      at_two : (i : ℕ) × (i < len stored.factors) × (slice_get rows i ≡ Some (two, q.row))
      at_two = get_place stored.factors two q.row q.there

      no_rival : is_rival (one, p.row) (two, q.row) ≡ false
      no_rival = any_false (is_rival (one, p.row)) rows at_two.0 (two, q.row)
          (any_false (λ (row : Row). list_any (is_rival row) rows) rows at_one.0 (one, p.row) none at_one.2) at_two.2

      rival : one ≢ two → is_rival (one, p.row) (two, q.row) ≡ true
      rival apart = both_true (is_one_leaf p.row.leaf q.row.leaf) (not (bytes_eq one two)) (same_leaf p.row.leaf q.row.leaf tree p.names q.names)
          (⊎_elim (λ e. absurd (apart ((bytes_eq-Decides one two).0 e))) (λ e. ap not e) (either (bytes_eq one two)))

  pub bounds_kept : (some_password && (few_pins && (not some_rival && few_files))) ≡ true → KeepsBounds stored
  bounds_kept e =
      let one = and_parts some_password (few_pins && (not some_rival && few_files)) e in
      let two = and_parts few_pins (not some_rival && few_files) one.1 in
      let three = and_parts (not some_rival) few_files two.1 in
      let found = any_true (λ (row : Row). is_password_kind row.1.kind) rows one.0 in
      let few = leb-true (count_by (λ (row : Row). is_pin_kind row.1.kind) rows) 8 two.0 in
      let count = pins_are in
      record {
        label = found.1.0;
        row = found.1.1;
        there = get_of_place stored.factors found.0 found.1.0 found.1.1 found.2;
        is_password = password_is found.1.1.kind found.3;
        pins = omega (arith, few, count);
        own = own_leaves (not_true some_rival three.0);
        files = leb-true (len stored.files) 256 three.1;
      }

  no_password : some_password ≡ false → (label : Bytes) (row : FactorRecord) → get stored.factors label ≡ Some row → row.kind ≢ Password
  no_password none label row there is =
      let at = get_place stored.factors label row there in
      let not_it = any_false (λ (r : Row). is_password_kind r.1.kind) rows at.0 (label, row) none at.2 in
      true≢false (sym (ap is_password_kind is) ∙ not_it)

  shared : some_rival ≡ true → ShareLeaf stored.factors
  shared e =
      let one = any_true (λ (row : Row). list_any (is_rival row) rows) rows e in
      let two = any_true (is_rival one.1) rows one.3 in
      let parts = and_parts (is_one_leaf one.1.1.leaf two.1.1.leaf) (not (bytes_eq one.1.0 two.1.0)) two.3 in
      let leaf = one_leaf one.1.1.leaf two.1.1.leaf parts.0 in
      record {
        one = one.1.0;
        two = two.1.0;
        tree = leaf.0;
        apart = λ same. true≢false (sym ((bytes_eq-Decides one.1.0 two.1.0).1 same) ∙ not_true (bytes_eq one.1.0 two.1.0) parts.1);
        first = record { row = one.1.1; there = get_of_place stored.factors one.0 one.1.0 one.1.1 one.2; names = leaf.1 };
        second = record { row = two.1.1; there = get_of_place stored.factors two.0 two.1.0 two.1.1 two.2; names = leaf.2 };
      }

  pub bounds_broken : (some_password && (few_pins && (not some_rival && few_files))) ≡ false → BreaksBounds stored
  bounds_broken e = ⊎_elim (λ a. first a) (λ a. inl (no_password a)) (either some_password)
    where
      third : some_password ≡ true → few_pins ≡ true → some_rival ≡ false → BreaksBounds stored
      third a b r =
          let rest : few_files ≡ false =
          sym (ap (λ x. x && (few_pins && (not some_rival && few_files))) a ∙ ap (λ x. x && (not some_rival && few_files)) b ∙ ap (λ x. not x && few_files) r) ∙ e in
          inr (inr (inr (leb-false (len stored.files) 256 rest)))

      second : some_password ≡ true → few_pins ≡ true → BreaksBounds stored
      second a b = ⊎_elim (λ r. inr (inr (inl (shared r)))) (λ r. third a b r) (either some_rival)

      first : some_password ≡ true → BreaksBounds stored
      first a = ⊎_elim (λ b. second a b)
          (λ b. let many = leb-false (count_by (λ (row : Row). is_pin_kind row.1.kind) rows) 8 b in
          let count = pins_are in
          inr (inl (omega (arith, many, count))))
          (either few_pins)
