-- Names in rising order, each once, are the keys of the map that has these.
use Rattle.std.proofs.Common.{◌≡◌, ◌≢◌, ℕ, zero, suc, ◌<◌, List, [], ◌∷◌, length, map, get_or, Option, None, Some, Bool}
use Rattle.std.proofs.Common.{true, false, refl, sym, ap, ◌∙◌, subst, true≢false, arith}
use Rattle.std.specs.Prelude.{Contains, IsSome, is_some, IsSorted, bytes_eq, ◌&&◌, T}
use Rattle.std.specs.List.{IsDistinct, list_any}
use Rattle.std.specs.Ordering.{nat_cmp, is_lt, is_eq, eq_by_cmp, ordering_reverse}
use Rattle.std.specs.declared.cmp.Ordering.{Ordering}
use Rattle.std.specs.declared.cmp.Ordering.TheVariants.{Less, Equal, Greater}
use Rattle.std.specs.Cmp.{eq_by_cmp_equiv}
use Rattle.std.specs.Cmp.Lexicographic.{slice_cmp, nat_list_cmp_total}
use Rattle.std.specs.FinMap.{get, keys, entries, entries_sorted, is_sorted, find, contains_key-keys}
use Rattle.std.specs.FinMap.{slice_cmp-IsAntisymmetric, nat_cmp-IsAntisymmetric}
use Rattle.std.specs.FinMap.Entries.{below_all, same_entries, is_some-find}
use Rattle.std.proofs.lemmas.List.Sorted.{sorted_far, ranks_by}
use Rattle.std.proofs.lemmas.Map.Views.{Contains-from_any, list_any-from_Contains}
use Rattle.share_api.specs.Contents.{Bytes, Records}
use Rattle.platform_core.proofs.RecordLemmas.{distinct_at}

abbrev order : Bytes → Bytes → Ordering
order = slice_cmp nat_cmp

-- entries without values
abbrev marked : List Bytes → List (Bytes × Unit {0})
marked names = map {B = Bytes × Unit {0}} (λ (q : Bytes). (q, tt)) names

abbrev unmarked : List (Bytes × Bytes) → List (Bytes × Unit {0})
unmarked rows = map {B = Bytes × Unit {0}} (λ (e : Bytes × Bytes). (e.0, tt)) rows

keys_marked : (names : List Bytes) → map (λ (e : Bytes × Unit {0}). e.0) (marked names) ≡ names
keys_marked [] = refl
keys_marked (x ∷ xs) = ap (λ (l : List Bytes). x ∷ l) (keys_marked xs)

keys_unmarked : (rows : List (Bytes × Bytes)) → map (λ (e : Bytes × Unit {0}). e.0) (unmarked rows) ≡ map
    (λ (e : Bytes × Bytes). e.0) rows
keys_unmarked [] = refl
keys_unmarked (row ∷ rows) = ap (λ (l : List Bytes). row.0 ∷ l) (keys_unmarked rows)

below_unmarked : (x : Bytes) (rows : List (Bytes × Bytes)) → below_all order x (unmarked rows) ≡ below_all order x rows
below_unmarked x [] = refl
below_unmarked x (row ∷ rows) = ap (λ (b : Bool). is_lt (order x row.0) && b) (below_unmarked x rows)

sorted_unmarked : (rows : List (Bytes × Bytes)) → is_sorted order (unmarked rows) ≡ is_sorted order rows
sorted_unmarked [] = refl
sorted_unmarked (row ∷ rows) =
    ap (λ (b : Bool). b && is_sorted order (unmarked rows)) (below_unmarked row.0 rows)
    ∙ ap (λ (b : Bool). below_all order row.0 rows && b) (sorted_unmarked rows)

both : (a b : Bool) → a ≡ true → b ≡ true → (a && b) ≡ true
both true b e f = f
both false b e f = absurd (true≢false (sym e))

-- each is below those behind it
abbrev Rises : List Bytes → Type 0
Rises names = (i j : ℕ) → i < j → j < length names → is_lt (order (get_or names i []) (get_or names j [])) ≡ true

below_rest : (x : Bytes) (xs : List Bytes) → ((k : ℕ) → k < length xs → is_lt (order x (get_or xs k [])) ≡ true)
    → below_all order x (marked xs) ≡ true
below_rest x [] f = refl
below_rest x (y ∷ xs) f = both (is_lt (order x y)) (below_all order x (marked xs)) (f zero (omega arith))
    (below_rest x xs (λ k lt. f (suc k) (omega (arith, lt))))

rising_sorted : (names : List Bytes) → Rises names → is_sorted order (marked names) ≡ true
rising_sorted [] f = refl
rising_sorted (x ∷ xs) f =
    both (below_all order x (marked xs)) (is_sorted order (marked xs))
    (below_rest x xs (λ k lt. f zero (suc k) (omega arith) (omega (arith, lt))))
    (rising_sorted xs (λ i j below lt. f (suc i) (suc j) (omega (arith, below)) (omega (arith, lt))))

-- no higher, and another: lower
lower : (x y : Bytes) → is_lt (order y x) ≡ false → x ≢ y → is_lt (order x y) ≡ true
lower x y not_below apart =
    elim (order x y) as (λ r. order x y ≡ r → is_lt r ≡ true) [
      | Less ↦ λ p. refl
      | Equal ↦ λ p. absurd (apart (slice_cmp-IsAntisymmetric nat_cmp-IsAntisymmetric x y p))
      | Greater ↦ λ p. absurd (true≢false (ap is_lt (sym (nat_list_cmp_total.antisymm y x ∙ ap ordering_reverse p))
          ∙ not_below))
    ] refl

rises : (names : List Bytes) → IsSorted order names → IsDistinct bytes_eq names → Rises names
rises names up once i j below lt =
    lower (get_or names i []) (get_or names j [])
    (sorted_far (λ x y. is_lt (order x y)) (ranks_by nat_list_cmp_total (λ (x : Bytes). x)) names up i j []
    (omega (arith, below)) lt)
    (distinct_at names once i j below lt)

same_options : (x y : Option (Unit {0})) → is_some x ≡ is_some y → x ≡ y
same_options None None e = refl
same_options None (Some v) e = absurd (true≢false (sym e))
same_options (Some u) None e = absurd (true≢false e)
same_options (Some u) (Some v) e = refl

same_tests : (a b : Bool) → (a ≡ true → b ≡ true) → (b ≡ true → a ≡ true) → a ≡ b
same_tests true b f g = sym (f refl)
same_tests false true f g = g refl
same_tests false false f g = refl

tie : (o : Ordering) → is_eq o ≡ true → o ≡ Equal
tie Less t = cc t
tie Equal t = refl
tie Greater t = cc t

same_key : (x y : Bytes) → eq_by_cmp order x y ≡ true → x ≡ y
same_key x y e = slice_cmp-IsAntisymmetric nat_cmp-IsAntisymmetric x y (tie (order x y) e)

pub names_are_keys : (records : Records) (names : List Bytes) → IsSorted order names → IsDistinct bytes_eq names
    → ((q : Bytes) → IsSome (get records q) → Contains names q) → ((q : Bytes) → Contains names q
    → IsSome (get records q)) → names ≡ keys records
names_are_keys records names up once every only =
    let rows = entries records in
    let left : T (is_sorted order (marked names)) = subst T (sym (rising_sorted names (rises names up once))) tt in
    let right : T (is_sorted order (unmarked rows)) = subst T (sym (sorted_unmarked rows)) (entries_sorted records) in
    let same : (q : Bytes) → find order q (marked names) ≡ find order q (unmarked rows) =
    (λ q. same_options (find order q (marked names)) (find order q (unmarked rows))
    (is_some-find order q (marked names) ∙ ap (list_any (eq_by_cmp order q)) (keys_marked names)
    ∙ same_tests (list_any (eq_by_cmp order q) names) (list_any (eq_by_cmp order q) (keys records))
    (λ e. sym (contains_key-keys records q) ∙ only q (Contains-from_any same_key q names e))
    (λ e. list_any-from_Contains (eq_by_cmp_equiv nat_list_cmp_total) q names
    (every q (contains_key-keys records q ∙ e)))
    ∙ sym (is_some-find order q (unmarked rows) ∙ ap (list_any (eq_by_cmp order q)) (keys_unmarked rows)))) in
    sym (keys_marked names)
    ∙ ap (map (λ (e : Bytes × Unit {0}). e.0)) (same_entries order nat_list_cmp_total
    (slice_cmp-IsAntisymmetric nat_cmp-IsAntisymmetric) (marked names) (unmarked rows) left right same)
    ∙ keys_unmarked rows
