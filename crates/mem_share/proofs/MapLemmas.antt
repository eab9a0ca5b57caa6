-- A tree of entries against the finite map that it is seen as.
use Rattle.std.proofs.Common.{◌≡◌, List, [], ◌∷◌, map, Option, None, Some, length, arith, cond, refl, sym, ap, ◌∙◌, Result, Ok, Err, OnErr}
use Rattle.std.specs.Ordering.{eq_by_cmp}
use Rattle.std.specs.Cmp.{IsTotalOrder, eq_by_cmp_equiv}
use Rattle.std.specs.declared.cmp.Ordering.{Ordering}
use Rattle.std.specs.declared.cmp.Ordering.TheVariants.{Less}
use Rattle.std.specs.FinMap.{FinMap, IsAntisymmetric, empty, get, insert, remove, find, put, entries, from_entries, keys}
use Rattle.std.specs.FinMap.{same_map, get-insert, get-remove, get-from_entries}
use Rattle.std.specs.FinMap.{entries-insert, len-entries, len-empty}
use Rattle.std.specs.FinMap.Entries.{by_order}
use Rattle.std.specs.BTreeMap.{BTreeMap, is_at, UpdatesBy}
use Rattle.std.specs.List.{AllByRecursion}
use Rattle.std.specs.List.Sorted.{IsStrictlySortedBy}
use Rattle.std.specs.Map.{lookup}

module _ {K V : Type 0} (cmp : K → K → Ordering) (total : IsTotalOrder cmp) (apart : IsAntisymmetric cmp) where
  find_lookup : (q : K) (es : List (K × V)) → find cmp q es ≡ lookup (is_at (cmp q)) es
  find_lookup q [] = refl
  find_lookup q (e ∷ es) = ap (λ o. cond (eq_by_cmp cmp q e.0) (Some e.1) o) (find_lookup q es)

  -- the tree's look-up is the map's
  pub get_lookup : (q : K) (es : List (K × V)) → get (from_entries {R = cmp} es) q ≡ lookup (is_at (cmp q)) es
  get_lookup q es = get-from_entries total es q ∙ find_lookup q es

  -- the tree after an update of one key is the map that answers so
  updated : (m n : BTreeMap K V) (k : K) (w : Option V) (f : FinMap cmp V) → UpdatesBy cmp (cmp k) m n w
      → ((q : K) → get f q ≡ cond (eq_by_cmp cmp q k) w (get (from_entries {R = cmp} m.entries) q)) → from_entries n.entries ≡ f
  updated m n k w f u is = same_map total apart (from_entries n.entries) f (λ q.
      get_lookup q n.entries
      ∙ u.0 q
      ∙ ap (λ b. cond b w (lookup (is_at (cmp q)) m.entries)) ((eq_by_cmp_equiv total).symm k q)
      ∙ ap (cond (eq_by_cmp cmp q k) w) (sym (get_lookup q m.entries))
      ∙ sym (is q))

  pub inserted : (m n : BTreeMap K V) (k : K) (v : V) → UpdatesBy cmp (cmp k) m n (Some v) → from_entries {R = cmp} n.entries ≡ insert (from_entries m.entries) k v
  inserted m n k v u = updated m n k (Some v) (insert (from_entries m.entries) k v) u (get-insert total (from_entries m.entries) k v)

  pub removed : (m n : BTreeMap K V) (k : K) → UpdatesBy cmp (cmp k) m n None → from_entries {R = cmp} n.entries ≡ remove (from_entries m.entries) k
  removed m n k u = updated m n k None (remove (from_entries m.entries) k) u (get-remove total (from_entries m.entries) k)

  in_front : (e : K × V) (es : List (K × V)) → AllByRecursion (λ y. cmp e.0 y ≡ Less) (map (λ f. f.0) es) → put cmp e.0 e.1 es ≡ e ∷ es
  in_front e [] below = refl
  in_front e (f ∷ fs) below = ap (λ r. by_order r ((e.0, e.1) ∷ f ∷ fs) ((f.0, e.1) ∷ fs) (f ∷ put cmp e.0 e.1 fs)) below.0

  none_long : (es : List (K × V)) → length es ≡ 0 → es ≡ []
  none_long [] e = refl
  none_long (x ∷ es) e = absurd (omega (arith, e))

  empty_entries : entries (empty {K = K} {X = V} {R = cmp}) ≡ []
  empty_entries = none_long (entries (empty {K = K} {X = V} {R = cmp})) (sym (len-entries empty) ∙ len-empty cmp V)

  sorted_entries : (es : List (K × V)) → IsStrictlySortedBy cmp (map (λ e. e.0) es) → entries (from_entries {R = cmp} es) ≡ es
  unfolding IsStrictlySortedBy
  sorted_entries [] h = empty_entries
  sorted_entries (e ∷ es) h = entries-insert total (from_entries es) e.0 e.1 ∙ ap (put cmp e.0 e.1) (sorted_entries es h.1) ∙ in_front e es h.0

  -- the tree's keys are the map's
  pub sorted_keys : (es : List (K × V)) → IsStrictlySortedBy cmp (map (λ e. e.0) es) → keys (from_entries {R = cmp} es) ≡ map (λ e. e.0) es
  sorted_keys es h = ap (map (λ e. e.0)) (sorted_entries es h)

-- what holds anyway holds at an error
pub on_err : {T E : Type 0} (r : Result T E) {P : Type 0} → P → OnErr r P
on_err (Ok x) p = tt
on_err (Err e) p = p
