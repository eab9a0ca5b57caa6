-- A tree of files against the finite map that it is seen as.
use Rattle.std.proofs.Common.{◌≡◌, ◌≢◌, inl, inr, ℕ, List, [], ◌∷◌, map, Option, None, Some}
use Rattle.std.proofs.Common.{Bool, true, false, length, arith, cond, refl, sym, ap, ◌∙◌, subst}
use Rattle.std.specs.Ordering.{nat_cmp, is_eq, eq_by_cmp}
use Rattle.std.specs.Cmp.{eq_by_cmp_equiv}
use Rattle.std.specs.Cmp.Lexicographic.{slice_cmp, nat_list_cmp_total}
use Rattle.std.specs.declared.cmp.Ordering.{Ordering}
use Rattle.std.specs.declared.cmp.Ordering.TheVariants.{Less}
use Rattle.std.specs.FinMap.{IsAntisymmetric, empty, get, insert, remove, find, put, entries, from_entries, keys}
use Rattle.std.specs.FinMap.{same_map, get-empty, get-insert, get-remove, get-from_entries}
use Rattle.std.specs.FinMap.{entries-insert, len-entries, len-empty}
use Rattle.std.specs.FinMap.Entries.{by_order}
use Rattle.std.specs.FinMap.{slice_cmp-IsAntisymmetric, nat_cmp-IsAntisymmetric}
use Rattle.std.specs.BTreeMap.{BTreeMap, is_at, UpdatesBy}
use Rattle.std.specs.List.{AllByRecursion}
use Rattle.std.specs.List.Sorted.{IsStrictlySortedBy}
use Rattle.std.specs.Map.{lookup}
use Rattle.board_model.specs.Files.{Files, renamed}
use Rattle.board_model.proofs.Names.{same_or_apart, apart, renamed_there}
use Rattle.mem_board.specs.FileList.{with_files}

abbrev pub by_name : List ℕ → List ℕ → Ordering
by_name = slice_cmp nat_cmp

pub same_names : IsAntisymmetric by_name
same_names = slice_cmp-IsAntisymmetric nat_cmp-IsAntisymmetric

-- files that answer alike are equal
pub same_files : (m n : Files) → ((q : List ℕ) → get m q ≡ get n q) → m ≡ n
same_files m n is = same_map nat_list_cmp_total same_names m n is

pub find_lookup : (q : List ℕ) (es : List (List ℕ × List ℕ))
    → find by_name q es ≡ lookup (is_at (by_name q)) es
find_lookup q [] = refl
find_lookup q (e ∷ es) =
    ap (λ o. cond (eq_by_cmp by_name q e.0) (Some e.1) o) (find_lookup q es)

pub get_lookup : (q : List ℕ) (es : List (List ℕ × List ℕ))
    → get (from_entries {R = by_name} es) q ≡ lookup (is_at (by_name q)) es
get_lookup q es = get-from_entries nat_list_cmp_total es q ∙ find_lookup q es

-- the tree after an update of one key is the map that answers so
updated : (m n : BTreeMap (List ℕ) (List ℕ)) (k : List ℕ) (w : Option (List ℕ)) (f : Files)
    → UpdatesBy by_name (by_name k) m n w
    → ((q : List ℕ)
    → get f q ≡ cond (eq_by_cmp by_name q k) w (get (from_entries {R = by_name} m.entries) q))
    → from_entries n.entries ≡ f
updated m n k w f u is = same_files _ _ (λ q.
    get_lookup q n.entries
    ∙ u.0 q
    ∙ ap (λ b. cond b w (lookup (is_at (by_name q)) m.entries)) ((eq_by_cmp_equiv nat_list_cmp_total).symm k q)
    ∙ ap (cond (eq_by_cmp by_name q k) w) (sym (get_lookup q m.entries))
    ∙ sym (is q))

pub inserted : (m n : BTreeMap (List ℕ) (List ℕ)) (k v : List ℕ)
    → UpdatesBy by_name (by_name k) m n (Some v)
    → from_entries {R = by_name} n.entries ≡ insert (from_entries m.entries) k v
inserted m n k v u = updated m n k (Some v) _ u (get-insert nat_list_cmp_total _ k v)

pub removed : (m n : BTreeMap (List ℕ) (List ℕ)) (k : List ℕ)
    → UpdatesBy by_name (by_name k) m n None
    → from_entries {R = by_name} n.entries ≡ remove (from_entries m.entries) k
removed m n k u = updated m n k None _ u (get-remove nat_list_cmp_total _ k)

not_both_values : true ≡ false → ⊥
not_both_values e = subst (λ b. elim b as (λ _. Type 0) [ true ↦ Unit {0} | false ↦ ⊥ ]) e tt

tie : (q name : List ℕ) → eq_by_cmp by_name q name ≡ true → q ≡ name
tie q name tied =
    elim (same_or_apart q name) [
      | inl same ↦ same
      | inr not ↦ absurd (not_both_values (sym tied ∙ not))
    ]

-- a test that is never true with another may stand before or after it
swapped : (a b : Bool) (x y z : Option (List ℕ)) → (a ≡ true → b ≡ false)
    → cond a x (cond b y z) ≡ cond b y (cond a x z)
swapped true true x y z apart = absurd (not_both_values (apart refl))
swapped true false x y z apart = refl
swapped false b x y z apart = refl

-- what ties with one name doesn't tie with another
not_both : (q a b : List ℕ) → b ≢ a → eq_by_cmp by_name q a ≡ true → eq_by_cmp by_name q b ≡ false
not_both q a b ne tied = apart q b (λ e. ne (sym e ∙ tie q a tied))

remove_insert : (files : Files) (from to bytes : List ℕ) → from ≢ to
    → remove (insert files to bytes) from ≡ insert (remove files from) to bytes
remove_insert files from to bytes ne = same_files _ _ (λ q.
    get-remove nat_list_cmp_total _ from q
    ∙ ap (cond (eq_by_cmp by_name q from) None) (get-insert nat_list_cmp_total files to bytes q)
    ∙ swapped (eq_by_cmp by_name q from) (eq_by_cmp by_name q to) None (Some bytes) (get files q) (not_both q from to (λ e. ne (sym e)))
    ∙ ap (cond (eq_by_cmp by_name q to) (Some bytes)) (sym (get-remove nat_list_cmp_total files from q))
    ∙ sym (get-insert nat_list_cmp_total (remove files from) to bytes q))

-- to put the bytes under the new name and then remove the old one is to rename
pub moved : (files : Files) (from to bytes : List ℕ) → get files from ≡ Some bytes → from ≢ to
    → remove (insert files to bytes) from ≡ renamed files from to
moved files from to bytes is ne =
    remove_insert files from to bytes ne ∙ sym (renamed_there files from to bytes is)

chosen : (b : Bool) (x y : Option (List ℕ)) → (b ≡ true → x ≡ y) → y ≡ cond b x y
chosen true x y e = sym (e refl)
chosen false x y e = refl

twice : (b : Bool) (x y z : Option (List ℕ)) → cond b x z ≡ cond b x (cond b y z)
twice true x y z = refl
twice false x y z = refl

-- a file that takes its own name stays
pub moved_to_itself : (files : Files) (name bytes : List ℕ) → get files name ≡ Some bytes
    → files ≡ renamed files name name
moved_to_itself files name bytes is = same_files _ _ (λ q.
    chosen (eq_by_cmp by_name q name) (Some bytes) (get files q) (λ tied. sym (ap (get files) (tie q name tied) ∙ is))
    ∙ twice (eq_by_cmp by_name q name) (Some bytes) None (get files q)
    ∙ ap (cond (eq_by_cmp by_name q name) (Some bytes)) (sym (get-remove nat_list_cmp_total files name q))
    ∙ sym (get-insert nat_list_cmp_total (remove files name) name bytes q)) ∙ sym (renamed_there files name name bytes is)

-- the list of entries, whose names strictly rise

in_front : (e : List ℕ × List ℕ) (es : List (List ℕ × List ℕ))
    → AllByRecursion (λ y. by_name e.0 y ≡ Less) (map (λ f. f.0) es)
    → put by_name e.0 e.1 es ≡ e ∷ es
in_front e [] below = refl
in_front e (f ∷ fs) below =
    ap (λ r. by_order r ((e.0, e.1) ∷ f ∷ fs) ((f.0, e.1) ∷ fs) (f ∷ put by_name e.0 e.1 fs)) below.0

none_long : {A : Type 0} (es : List A) → length es ≡ 0 → es ≡ []
none_long [] e = refl
none_long (x ∷ es) e = absurd (omega (arith, e))

empty_entries : entries (empty {K = List ℕ} {X = List ℕ} {R = by_name}) ≡ []
empty_entries = none_long _ (sym (len-entries empty) ∙ len-empty by_name (List ℕ))

pub sorted_entries : (es : List (List ℕ × List ℕ))
    → IsStrictlySortedBy by_name (map (λ e. e.0) es)
    → entries (from_entries {R = by_name} es) ≡ es
unfolding IsStrictlySortedBy
sorted_entries [] h = empty_entries
sorted_entries (e ∷ es) h =
    entries-insert nat_list_cmp_total (from_entries es) e.0 e.1
    ∙ ap (put by_name e.0 e.1) (sorted_entries es h.1)
    ∙ in_front e es h.0

pub sorted_keys : (es : List (List ℕ × List ℕ))
    → IsStrictlySortedBy by_name (map (λ e. e.0) es)
    → keys (from_entries {R = by_name} es) ≡ map (λ e. e.0) es
sorted_keys es h = ap (map (λ e. e.0)) (sorted_entries es h)

-- the first where it is there
abbrev or_else : Option (List ℕ) → Option (List ℕ) → Option (List ℕ)
or_else None y = y
or_else (Some x) y = Some x

none_above : (q : List ℕ) (es : List (List ℕ × List ℕ))
    → AllByRecursion (λ y. by_name q y ≡ Less) (map (λ f. f.0) es) → find by_name q es ≡ None
none_above q [] below = refl
none_above q (f ∷ fs) below =
    ap (λ r. cond (is_eq r) (Some f.1) (find by_name q fs)) below.0 ∙ none_above q fs below.1

last_is_first : (t : Bool) (found before : Option (List ℕ)) (x : List ℕ)
    → (t ≡ true → found ≡ None)
    → or_else found (cond t (Some x) before) ≡ or_else (cond t (Some x) found) before
last_is_first true found before x none = ap (λ o. or_else o (Some x)) (none refl)
last_is_first false found before x none = refl

get-with_files : (files : Files) (es : List (List ℕ × List ℕ))
    → IsStrictlySortedBy by_name (map (λ e. e.0) es)
    → (q : List ℕ) → get (with_files files es) q ≡ or_else (find by_name q es) (get files q)
unfolding IsStrictlySortedBy
get-with_files files [] h q = refl
get-with_files files (e ∷ es) h q =
    get-with_files (insert files e.0 e.1) es h.1 q
    ∙ ap (or_else (find by_name q es)) (get-insert nat_list_cmp_total files e.0 e.1 q)
    ∙ last_is_first (eq_by_cmp by_name q e.0) (find by_name q es) (get files q) e.1 (λ tied.
    none_above q es (subst (λ k. AllByRecursion (λ y. by_name k y ≡ Less) (map (λ f. f.0) es)) (sym (tie q e.0 tied)) h.0))

or_none : (o : Option (List ℕ)) → or_else o None ≡ o
or_none None = refl
or_none (Some x) = refl

-- entries put one after the other are the map of them all
pub with_sorted : (es : List (List ℕ × List ℕ))
    → IsStrictlySortedBy by_name (map (λ e. e.0) es) → with_files empty es ≡ from_entries es
with_sorted es h = same_files _ _ (λ q.
    get-with_files empty es h q
    ∙ ap (or_else (find by_name q es)) (get-empty by_name q)
    ∙ or_none (find by_name q es)
    ∙ sym (get-from_entries nat_list_cmp_total es q))
