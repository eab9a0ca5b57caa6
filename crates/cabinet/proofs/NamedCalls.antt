-- The names that a cabinet holds before and after a call of it.
use Rattle.std.proofs.Common.{◌≡◌, inl, inr, ⊎_elim, ℕ, List, [], ◌∷◌, map, Option, None, Some, Bool, true, false, refl, sym, subst, ◌∙◌, true≢false, Result, Ok, Err, IsOk}
use Rattle.std.specs.Prelude.{Contains, IsSome, IfSome, is_some, bytes_eq, option_map, T}
use Rattle.std.specs.Result.{is_ok}
use Rattle.std.specs.List.{IsDistinct, AllByRecursion}
use Rattle.std.specs.Ordering.{nat_cmp, is_lt, is_eq, eq_by_cmp}
use Rattle.std.specs.declared.cmp.Ordering.{Ordering}
use Rattle.std.specs.declared.cmp.Ordering.TheVariants.{Less, Equal, Greater}
use Rattle.std.specs.Cmp.{eq_by_cmp_equiv}
use Rattle.std.specs.Cmp.Lexicographic.{slice_cmp, nat_list_cmp_total}
use Rattle.std.specs.FinMap.{get, keys, entries, entries_sorted, is_sorted, contains_key-keys, slice_cmp-IsAntisymmetric, nat_cmp-IsAntisymmetric}
use Rattle.std.specs.FinMap.Entries.{below_all}
use Rattle.std.proofs.lemmas.Bool.{and_parts}
use Rattle.std.proofs.lemmas.Map.Views.{Contains-from_any, list_any-from_Contains}
use Rattle.fault_count.specs.Told.{Becomes}
use Rattle.board_model.specs.Files.{Files}
use Rattle.board_model.specs.Disk.{Image, Disk, Effect, Goes}
use Rattle.staged_file.specs.Staged.{Kept}
use Rattle.record_names.specs.Names.{IsRecordName}
use Rattle.cabinet.specs.Edits.{File, Words, After, Changes}
use Rattle.cabinet.specs.Names.{with_name, without_name}
use Rattle.cabinet.specs.Named.{AreNamed, HasNames, unsure_changed, KeepsNames}
use Rattle.cabinet.specs.Opening.{AreListed, AreRead}
use Rattle.cabinet.proofs.NamedLemmas.{Names, told_apart, named_kept, named_put, named_put_failed, named_removed, named_remove_failed, named_found, named_absent}
use Rattle.cabinet.proofs.PlainNames.{plain_name}

-- what is true of the content is so of the content after, where it is told
lifted : (R : Effect) (x y : Option Image) (P Q : Image → Type 0) → Becomes x y R → ((d i : Image) → R d i → P d → Q i) → IfSome x P → IfSome y Q
lifted R None None P Q b to p = tt
lifted R None (Some i) P Q b to p = absurd b
lifted R (Some d) None P Q b to p = absurd b
lifted R (Some d) (Some i) P Q b to p = to d i b p

module _ (a b : Disk) (names : Names) where
  -- nothing that isn't temporary is another
  pub kept_names : b.now ≡ a.now → KeepsNames (λ unsure. unsure) a names b names
  kept_names same unsure n = subst (λ (o : Option Image). IfSome o (λ now. AreNamed unsure now names)) (sym same) n

  -- a store of the chip's words changes no file
  pub stored_names : (words : List ℕ) (ok : Type 0) → Changes a b (Words words) ok → KeepsNames (λ unsure. unsure) a names b names
  stored_names words ok h unsure n = ⊎_elim
      (λ g. lifted (After []) a.now b.now (λ d. AreNamed unsure d names) (λ i. AreNamed unsure i names) g.now (λ d i r m. named_kept d i unsure names r.others m) n)
      (λ g. lifted (After (Words words ∷ [])) a.now b.now (λ d. AreNamed unsure d names) (λ i. AreNamed unsure i names) g.now (λ d i r m. named_kept d i unsure names r.others m) n)
      h.done_or_not

module _ (a b : Disk) (name : List ℕ) (is : IsRecordName name) (names : Names) {T E : Type 0} where
  -- a put
  pub put_names : (bytes : List ℕ) (r : Result T E) → Changes a b (File name (Some bytes)) (IsOk r) → KeepsNames (unsure_changed (is_ok r) name) a names b (with_name names name)
  put_names bytes (Ok x) h unsure n =
      lifted (After (File name (Some bytes) ∷ [])) a.now b.now (λ d. AreNamed unsure d names) (λ i. AreNamed (without_name unsure name) i (with_name names name))
      (h.edits.done refl).now (λ d i r m. named_put d i name bytes is unsure names m r) n
  put_names bytes (Err e) h unsure n = ⊎_elim
      (λ g. lifted (After []) a.now b.now (λ d. AreNamed unsure d names) (λ i. AreNamed (name ∷ unsure) i (with_name names name))
      g.now (λ d i r m. named_put_failed d i name bytes is unsure names m (inl r)) n)
      (λ g. lifted (After (File name (Some bytes) ∷ [])) a.now b.now (λ d. AreNamed unsure d names) (λ i. AreNamed (name ∷ unsure) i (with_name names name))
      g.now (λ d i r m. named_put_failed d i name bytes is unsure names m (inr r)) n)
      h.done_or_not

module _ (a b : Disk) (name : List ℕ) (is : IsRecordName name) (names : Names) (ok : Type 0) (h : Changes a b (File name None) ok) where
  -- a removal that was done
  pub removed_names : ok → KeepsNames (λ unsure. without_name unsure name) a names b (without_name names name)
  removed_names o unsure n =
      lifted (After (File name None ∷ [])) a.now b.now (λ d. AreNamed unsure d names) (λ i. AreNamed (without_name unsure name) i (without_name names name))
      (h.edits.done o).now (λ d i r m. named_removed d i name is unsure names m r) n

  -- one that failed
  pub remove_failed_names : KeepsNames (λ unsure. name ∷ unsure) a names b names
  remove_failed_names unsure n = ⊎_elim
      (λ g. lifted (After []) a.now b.now (λ d. AreNamed unsure d names) (λ i. AreNamed (name ∷ unsure) i names)
      g.now (λ d i r m. named_remove_failed d i name is unsure names m (inl r)) n)
      (λ g. lifted (After (File name None ∷ [])) a.now b.now (λ d. AreNamed unsure d names) (λ i. AreNamed (name ∷ unsure) i names)
      g.now (λ d i r m. named_remove_failed d i name is unsure names m (inr r)) n)
      h.done_or_not

both_told : (x : Option Image) (P Q R : Image → Type 0) → ((d : Image) → P d → Q d → R d) → IfSome x P → IfSome x Q → IfSome x R
both_told None P Q R to p q = tt
both_told (Some d) P Q R to p q = to d p q

is_found : (front : List ℕ → List ℕ) (o : Option (List ℕ)) → is_some (option_map front o) ≡ is_some o
is_found front None = refl
is_found front (Some x) = refl

is_absent : (front : List ℕ → List ℕ) (o : Option (List ℕ)) → option_map front o ≡ None → o ≡ None
is_absent front None e = refl
is_absent front (Some x) e = absurd (cc)

module _ (a b : Disk) (name : List ℕ) (names : Names) (front : List ℕ → List ℕ) (found : Option (List ℕ)) (same : b.now ≡ a.now)
    (read : IfSome a.now (λ now. found ≡ option_map front (get now.files name))) where
  -- a read of a record that is there
  pub found_names : IsSome found → KeepsNames (λ unsure. without_name unsure name) a names b names
  found_names is unsure n =
      subst (λ (o : Option Image). IfSome o (λ now. AreNamed (without_name unsure name) now names)) (sym same)
      (both_told a.now (λ now. found ≡ option_map front (get now.files name)) (λ now. AreNamed unsure now names) (λ now. AreNamed (without_name unsure name) now names)
      (λ d e m. named_found d name unsure names m (sym (is_found front (get d.files name)) ∙ subst IsSome e is)) read n)

  -- and of one that isn't
  pub absent_names : found ≡ None → KeepsNames (λ unsure. without_name unsure name) a names b (without_name names name)
  absent_names none unsure n =
      subst (λ (o : Option Image). IfSome o (λ now. AreNamed (without_name unsure name) now (without_name names name))) (sym same)
      (both_told a.now (λ now. found ≡ option_map front (get now.files name)) (λ now. AreNamed unsure now names) (λ now. AreNamed (without_name unsure name) now (without_name names name))
      (λ d e m. named_absent d name unsure names m (is_absent front (get d.files name) (sym e ∙ none))) read n)

-- ---- an opening

abbrev order : List ℕ → List ℕ → Ordering
order = slice_cmp nat_cmp

tie : (o : Ordering) → is_eq o ≡ true → o ≡ Equal
tie Less t = cc t
tie Equal t = refl
tie Greater t = cc t

same_key : (x y : List ℕ) → eq_by_cmp order x y ≡ true → x ≡ y
same_key x y e = slice_cmp-IsAntisymmetric nat_cmp-IsAntisymmetric x y (tie (order x y) e)

below_differs : (x y : List ℕ) → is_lt (order x y) ≡ true → x ≡ y → ⊥
below_differs x y less same =
    let tied = tie (order x y) (subst (λ (z : List ℕ). is_eq (order x z) ≡ true) same ((eq_by_cmp_equiv nat_list_cmp_total).refl x)) in
    true≢false (sym less ∙ rw tied refl)

keys_apart : (x : List ℕ) (rows : List (List ℕ × List ℕ)) → below_all order x rows ≡ true → AllByRecursion (λ y. bytes_eq x y ≡ false) (map (λ e. e.0) rows)
keys_apart x [] below = tt
keys_apart x (row ∷ rows) below = let parts = and_parts _ _ below in (told_apart x row.0 (below_differs x row.0 parts.0), keys_apart x rows parts.1)

rows_once : (rows : List (List ℕ × List ℕ)) → is_sorted order rows ≡ true → IsDistinct bytes_eq (map (λ e. e.0) rows)
unfolding IsDistinct
rows_once [] sorted = tt
rows_once (row ∷ rows) sorted = let parts = and_parts _ _ sorted in (keys_apart row.0 rows parts.0, rows_once rows parts.1)

holds : (b : Bool) → T b → b ≡ true
holds true is = refl
holds false is = absurd is

-- no file stands twice
keys_once : (files : Files) → IsDistinct bytes_eq (keys files)
keys_once files = rows_once (entries files) (holds _ (entries_sorted files))

key_listed : (files : Files) (q : List ℕ) → IsSome (get files q) → Contains (keys files) q
key_listed files q there = Contains-from_any same_key q (keys files) (sym (contains_key-keys files q) ∙ there)

key_there : (files : Files) (q : List ℕ) → Contains (keys files) q → IsSome (get files q)
key_there files q h = contains_key-keys files q ∙ list_any-from_Contains (eq_by_cmp_equiv nat_list_cmp_total) q (keys files) h

-- the names that were found are those of the records that are there
pub opened_names : (a b : Disk) (files names : Names) → AreListed a files → AreRead files names → Goes a b Kept → HasNames [] b names
opened_names a b files names listed read goes =
    lifted Kept a.now b.now (λ d. files ≡ keys d.files) (λ i. AreNamed [] i names) goes.now (λ d i k e. record {
      once = read.once (subst (IsDistinct bytes_eq) (sym e) (keys_once d.files));
      every = λ q is there. read.found q is (subst (λ (xs : Names). Contains xs q) (sym e) (key_listed d.files q (subst IsSome (k.others q (plain_name q is)) there)));
      only = λ q held. let was = read.only q held in (
        was.0,
        inl (subst IsSome (sym (k.others q (plain_name q was.0))) (key_there d.files q (subst (λ (xs : Names). Contains xs q) e was.1))),
      );
    }) listed
