-- Temporary files that are removed, and names that are found.
use Rattle.std.proofs.Common.{◌≡◌, ◌⊎◌, inl, inr, ⊎_elim, ℕ, ◌+◌, ◌<◌, List, [], ◌∷◌, ◌++◌, length, take, get_or, None, sym, ap, ◌∙◌, subst, arith, Result, Ok, Err, OnOk, IfOk, true, false, true≢false}
use Rattle.std.specs.Result.{is_err}
use Rattle.std.specs.Prelude.{Contains}
use Rattle.std.proofs.lemmas.List.{take_more}
use Rattle.std.proofs.lemmas.List.Elements.{Contains-append_left, Contains-append_right, Contains-append_cases}
use Rattle.std.specs.FinMap.{get, remove}
use Rattle.fault_count.specs.Causes.{HasCause}
use Rattle.board_model.specs.Files.{Files, IsTemporary}
use Rattle.board_model.specs.Disk.{Image, Disk, Same, Removed, Maybe, Leaves, Goes, GoesOrNot}
use Rattle.board_model.proofs.Effects.{leaves_then, goes_then}
use Rattle.board_model.proofs.Names.{get-removed, get-remove_other}
use Rattle.staged_file.specs.Staged.{Kept}
use Rattle.staged_file.proofs.Staging.{kept_same}
use Rattle.record_names.specs.Names.{IsRecordName}
use Rattle.cabinet.specs.Opening.{LacksOnceSynced}
use Rattle.cabinet.proofs.EditLemmas.{which}

module _ (name : List ℕ) where
  -- a temporary file that is removed doesn't count
  pub temporary_removed : IsTemporary name → (d i : Image) → Removed name d i → Kept d i
  temporary_removed is d i e = record {
    words = ap (λ (x : Image). x.words) e;
    others = λ q plain. ap (λ (x : Image). get x.files q) e ∙ get-remove_other d.files name q (λ same. plain (subst IsTemporary (sym same) is));
  }

  pub maybe_removed : IsTemporary name → (d i : Image) → Maybe (Removed name) d i → Kept d i
  maybe_removed is d i (inl e) = kept_same d i e
  maybe_removed is d i (inr e) = temporary_removed is d i e

  -- it is gone from each image that a sync leaves
  pub removed_gone : (a b : Disk) → Goes a b (Removed name) → LacksOnceSynced b name
  removed_gone a b g i left = let from = g.synced i left in ap (λ (x : Image). get x.files name) from.2 ∙ get-removed from.0.files name

  still_gone : (files : Files) (q : List ℕ) → get files q ≡ None → get (remove files name) q ≡ None
  still_gone files q none = ⊎_elim
      (λ same. subst (λ (n : List ℕ). get (remove files name) n ≡ None) (sym same) (get-removed files name))
      (λ apart. get-remove_other files name q apart ∙ none) (which q name)

  -- and what is gone stays so
  pub stays_gone : (a b : Disk) → GoesOrNot a b (Removed name) → (q : List ℕ) → LacksOnceSynced a q → LacksOnceSynced b q
  stays_gone a b (inl g) q lacks i left = let from = g.synced i left in ap (λ (x : Image). get x.files q) from.2 ∙ lacks from.0 from.1
  stays_gone a b (inr g) q lacks i left = let from = g.synced i left in ap (λ (x : Image). get x.files q) from.2 ∙ still_gone from.0.files q (lacks from.0 from.1)

-- the count so far stood still
pub cause_on : (a b c : ℕ) (P Q : Type 0) → b ≡ a → (P → Q) → (Q → P) → HasCause b c P → HasCause a c Q
cause_on a b c P Q same to from h = subst (λ (n : ℕ). HasCause n c Q) same (record { later = h.later; rose = λ q. h.rose (from q); kept = λ none. h.kept (λ p. none (to p)) })

pub none_in : (q : List ℕ) → Contains [] q → ⊥
none_in q h = absurd (omega (arith, h.1))

pub only_one : (item q : List ℕ) → Contains (item ∷ []) q → item ≡ q
only_one item q h = one h.0 h.1 h.2
  where
    one : (k : ℕ) → k < 1 → get_or (item ∷ []) k q ≡ q → item ≡ q
    one k lt e = let z : k ≡ 0 = omega arith in subst (λ (n : ℕ). get_or (item ∷ []) n q ≡ q) z e

-- the elements so far, and one more
pub one_more : (files : List (List ℕ)) (k : ℕ) (item q : List ℕ) → k < length files → item ≡ get_or files k item → Contains (take (k + 1) files) q → Contains (take k files) q ⊎ (item ≡ q)
one_more files k item q lt is h =
    let split : take (k + 1) files ≡ take k files ++ item ∷ [] = take_more files k item lt ∙ ap (λ (x : List ℕ). take k files ++ x ∷ []) (sym is) in
    ⊎_elim inl (λ last. inr (only_one item q last)) (Contains-append_cases (take k files) (item ∷ []) q (subst (λ (xs : List (List ℕ)). Contains xs q) split h))

pub one_less : (files : List (List ℕ)) (k : ℕ) (item q : List ℕ) → k < length files → item ≡ get_or files k item → Contains (take k files) q ⊎ (item ≡ q) → Contains (take (k + 1) files) q
one_less files k item q lt is h =
    let split : take (k + 1) files ≡ take k files ++ item ∷ [] = take_more files k item lt ∙ ap (λ (x : List ℕ). take k files ++ x ∷ []) (sym is) in
    subst (λ (xs : List (List ℕ)). Contains xs q) (sym split) (⊎_elim (λ left. Contains-append_left (take k files) (item ∷ []) q left) (λ same. Contains-append_right (take k files) (item ∷ []) q (at_last same)) h)
  where
    at_last : item ≡ q → Contains (item ∷ []) q
    at_last same = (0, omega arith, same)

module _ (files names more : List (List ℕ)) (k : ℕ) (item : List ℕ) (lt : k < length files) (is : item ≡ get_or files k item)
    (found : (q : List ℕ) → IsRecordName q → Contains (take k files) q → Contains names q)
    (only : (q : List ℕ) → Contains names q → IsRecordName q × Contains (take k files) q)
    (adds : IsRecordName item → more ≡ names ++ item ∷ []) (either : (more ≡ names) ⊎ (IsRecordName item × (more ≡ names ++ item ∷ []))) where
  grows : (q : List ℕ) → Contains names q → Contains more q
  grows q h = ⊎_elim (λ same. subst (λ (xs : List (List ℕ)). Contains xs q) (sym same) h)
      (λ added. subst (λ (xs : List (List ℕ)). Contains xs q) (sym added.1) (Contains-append_left names (item ∷ []) q h)) either

  pub found_more : (q : List ℕ) → IsRecordName q → Contains (take (k + 1) files) q → Contains more q
  found_more q name h = ⊎_elim (λ before. grows q (found q name before))
      (λ same. subst (λ (xs : List (List ℕ)). Contains xs q) (sym (adds (subst IsRecordName (sym same) name))) (Contains-append_right names (item ∷ []) q (0, omega arith, same)))
      (one_more files k item q lt is h)

  pub only_more : (q : List ℕ) → Contains more q → IsRecordName q × Contains (take (k + 1) files) q
  only_more q h = ⊎_elim
      (λ same. kept (subst (λ (xs : List (List ℕ)). Contains xs q) same h))
      (λ added. ⊎_elim kept (λ last. (subst IsRecordName (only_one item q last) added.0, one_less files k item q lt is (inr (only_one item q last))))
      (Contains-append_cases names (item ∷ []) q (subst (λ (xs : List (List ℕ)). Contains xs q) added.1 h))) either
    where
      kept : Contains names q → IsRecordName q × Contains (take (k + 1) files) q
      kept was = let old = only q was in (old.0, one_less files k item q lt is (inl old.1))

-- an error isn't an Ok
pub ok_not_err : {T E : Type 0} (r : Result T E) (x : T) → r ≡ Ok x → is_err r ≡ true → ⊥
ok_not_err r x is e = true≢false (sym e ∙ ap is_err is)

-- a listing, and then a call that keeps the files that aren't temporary
same_kept : (d e i : Image) → Same d e → Kept e i → Kept d i
same_kept d e i s k = subst (λ (x : Image). Kept x i) s k

pub leaves_listed : (a b c : Disk) → Leaves a b Same → Leaves b c Kept → Leaves a c Kept
leaves_listed a b c f g = leaves_then a b c Same Kept Kept kept_same (λ d e i s left k. same_kept d e i s k) f g

pub goes_listed : (a b c : Disk) → Goes a b Same → Goes b c Kept → Goes a c Kept
goes_listed a b c f g = goes_then a b c Same Kept Kept same_kept f g

pub on_not_err : {T E : Type 0} (r : Result T E) {P : Type 0} → OnOk r P → is_err r ≡ false → P
on_not_err (Ok x) p e = p
on_not_err (Err x) p e = absurd (true≢false e)

pub if_ok : {T E : Type 0} (r : Result T E) (P Q : T → Type 0) → ((x : T) → P x → Q x) → IfOk r P → IfOk r Q
if_ok (Ok x) P Q to p = to x p
if_ok (Err e) P Q to p = tt
