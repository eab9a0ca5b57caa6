-- Names that are held: one more, one fewer, and against the records that are there.
use Rattle.std.proofs.Common.{◌≡◌, ◌≢◌, ◌⊎◌, inl, inr, ⊎_elim, ℕ, ◌<◌, List, [], ◌∷◌, ◌++◌, length, get_or, take, Option, None, Some, Bool, true, false, cond, refl, sym, ap, ◌∙◌, subst, arith, true≢false}
use Rattle.std.specs.Prelude.{Contains, IsSome, bytes_eq, filter, not, ◌||◌}
use Rattle.std.specs.List.{IsDistinct, AllByRecursion}
use Rattle.std.specs.FinMap.{get}
use Rattle.std.proofs.lemmas.Slice.Eq.{bytes_eq-Decides}
use Rattle.std.proofs.lemmas.List.{length-take-le, get_or-take}
use Rattle.std.proofs.lemmas.Map.Keys.{apart_from_distinct}
use Rattle.std.proofs.lemmas.List.Elements.{Contains-append_left, Contains-append_right, Contains-append_cases}
use Rattle.board_model.specs.Files.{IsTemporary}
use Rattle.board_model.specs.Disk.{Image}
use Rattle.staged_file.specs.Staged.{Kept}
use Rattle.record_names.specs.Names.{IsRecordName}
use Rattle.cabinet.specs.Edits.{File, After}
use Rattle.cabinet.specs.Names.{is_held, with_name, without_name}
use Rattle.cabinet.specs.Named.{IsThere, AreNamed}
use Rattle.cabinet.proofs.EditLemmas.{which, get_content, get_others}
use Rattle.cabinet.proofs.OpeningLemmas.{none_in, only_one}
use Rattle.cabinet.proofs.PlainNames.{plain_name}

abbrev pub Names : Type 0
Names = List (List ℕ)

-- ---- which names stand in a list

alike : (x y : List ℕ) → bytes_eq x y ≡ true → x ≡ y
alike x y = (bytes_eq-Decides x y).0

unlike : (x y : List ℕ) → bytes_eq x y ≡ false → x ≢ y
unlike x y none same = true≢false (sym ((bytes_eq-Decides x y).1 same) ∙ none)

pub told_apart : (x y : List ℕ) → x ≢ y → bytes_eq x y ≡ false
told_apart x y apart =
    elim (bytes_eq x y) as (λ b. bytes_eq x y ≡ b → bytes_eq x y ≡ false) [ true ↦ λ t. absurd (apart (alike x y t)) | false ↦ λ f. f ] refl

in_front : (x : List ℕ) (xs : Names) → Contains (x ∷ xs) x
in_front x xs = (0, omega arith, refl)

behind : (x q : List ℕ) (xs : Names) → Contains xs q → Contains (x ∷ xs) q
behind x q xs h = Contains-append_right (x ∷ []) xs q h

front_or : (x q : List ℕ) (xs : Names) → Contains (x ∷ xs) q → (x ≡ q) ⊎ Contains xs q
front_or x q xs h = ⊎_elim (λ one. inl (only_one x q one)) inr (Contains-append_cases (x ∷ []) xs q h)

or_here : (a b : Bool) → a ≡ true → (a || b) ≡ true
or_here true b e = refl
or_here false b e = absurd (true≢false (sym e))

or_there : (a b : Bool) → b ≡ true → (a || b) ≡ true
or_there true b e = refl
or_there false b e = e

or_cases : (a b : Bool) → (a || b) ≡ true → (a ≡ true) ⊎ (b ≡ true)
or_cases true b e = inl refl
or_cases false b e = inr e

pub held-contains : (names : Names) (q : List ℕ) → is_held names q ≡ true → Contains names q
held-contains [] q e = absurd (true≢false (sym e))
held-contains (x ∷ xs) q e = ⊎_elim (λ here. subst (λ (n : List ℕ). Contains (x ∷ xs) n) (alike x q here) (in_front x xs)) (λ later. behind x q xs (held-contains xs q later)) (or_cases (bytes_eq x q) (is_held xs q) e)

pub contains-held : (names : Names) (q : List ℕ) → Contains names q → is_held names q ≡ true
contains-held [] q h = absurd (none_in q h)
contains-held (x ∷ xs) q h = ⊎_elim (λ same. or_here (bytes_eq x q) (is_held xs q) ((bytes_eq-Decides x q).1 same)) (λ later. or_there (bytes_eq x q) (is_held xs q) (contains-held xs q later)) (front_or x q xs h)

-- ---- none stands twice

all_push : (P : List ℕ → Type 0) (xs : Names) (y : List ℕ) → AllByRecursion P xs → P y → AllByRecursion P (xs ++ y ∷ [])
all_push P [] y are is = (is, tt)
all_push P (x ∷ xs) y are is = (are.0, all_push P xs y are.1 is)

pub distinct_none : IsDistinct bytes_eq []
unfolding IsDistinct
distinct_none = tt

-- one more that isn't there yet
pub distinct_push : (xs : Names) (y : List ℕ) → IsDistinct bytes_eq xs → (Contains xs y → ⊥) → IsDistinct bytes_eq (xs ++ y ∷ [])
unfolding IsDistinct
distinct_push [] y d absent = (tt, tt)
distinct_push (x ∷ xs) y d absent = (
  all_push (λ z. bytes_eq x z ≡ false) xs y d.0 (told_apart x y (λ same. absent (subst (λ (n : List ℕ). Contains (x ∷ xs) n) same (in_front x xs)))),
  distinct_push xs y d.1 (λ h. absent (behind x y xs h)),
)

all_filter : (P : List ℕ → Type 0) (p : List ℕ → Bool) (xs : Names) → AllByRecursion P xs → AllByRecursion P (filter p xs)
all_filter P p [] are = tt
all_filter P p (x ∷ xs) are =
    elim (p x) as (λ b. AllByRecursion P (cond b (x ∷ filter p xs) (filter p xs))) [ true ↦ (are.0, all_filter P p xs are.1) | false ↦ all_filter P p xs are.1 ]

pub distinct_filter : (p : List ℕ → Bool) (xs : Names) → IsDistinct bytes_eq xs → IsDistinct bytes_eq (filter p xs)
unfolding IsDistinct
distinct_filter p [] d = tt
distinct_filter p (x ∷ xs) d =
    elim (p x) as (λ b. IsDistinct bytes_eq (cond b (x ∷ filter p xs) (filter p xs))) [
      | true ↦ (all_filter (λ z. bytes_eq x z ≡ false) p xs d.0, distinct_filter p xs d.1)
      | false ↦ distinct_filter p xs d.1
    ]

-- what stands at a place of a list in which nothing stands twice isn't among those before it
not_before : (files : Names) (k : ℕ) (item : List ℕ) → IsDistinct bytes_eq files → k < length files → item ≡ get_or files k item → Contains (take k files) item → ⊥
not_before files k item d lt is h =
    let early : h.0 < k = omega (arith, h.1, length-take-le k files (omega arith)) in
    let same : get_or files h.0 item ≡ item = sym (get_or-take k files h.0 item early) ∙ h.2 in
    let apart = apart_from_distinct bytes_eq files h.0 k item d early lt in
    true≢false (sym ((bytes_eq-Decides item item).1 refl) ∙ rw (same, sym is) at apart)

-- one file more, and its name if it is a record's
pub once_more : (files names more : Names) (k : ℕ) (item : List ℕ) → k < length files → item ≡ get_or files k item
    → ((q : List ℕ) → Contains names q → IsRecordName q × Contains (take k files) q)
    → (more ≡ names) ⊎ (IsRecordName item × (more ≡ names ++ item ∷ [])) → IsDistinct bytes_eq files → IsDistinct bytes_eq names → IsDistinct bytes_eq more
once_more files names more k item lt is only either d once = ⊎_elim
    (λ same. subst (IsDistinct bytes_eq) (sym same) once)
    (λ added. subst (IsDistinct bytes_eq) (sym added.1) (distinct_push names item once (λ h. not_before files k item d lt is (only item h).1))) either

-- ---- one name more

module _ (names : Names) (name : List ℕ) where
  with_cases : (P : Names → Type 0) → (is_held names name ≡ true → P names) → (is_held names name ≡ false → P (names ++ name ∷ [])) → P (with_name names name)
  with_cases P there new = elim (is_held names name) as (λ b. is_held names name ≡ b → P (cond b names (names ++ name ∷ []))) [ true ↦ there | false ↦ new ] refl

  with_itself : Contains (with_name names name) name
  with_itself = with_cases (λ xs. Contains xs name) (λ e. held-contains names name e) (λ e. Contains-append_right names (name ∷ []) name (in_front name []))

  with_before : (q : List ℕ) → Contains names q → Contains (with_name names name) q
  with_before q h = with_cases (λ xs. Contains xs q) (λ e. h) (λ e. Contains-append_left names (name ∷ []) q h)

  with_only : (q : List ℕ) → Contains (with_name names name) q → Contains names q ⊎ (name ≡ q)
  with_only q = with_cases (λ xs. Contains xs q → Contains names q ⊎ (name ≡ q)) (λ e h. inl h)
      (λ e h. ⊎_elim inl (λ one. inr (only_one name q one)) (Contains-append_cases names (name ∷ []) q h))

  with_once : IsDistinct bytes_eq names → IsDistinct bytes_eq (with_name names name)
  with_once d = with_cases (IsDistinct bytes_eq) (λ e. d) (λ e. distinct_push names name d (λ h. true≢false (sym (contains-held names name h) ∙ e)))

-- ---- one name fewer

pub without_only : (names : Names) (name q : List ℕ) → Contains (without_name names name) q → Contains names q × (q ≢ name)
without_only [] name q h = absurd (none_in q h)
without_only (x ∷ xs) name q h =
    elim (bytes_eq x name) as (λ b. bytes_eq x name ≡ b → Contains (cond (not b) (x ∷ without_name xs name) (without_name xs name)) q → Contains (x ∷ xs) q × (q ≢ name)) [
      | true ↦ λ e g. let r = without_only xs name q g in (behind x q xs r.0, r.1)
      | false ↦ λ e g. ⊎_elim
          (λ same. (subst (λ (n : List ℕ). Contains (x ∷ xs) n) same (in_front x xs), subst (λ (n : List ℕ). n ≢ name) same (unlike x name e)))
          (λ later. let r = without_only xs name q later in (behind x q xs r.0, r.1)) (front_or x q (without_name xs name) g)
    ] refl h

pub without_other : (names : Names) (name q : List ℕ) → Contains names q → q ≢ name → Contains (without_name names name) q
without_other [] name q h apart = absurd (none_in q h)
without_other (x ∷ xs) name q h apart =
    elim (bytes_eq x name) as (λ b. bytes_eq x name ≡ b → Contains (cond (not b) (x ∷ without_name xs name) (without_name xs name)) q) [
      | true ↦ λ e. ⊎_elim (λ same. absurd (apart (sym same ∙ alike x name e))) (λ later. without_other xs name q later apart) (front_or x q xs h)
      | false ↦ λ e. ⊎_elim (λ same. subst (λ (n : List ℕ). Contains (x ∷ without_name xs name) n) same (in_front x (without_name xs name)))
          (λ later. behind x q (without_name xs name) (without_other xs name q later apart)) (front_or x q xs h)
    ] refl

-- ---- against what is there

module _ (d i : Image) where
  -- the files that aren't temporary stay
  abbrev pub Others : Type 0
  Others = (q : List ℕ) → ¬ IsTemporary q → get i.files q ≡ get d.files q

  same_there : Others → (q : List ℕ) → IsRecordName q → get i.files q ≡ get d.files q
  same_there others q is = others q (plain_name q is)

  -- then the names do
  pub named_kept : (unsure names : Names) → Others → AreNamed unsure d names → AreNamed unsure i names
  named_kept unsure names others n = record {
    once = n.once;
    every = λ q is there. n.every q is (subst IsSome (same_there others q is) there);
    only = λ q held. let was = n.only q held in (was.0, ⊎_elim (λ there. inl (subst IsSome (sym (same_there others q was.0)) there)) inr was.1);
  }

-- more names may be unsure
pub named_wider : (d : Image) (unsure wider names : Names) → ((q : List ℕ) → Contains unsure q → Contains wider q) → AreNamed unsure d names → AreNamed wider d names
named_wider d unsure wider names more n = record {
  once = n.once;
  every = n.every;
  only = λ q held. let was = n.only q held in (was.0, ⊎_elim inl (λ doubt. inr (more q doubt)) was.1);
}

module _ (d i : Image) (name : List ℕ) (content : Option (List ℕ)) (is : IsRecordName name) (a : After (File name content ∷ []) d i) where
  now_here : get i.files name ≡ content
  now_here = a.others name (plain_name name is) ∙ get_content d.files name content

  now_other : (q : List ℕ) → IsRecordName q → q ≢ name → get i.files q ≡ get d.files q
  now_other q plain apart = a.others q (plain_name q plain) ∙ get_others d.files name content q apart

module _ (d i : Image) (name bytes : List ℕ) (is : IsRecordName name) (unsure names : Names) (n : AreNamed unsure d names) where
  -- a record that was put is there
  pub named_put : After (File name (Some bytes) ∷ []) d i → AreNamed (without_name unsure name) i (with_name names name)
  named_put a = record {
    once = with_once names name n.once;
    every = λ q plain there. ⊎_elim (λ same. subst (λ (m : List ℕ). Contains (with_name names name) m) (sym same) (with_itself names name))
        (λ apart. with_before names name q (n.every q plain (subst IsSome (now_other d i name (Some bytes) is a q plain apart) there))) (which q name);
    only = λ q held. ⊎_elim
        (λ same. (subst IsRecordName (sym same) is, inl (subst (λ (m : List ℕ). IsSome (get i.files m)) (sym same) (subst IsSome (sym (now_here d i name (Some bytes) is a)) refl))))
        (λ apart. ⊎_elim (λ was. let o = n.only q was in (o.0, ⊎_elim (λ there. inl (subst IsSome (sym (now_other d i name (Some bytes) is a q o.0 apart)) there)) (λ doubt. inr (without_other unsure name q doubt apart)) o.1))
        (λ new. absurd (apart (sym new))) (with_only names name q held)) (which q name);
  }

  -- one whose put failed may be there
  pub named_put_failed : Kept d i ⊎ After (File name (Some bytes) ∷ []) d i → AreNamed (name ∷ unsure) i (with_name names name)
  named_put_failed (inl k) = record {
    once = with_once names name n.once;
    every = λ q plain there. with_before names name q (n.every q plain (subst IsSome (same_there d i k.others q plain) there));
    only = λ q held. ⊎_elim (λ was. let o = n.only q was in (o.0, ⊎_elim (λ there. inl (subst IsSome (sym (same_there d i k.others q o.0)) there)) (λ doubt. inr (behind name q unsure doubt)) o.1))
        (λ new. (subst IsRecordName new is, inr (subst (λ (m : List ℕ). Contains (name ∷ unsure) m) new (in_front name unsure)))) (with_only names name q held);
  }
  named_put_failed (inr a) = named_wider i (without_name unsure name) (name ∷ unsure) (with_name names name) (λ q h. behind name q unsure (without_only unsure name q h).0) (named_put a)

module _ (d i : Image) (name : List ℕ) (is : IsRecordName name) (unsure names : Names) (n : AreNamed unsure d names) where
  lacks_itself : {X : Type 0} (q : List ℕ) → IsThere i q → get i.files name ≡ None → q ≡ name → X
  lacks_itself q there none same = absurd (true≢false (sym (subst IsSome (ap (get i.files) same ∙ none) there)))

  -- a record that was removed isn't there
  pub named_removed : After (File name None ∷ []) d i → AreNamed (without_name unsure name) i (without_name names name)
  named_removed a = record {
    once = distinct_filter (λ held. not (bytes_eq held name)) names n.once;
    every = λ q plain there. ⊎_elim (λ same. lacks_itself q there (now_here d i name None is a) same)
        (λ apart. without_other names name q (n.every q plain (subst IsSome (now_other d i name None is a q plain apart) there)) apart) (which q name);
    only = λ q held. let was = without_only names name q held in let o = n.only q was.0 in (
      o.0,
      ⊎_elim (λ there. inl (subst IsSome (sym (now_other d i name None is a q o.0 was.1)) there)) (λ doubt. inr (without_other unsure name q doubt was.1)) o.1,
    );
  }

  -- one whose removal failed may be there
  pub named_remove_failed : Kept d i ⊎ After (File name None ∷ []) d i → AreNamed (name ∷ unsure) i names
  named_remove_failed (inl k) = named_wider i unsure (name ∷ unsure) names (λ q h. behind name q unsure h) (named_kept d i unsure names k.others n)
  named_remove_failed (inr a) = record {
    once = n.once;
    every = λ q plain there. ⊎_elim (λ same. lacks_itself q there (now_here d i name None is a) same)
        (λ apart. n.every q plain (subst IsSome (now_other d i name None is a q plain apart) there)) (which q name);
    only = λ q held. let o = n.only q held in (
      o.0,
      ⊎_elim (λ same. inr (subst (λ (m : List ℕ). Contains (name ∷ unsure) m) (sym same) (in_front name unsure)))
          (λ apart. ⊎_elim (λ there. inl (subst IsSome (sym (now_other d i name None is a q o.0 apart)) there)) (λ doubt. inr (behind name q unsure doubt)) o.1) (which q name),
    );
  }

module _ (d : Image) (name : List ℕ) (unsure names : Names) (n : AreNamed unsure d names) where
  -- a record that was found is there
  pub named_found : IsThere d name → AreNamed (without_name unsure name) d names
  named_found there = record {
    once = n.once;
    every = n.every;
    only = λ q held. let o = n.only q held in (
      o.0,
      ⊎_elim inl (λ doubt. ⊎_elim (λ same. inl (subst (λ (m : List ℕ). IsThere d m) (sym same) there)) (λ apart. inr (without_other unsure name q doubt apart)) (which q name)) o.1,
    );
  }

  -- one that wasn't isn't
  pub named_absent : get d.files name ≡ None → AreNamed (without_name unsure name) d (without_name names name)
  named_absent none = record {
    once = distinct_filter (λ held. not (bytes_eq held name)) names n.once;
    every = λ q plain there. ⊎_elim (λ same. absurd (true≢false (sym (subst IsSome (ap (get d.files) same ∙ none) there))))
        (λ apart. without_other names name q (n.every q plain there) apart) (which q name);
    only = λ q held. let was = without_only names name q held in let o = n.only q was.0 in (o.0, ⊎_elim inl (λ doubt. inr (without_other unsure name q doubt was.1)) o.1);
  }
