-- How changes join.
use Rattle.std.proofs.Common.{◌≡◌, ◌≢◌, ◌⊎◌, inl, inr, ⊎_elim, ℕ, ◌+◌, zero, suc, ◌≤◌, List, [], ◌∷◌, ◌++◌, length, take, Option, None, Some, refl, sym, ap, ◌∙◌, subst, arith, Result, Ok, Err, OnOk, IsOk, true, true≢false}
use Rattle.std.proofs.lemmas.List.{length-append}
use Rattle.std.specs.Ordering.{nat_cmp, is_eq}
use Rattle.std.specs.Cmp.{eq_by_cmp_equiv}
use Rattle.std.specs.Cmp.Lexicographic.{slice_cmp, nat_list_cmp_total}
use Rattle.std.specs.declared.cmp.Ordering.{Ordering}
use Rattle.std.specs.declared.cmp.Ordering.TheVariants.{Less, Equal, Greater}
use Rattle.std.specs.FinMap.{get, slice_cmp-IsAntisymmetric, nat_cmp-IsAntisymmetric}
use Rattle.fault_count.specs.Told.{Becomes}
use Rattle.board_model.specs.Files.{Files, IsTemporary, with_content}
use Rattle.board_model.specs.Disk.{Image, Disk, Same, Stored, Maybe, Follows, Leaves, Goes, GoesOrNot}
use Rattle.board_model.proofs.Effects.{follows_weaker, follows_then, leaves_weaker, leaves_on, goes_weaker, goes_then}
use Rattle.board_model.proofs.Names.{get-inserted, get-insert_other, get-removed, get-remove_other}
use Rattle.staged_file.specs.Staged.{Kept, Replaced, KeptOr}
use Rattle.staged_file.proofs.Staging.{kept_same, kept_then}
use Rattle.cabinet.specs.Edits.{Edit, File, Words, edited, after, After, AfterSome, Agrees, IsSettled, Edits, Changes}

-- names are the same or aren't
pub which : (q name : List ℕ) → (q ≡ name) ⊎ (q ≢ name)
which q name = ⊎_elim (λ e. inl (same e)) (λ e. inr (λ s. apart s e)) (tied (slice_cmp nat_cmp q name))
  where
    same : slice_cmp nat_cmp q name ≡ Equal → q ≡ name
    same e = slice_cmp-IsAntisymmetric nat_cmp-IsAntisymmetric q name e

    tie : (o : Ordering) → is_eq o ≡ true → o ≡ Equal
    tie Less t = cc t
    tie Equal t = refl
    tie Greater t = cc t

    apart : q ≡ name → (slice_cmp nat_cmp q name ≡ Equal → ⊥) → ⊥
    apart s e = e (tie (slice_cmp nat_cmp q name) (subst (λ (n : List ℕ). is_eq (slice_cmp nat_cmp q n) ≡ true) s ((eq_by_cmp_equiv nat_list_cmp_total).refl q)))

    tied : (o : Ordering) → (o ≡ Equal) ⊎ (o ≡ Equal → ⊥)
    tied Less = inr (λ e. cc e)
    tied Equal = inl refl
    tied Greater = inr (λ e. cc e)

pub get_content : (files : Files) (name : List ℕ) (content : Option (List ℕ)) → get (with_content files name content) name ≡ content
get_content files name None = get-removed files name
get_content files name (Some bytes) = get-inserted files name bytes

pub get_others : (files : Files) (name : List ℕ) (content : Option (List ℕ)) (q : List ℕ) → q ≢ name → get (with_content files name content) q ≡ get files q
get_others files name None q apart = get-remove_other files name q apart
get_others files name (Some bytes) q apart = get-insert_other files name bytes q apart

pub kept_refl : (i : Image) → Kept i i
kept_refl i = record { words = refl; others = λ q plain. refl }

kept_sides : (name : List ℕ) (content : Option (List ℕ)) (d e : Image) → Kept d e → Kept (edited d (File name content)) (edited e (File name content))
kept_sides name content d e k = record {
  words = k.words;
  others = λ q plain. ⊎_elim
      (λ same. subst (λ (n : List ℕ). get (with_content e.files name content) n ≡ get (with_content d.files name content) n) (sym same) (get_content e.files name content ∙ sym (get_content d.files name content)))
      (λ apart. get_others e.files name content q apart ∙ k.others q plain ∙ sym (get_others d.files name content q apart))
      (which q name);
}

-- images that are alike are so after an edit, and after several
kept_edited : (edit : Edit) (d e : Image) → Kept d e → Kept (edited d edit) (edited e edit)
kept_edited (File name content) d e k = kept_sides name content d e k
kept_edited (Words words) d e k = record { words = refl; others = k.others }

pub kept_after : (edits : List Edit) (d e : Image) → Kept d e → Kept (after edits d) (after edits e)
kept_after [] d e k = k
kept_after (edit ∷ edits) d e k = kept_after edits (edited d edit) (edited e edit) (kept_edited edit d e k)

-- a file that is replaced
pub replaced_after : (name : List ℕ) (content : Option (List ℕ)) (d i : Image) → Replaced name content d i → After (File name content ∷ []) d i
replaced_after name content d i r = record {
  words = r.words;
  others = λ q plain. ⊎_elim
      (λ same. ap (get i.files) same ∙ r.here ∙ sym (subst (λ (n : List ℕ). get (with_content d.files name content) n ≡ content) (sym same) (get_content d.files name content)))
      (λ apart. r.others q plain apart ∙ sym (get_others d.files name content q apart))
      (which q name);
}

-- a temporary file that is removed doesn't count
pub temporary_after : (name : List ℕ) (content : Option (List ℕ)) → IsTemporary name → (d i : Image) → Replaced name content d i → Kept d i
temporary_after name content is d i r = record {
  words = r.words;
  others = λ q plain. r.others q plain (λ same. plain (subst IsTemporary (sym same) is));
}

pub after-append : (xs ys : List Edit) (i : Image) → after (xs ++ ys) i ≡ after ys (after xs i)
after-append [] ys i = refl
after-append (x ∷ xs) ys i = after-append xs ys (edited i x)

pub after_then : (xs ys : List Edit) (d e i : Image) → After xs d e → After ys e i → After (xs ++ ys) d i
after_then xs ys d e i f g = subst (λ (m : Image). Kept m i) (sym (after-append xs ys d)) (kept_then (after ys (after xs d)) (after ys e) i (kept_after ys (after xs d) e f) g)

take_front : (xs ys : List Edit) (n : ℕ) → n ≤ length xs → take n (xs ++ ys) ≡ take n xs
take_front xs ys zero le = refl
take_front [] ys (suc n) le = absurd (omega arith)
take_front (x ∷ xs) ys (suc n) le = ap (λ (l : List Edit). x ∷ l) (take_front xs ys n (omega arith))

take_past : (xs ys : List Edit) (n : ℕ) → take (length xs + n) (xs ++ ys) ≡ xs ++ take n ys
take_past [] ys n = let e : length {A = Edit} [] + n ≡ n = omega arith in ap (λ (k : ℕ). take k ys) e
take_past (x ∷ xs) ys n =
    let e : length (x ∷ xs) + n ≡ suc (length xs + n) = omega arith in
    ap (λ (k : ℕ). take k (x ∷ (xs ++ ys))) e ∙ ap (λ (l : List Edit). x ∷ l) (take_past xs ys n)

-- more edits are due
pub some_more : (xs ys : List Edit) (d i : Image) → AfterSome xs d i → AfterSome (xs ++ ys) d i
some_more xs ys d i s = record {
  count = s.count;
  within = omega (arith, s.within, length-append xs ys);
  are = subst (λ (l : List Edit). After l d i) (sym (take_front xs ys s.count s.within)) s.are;
}

-- all of the first are done, and some of the rest
pub some_then : (xs ys : List Edit) (d e i : Image) → After xs d e → AfterSome ys e i → AfterSome (xs ++ ys) d i
some_then xs ys d e i f s = record {
  count = length xs + s.count;
  within = omega (arith, s.within, length-append xs ys);
  are = subst (λ (l : List Edit). After l d i) (sym (take_past xs ys s.count)) (after_then xs (take s.count ys) d e i f s.are);
}

-- at every moment of changes that were Ok, and of more changes
pub edits_then : (a b c : Disk) (xs ys : List Edit) (ok done : Type 0) → Edits a b xs ok → ok → Edits b c ys done → Edits a c (xs ++ ys) done
edits_then a b c xs ys ok done f k g = record {
  any_moment = leaves_on a b c (AfterSome xs) (After xs) (AfterSome ys) (AfterSome (xs ++ ys)) (some_more xs ys) (some_then xs ys) f.any_moment (f.durable k) g.any_moment;
  durable = λ o. follows_then (After xs) (After ys) (After (xs ++ ys)) a.may_leave b.may_leave c.may_leave (after_then xs ys) (f.durable k) (g.durable o);
  done = λ o. goes_then a b c (After xs) (After ys) (After (xs ++ ys)) (after_then xs ys) (f.done k) (g.done o);
}

-- and where the last of them failed
pub edits_failed : (a b : Disk) (xs ys : List Edit) (ok err : Type 0) → (err → ⊥) → Edits a b xs ok → Edits a b (xs ++ ys) err
edits_failed a b xs ys ok err none f = record {
  any_moment = leaves_weaker a b (AfterSome xs) (AfterSome (xs ++ ys)) (some_more xs ys) f.any_moment;
  durable = λ o. absurd (none o);
  done = λ o. absurd (none o);
}

was_there : (R : Image → Image → Type 0) (x : Option Image) (y : Image) → Becomes x (Some y) R → (m : Image) × (x ≡ Some m) × R m y
was_there R None y h = absurd h
was_there R (Some m) y h = (m, refl, h)

kept_turned : (d e i : Image) → Kept d e → Kept d i → Kept e i
kept_turned d e i f g = record { words = g.words ∙ sym f.words; others = λ q plain. g.others q plain ∙ sym (f.others q plain) }

agrees_goes : (edits : List Edit) (a b : Disk) → Goes a b (After edits) → Agrees a → Agrees b
agrees_goes edits a b g agrees now i is left =
    let from = was_there (After edits) a.now now (subst (λ o. Becomes a.now o (After edits)) is g.now) in
    let image = g.synced i left in
    let same = agrees from.0 image.0 from.1 image.1 in
    kept_turned (after edits from.0) now i from.2 (kept_then (after edits from.0) (after edits image.0) i (kept_after edits from.0 image.0 same) image.2)

some_of : (name : List ℕ) (content : Option (List ℕ)) (d i : Image) → KeptOr (Replaced name content) d i → AfterSome (File name content ∷ []) d i
some_of name content d i (inl k) = record { count = 0; within = omega arith; are = k }
some_of name content d i (inr r) = record { count = 1; within = omega arith; are = replaced_after name content d i r }

on_ok : {T E : Type 0} (r : Result T E) {P : Type 0} → OnOk r P → IsOk r → P
on_ok (Ok x) p o = p
on_ok (Err e) p o = absurd (true≢false (sym o))

module _ {T E : Type 0} (name : List ℕ) (content : Option (List ℕ)) (a b : Disk) (r : Result T E)
    (any_moment : Leaves a b (KeptOr (Replaced name content))) (durable : OnOk r (Follows (Replaced name content) a.may_leave b.may_leave))
    (done : OnOk r (Goes a b (Replaced name content))) (or_not : Goes a b Kept ⊎ Goes a b (Replaced name content)) where
  done_or_not : Goes a b Kept ⊎ Goes a b (Replaced name content) → Goes a b (After []) ⊎ Goes a b (After (File name content ∷ []))
  done_or_not (inl g) = inl g
  done_or_not (inr g) = inr (goes_weaker a b (Replaced name content) (After (File name content ∷ [])) (replaced_after name content) g)

  agree : Goes a b (After []) ⊎ Goes a b (After (File name content ∷ [])) → Agrees a → Agrees b
  agree (inl g) = agrees_goes [] a b g
  agree (inr g) = agrees_goes (File name content ∷ []) a b g

  -- what a staged file does is one change
  pub staged_changes : Changes a b (File name content) (IsOk r)
  staged_changes = record {
    edits = record {
      any_moment = leaves_weaker a b (KeptOr (Replaced name content)) (AfterSome (File name content ∷ [])) (some_of name content) any_moment;
      durable = λ o. follows_weaker (Replaced name content) (After (File name content ∷ [])) a.may_leave b.may_leave (replaced_after name content) (on_ok r durable o);
      done = λ o. goes_weaker a b (Replaced name content) (After (File name content ∷ [])) (replaced_after name content) (on_ok r done o);
    };
    done_or_not = done_or_not or_not;
    agrees = agree (done_or_not or_not);
  }

maybe_words : (words : List ℕ) (d i : Image) → Maybe (Stored words) d i → AfterSome (Words words ∷ []) d i
maybe_words words d i (inl e) = record { count = 0; within = omega arith; are = kept_same d i e }
maybe_words words d i (inr e) = record { count = 1; within = omega arith; are = kept_same (edited d (Words words)) i e }

stored_after : (words : List ℕ) (d i : Image) → Stored words d i → After (Words words ∷ []) d i
stored_after words d i e = kept_same (edited d (Words words)) i e

module _ {T E : Type 0} (words : List ℕ) (a b : Disk) (r : Result T E)
    (crash : Leaves a b (Maybe (Stored words))) (lasts : OnOk r (Follows (Stored words) a.may_leave b.may_leave))
    (done : OnOk r (Goes a b (Stored words))) (or_not : GoesOrNot a b (Stored words)) where
  words_or_not : GoesOrNot a b (Stored words) → Goes a b (After []) ⊎ Goes a b (After (Words words ∷ []))
  words_or_not (inl g) = inl (goes_weaker a b Same (After []) kept_same g)
  words_or_not (inr g) = inr (goes_weaker a b (Stored words) (After (Words words ∷ [])) (stored_after words) g)

  words_agree : Goes a b (After []) ⊎ Goes a b (After (Words words ∷ [])) → Agrees a → Agrees b
  words_agree (inl g) = agrees_goes [] a b g
  words_agree (inr g) = agrees_goes (Words words ∷ []) a b g

  -- what a store of the chip's words does is one change
  pub words_changes : Changes a b (Words words) (IsOk r)
  words_changes = record {
    edits = record {
      any_moment = leaves_weaker a b (Maybe (Stored words)) (AfterSome (Words words ∷ [])) (maybe_words words) crash;
      durable = λ o. follows_weaker (Stored words) (After (Words words ∷ [])) a.may_leave b.may_leave (stored_after words) (on_ok r lasts o);
      done = λ o. goes_weaker a b (Stored words) (After (Words words ∷ [])) (stored_after words) (on_ok r done o);
    };
    done_or_not = words_or_not or_not;
    agrees = words_agree (words_or_not or_not);
  }

-- after a sync of the directory
pub settled_by : {T E : Type 0} (r : Result T E) (a b : Disk) → b.now ≡ a.now → OnOk r ((i : Image) → b.may_leave i → a.once_synced i) → IsOk r → Agrees a → IsSettled b
settled_by r a b same stands o agrees now i is left = agrees now i (sym same ∙ is) (on_ok r stands o i left)

-- the same change, told Ok in another way
pub changes_as : (a b : Disk) (edit : Edit) (ok other : Type 0) → (other → ok) → Changes a b edit ok → Changes a b edit other
changes_as a b edit ok other to h = record {
  edits = record { any_moment = h.edits.any_moment; durable = λ o. h.edits.durable (to o); done = λ o. h.edits.done (to o) };
  done_or_not = h.done_or_not;
  agrees = h.agrees;
}
