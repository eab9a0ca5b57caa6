-- The names of vault files among those that are listed.
use Rattle.std.proofs.Common.{◌≡◌, ◌≢◌, ℕ, ◌+◌, ◌<◌, ◌≤◌, List, [], ◌∷◌, ◌++◌, length, take, drop, get_or, codes, refl, sym, ap, subst, ◌∙◌, inl, inr, ⊎_elim, ◌⊎◌, length-append, append_assoc, arith}
use Rattle.std.proofs.lemmas.List.{drop_at, take_more}
use Rattle.std.proofs.lemmas.List.Elements.{Contains-append_left, Contains-append_right, Contains-append_cases}
use Rattle.std.specs.Prelude.{Contains, IsSome, IsTrue}
use Rattle.std.specs.Ordering.{nat_cmp}
use Rattle.std.specs.Cmp.Lexicographic.{slice_cmp}
use Rattle.std.specs.FinMap.{get, insert, empty, get-empty}
use Rattle.stored_home.specs.Loaded.{Filed}
use Rattle.stored_home.specs.declared.stored.Kept.{Kept}
use Rattle.stored_home.proofs.MapLemmas.{put_at, put_other, same_or_apart, some_not_None}
use Rattle.stored_home.proofs.NameLemmas.{file_tells_name}
use Rattle.home_recovery.specs.Parts.{AreFiles}
use Rattle.hex.specs.Hex.{encode_lower}
use Rattle.share_api.specs.Contents.{Bytes}
use Rattle.record_names.specs.Names.{is_account_name, AreParts, File, file_name, file_end}

-- what follows the account in a vault file's name
pub digits_behind : (account file : Bytes) (start : ℕ) → length account + 6 ≡ start
    → (drop start (file_name account file) ≡ encode_lower file) × (start ≤ length (file_name account file))
unfolding file_end
digits_behind account file start e =
    let whole : file_name account file ≡ (account ++ codes ".file.") ++ encode_lower file = sym (append_assoc account (codes ".file.") (encode_lower file)) in
    let size : length (account ++ codes ".file.") ≡ start = omega (arith, e, length-append account (codes ".file.")) in
    let long = length-append (account ++ codes ".file.") (encode_lower file) in
    let lengths = ap length whole in (
      ap (drop start) whole ∙ drop_at (account ++ codes ".file.") (encode_lower file) start size,
      omega (arith, size, long, lengths),
    )

pub none_in : {X : Type 0} (q : X) → Contains [] q → ⊥
none_in q h = absurd (omega (arith, h.1))

-- the elements so far, or one more
pub in_or_last : {X : Type 0} (xs : List X) (item q : X) → Contains (xs ++ item ∷ []) q → Contains xs q ⊎ (item ≡ q)
in_or_last xs item q h = ⊎_elim inl (λ last. inr (one last.0 last.1 last.2)) (Contains-append_cases xs (item ∷ []) q h)
  where
    one : (k : ℕ) → k < 1 → get_or (item ∷ []) k q ≡ q → item ≡ q
    one k lt e = let z : k ≡ 0 = omega arith in subst (λ (n : ℕ). get_or (item ∷ []) n q ≡ q) z e

pub last_in : {X : Type 0} (xs : List X) (item : X) → Contains (xs ++ item ∷ []) item
last_in xs item = Contains-append_right xs (item ∷ []) item (0, omega arith, refl)

-- the elements so far and the next
pub split_take : (xs : List Bytes) (k : ℕ) (item : Bytes) → k < length xs → item ≡ get_or xs k item → take (k + 1) xs ≡ take k xs ++ item ∷ []
split_take xs k item within is = take_more xs k item within ∙ ap (λ (x : Bytes). take k xs ++ x ∷ []) (sym is)

module _ (account : Bytes) (plain : IsTrue (is_account_name account)) where
  -- no name gives no file
  pub files_none : AreFiles account [] empty
  files_none = record {
    named = λ name there. absurd (some_not_None (get empty name) there (get-empty (slice_cmp nat_cmp) name));
    found = λ name are. (
      λ there. absurd (some_not_None (get empty name) there (get-empty (slice_cmp nat_cmp) name)),
      λ h. absurd (none_in (file_name account name) h),
    );
  }

  -- a name that is no vault file's
  pub files_kept : (xs : List Bytes) (files : Filed) (name : Bytes) → AreFiles account xs files
      → ((file : Bytes) → AreParts (File account file) → name ≡ file_name account file → ⊥)
      → AreFiles account (xs ++ name ∷ []) files
  files_kept xs files name h none = record {
    named = h.named;
    found = λ file are. (
      λ there. Contains-append_left xs (name ∷ []) (file_name account file) ((h.found file are).0 there),
      λ listed. ⊎_elim (λ before. (h.found file are).1 before) (λ last. absurd (none file are last))
          (in_or_last xs name (file_name account file) listed),
    );
  }

  -- the name of a vault file
  pub files_added : (xs : List Bytes) (files : Filed) (name file : Bytes) (kept : Kept) → AreFiles account xs files
      → AreParts (File account file) → name ≡ file_name account file
      → AreFiles account (xs ++ name ∷ []) (insert files file kept)
  files_added xs files name file kept h are is = record {
    named = λ q there. ⊎_elim
        (λ e. subst (λ (f : Bytes). AreParts (File account f)) (sym e) are)
        (λ away. h.named q (subst IsSome (put_other files file kept q away) there))
        (same_or_apart q file);
    found = λ q parts. (
      λ there. ⊎_elim
          (λ e. subst (λ (n : Bytes). Contains (xs ++ name ∷ []) n) (is ∙ ap (file_name account) (sym e)) (last_in xs name))
          (λ away. Contains-append_left xs (name ∷ []) (file_name account q) ((h.found q parts).0 (subst IsSome (put_other files file kept q away) there)))
          (same_or_apart q file),
      λ listed. ⊎_elim
          (λ e. subst (λ (f : Bytes). IsSome (get (insert files file kept) f)) (sym e) (subst IsSome (sym (put_at files file kept)) refl))
          (λ away. subst IsSome (sym (put_other files file kept q away))
          ((h.found q parts).1 (before q parts away (in_or_last xs name (file_name account q) listed))))
          (same_or_apart q file),
    );
  }
    where
      before : (q : Bytes) → AreParts (File account q) → q ≢ file → Contains xs (file_name account q) ⊎ (name ≡ file_name account q) → Contains xs (file_name account q)
      before q parts away (inl h) = h
      before q parts away (inr last) = absurd (away (file_tells_name account plain q file parts are (sym last ∙ is)))
