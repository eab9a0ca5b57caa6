-- The reset secrets that blocks name, and what a payload of them opens to.
use Rattle.std.proofs.Common.{◌≡◌, ℕ, suc, ◌+◌, ◌<◌, ◌≤◌, Bool, true, false, cond, List, [], ◌∷◌, ◌++◌, length, get_or, take, Some, None, Ok, refl, sym, ap, ◌∙◌, arith}
use Rattle.std.specs.Prelude.{IsTrue, IfSome, filter}
use Rattle.std.specs.FinMap.{FinMap, empty, entries, insert, get, len, len-empty, len-entries}
use Rattle.std.proofs.lemmas.List.{take_more}
use Rattle.gcm_seal.proofs.GcmLemmas.{decrypted-encrypted}
use Rattle.ct_bytes.specs.Reading.{or_fault}
use Rattle.home_names.specs.Names.{is_factor_label}
use Rattle.sealed_text.specs.Sealing.{sealed_under}
use Rattle.sealed_text.proofs.OpeningLemmas.{opened_by_tag}
use Rattle.sealed_text.proofs.SizeLemmas.{length-encrypted}
use Rattle.stash_format.specs.declared.reset.Reset.{Reset}
use Rattle.stash_format.specs.declared.payload.Payload.{Payload}
use Rattle.stash_format.specs.Blocks.{Blocks}
use Rattle.stash_format.specs.Resets.{Resets}
use Rattle.stash_format.specs.Payloads.{payload_read}
use Rattle.stash_format.specs.Live.{inserted_all}
use Rattle.stash_format.specs.Sizes.{most_payload}
use Rattle.stash_format.specs.Kept.{HasRows}
use Rattle.stash_format.specs.Spelled.{HasResetSpelling}
use Rattle.stash_format.proofs.Rising.{order}
use Rattle.stash_format.proofs.Rows.{Everywhere, Everywhere-empty, Everywhere-insert, Everywhere-entries, len-insert-le}
use Rattle.secret_stash.specs.Faults.{told_record}
use Rattle.secret_stash.specs.Keys.{payload_extra, payload_or_fault, opened_sealed}
use Rattle.secret_stash.specs.Edits.{is_live, has_edition, live_resets}

module _ {X : Type 0} where
  inserted_all-push : (m : FinMap order X) (es : List (List ℕ × X)) (e : List ℕ × X) → inserted_all m (es ++ e ∷ []) ≡ insert (inserted_all m es) e.0 e.1
  inserted_all-push m [] e = refl
  inserted_all-push m (f ∷ es) e = inserted_all-push (insert m f.0 f.1) es e

  filter-push : (p : List ℕ × X → Bool) (es : List (List ℕ × X)) (e : List ℕ × X) → filter p (es ++ e ∷ []) ≡ cond (p e) (filter p es ++ e ∷ []) (filter p es)
  filter-push p [] e = refl
  filter-push p (f ∷ es) e =
      elim (p f) as (λ b. cond b (f ∷ filter p (es ++ e ∷ [])) (filter p (es ++ e ∷ [])) ≡ cond (p e) (cond b (f ∷ filter p es) (filter p es) ++ e ∷ []) (cond b (f ∷ filter p es) (filter p es))) [
        | true ↦ ap (λ (xs : List (List ℕ × X)). f ∷ xs) (filter-push p es e) ∙ elim (p e) as (λ b. f ∷ cond b (filter p es ++ e ∷ []) (filter p es) ≡ cond b (f ∷ (filter p es ++ e ∷ [])) (f ∷ filter p es)) [ true ↦ refl | false ↦ refl ]
        | false ↦ filter-push p es e
      ]

  taken : (p : List ℕ × X → Bool) (rows : List (List ℕ × X)) (i : ℕ) (row : List ℕ × X) → i < length rows → row ≡ get_or rows i row
      → filter p (take (i + 1) rows) ≡ cond (p row) (filter p (take i rows) ++ row ∷ []) (filter p (take i rows))
  taken p rows i row lt is =
      ap (filter p) (take_more rows i row lt ∙ ap (λ (r : List ℕ × X). take i rows ++ r ∷ []) (sym is)) ∙ filter-push p (take i rows) row

  -- a row that passes is put in
  pub kept_row : (p : List ℕ × X → Bool) (m : FinMap order X) (rows : List (List ℕ × X)) (i : ℕ) (row : List ℕ × X) → i < length rows → row ≡ get_or rows i row → p row ≡ true
      → inserted_all m (filter p (take (i + 1) rows)) ≡ insert (inserted_all m (filter p (take i rows))) row.0 row.1
  kept_row p m rows i row lt is passes =
      ap (inserted_all m) (taken p rows i row lt is ∙ ap (λ b. cond b (filter p (take i rows) ++ row ∷ []) (filter p (take i rows))) passes)
      ∙ inserted_all-push m (filter p (take i rows)) row

  -- a row that doesn't is left out
  pub left_row : (p : List ℕ × X → Bool) (m : FinMap order X) (rows : List (List ℕ × X)) (i : ℕ) (row : List ℕ × X) → i < length rows → row ≡ get_or rows i row → p row ≡ false
      → inserted_all m (filter p (take (i + 1) rows)) ≡ inserted_all m (filter p (take i rows))
  left_row p m rows i row lt is fails =
      ap (inserted_all m) (taken p rows i row lt is ∙ ap (λ b. cond b (filter p (take i rows) ++ row ∷ []) (filter p (take i rows))) fails)

  len-inserted_all : (m : FinMap order X) (es : List (List ℕ × X)) → len (inserted_all m es) ≤ len m + length es
  len-inserted_all m [] = omega arith
  len-inserted_all m (e ∷ es) =
      let rest = len-inserted_all (insert m e.0 e.1) es in
      let one = len-insert-le m e.0 e.1 in
      omega (arith, rest, one)

  length-filter-le : (p : List ℕ × X → Bool) (es : List (List ℕ × X)) → length (filter p es) ≤ length es
  length-filter-le p [] = omega arith
  length-filter-le p (e ∷ es) =
      let rest = length-filter-le p es in
      elim (p e) as (λ b. length (cond b (e ∷ filter p es) (filter p es)) ≤ suc (length es)) [ true ↦ omega arith | false ↦ omega arith ]

-- a live reset secret has a factor's label
plain_if_live : (next : ℕ) (blocks : Blocks) (row : List ℕ × Reset) → HasRows next blocks → is_live blocks row ≡ true → IsTrue (is_factor_label row.0)
plain_if_live next blocks row rows live =
    elim (get blocks row.0) as (λ o. IfSome o (λ block. IsTrue (is_factor_label row.0) × (block.edition < next)) → has_edition o row.1.edition ≡ true → IsTrue (is_factor_label row.0)) [
      | None ↦ λ _ live. absurd cc
      | Some block ↦ λ fine _. fine.0
    ] (rows row.0) live

abbrev IsPlain : List ℕ → Reset → Type 0
IsPlain label reset = IsTrue (is_factor_label label)

live_plain : (next : ℕ) (blocks : Blocks) (m : Resets) (rows : List (List ℕ × Reset)) → HasRows next blocks → Everywhere IsPlain m
    → Everywhere IsPlain (inserted_all m (filter (is_live blocks) rows))
live_plain next blocks m [] fine all = all
live_plain next blocks m (row ∷ rows) fine all =
    elim (is_live blocks row) as (λ b. is_live blocks row ≡ b → Everywhere IsPlain (inserted_all m (cond b (row ∷ filter (is_live blocks) rows) (filter (is_live blocks) rows)))) [
      | true ↦ λ live. live_plain next blocks (insert m row.0 row.1) rows fine (Everywhere-insert IsPlain m row.0 row.1 all (plain_if_live next blocks row fine live))
      | false ↦ λ _. live_plain next blocks m rows fine all
    ] refl

-- live reset secrets have a spelling
pub live_spelling : (next : ℕ) (blocks : Blocks) (resets : Resets) → HasRows next blocks → len resets ≤ 16 → HasResetSpelling (live_resets blocks resets)
live_spelling next blocks resets fine few =
    let kept : List (List ℕ × Reset) = filter (is_live blocks) (entries resets) in
    let counted = len-inserted_all (empty {K = List ℕ} {X = Reset} {R = order}) kept in
    let fewer = length-filter-le (is_live blocks) (entries resets) in
    let none = len-empty order Reset in
    let all = len-entries resets in
    let live = len-entries (live_resets blocks resets) in
    record {
      labels = Everywhere-entries IsPlain (live_resets blocks resets) (live_plain next blocks empty (entries resets) fine (Everywhere-empty IsPlain));
      few = omega (arith, counted, fewer, none, all, live, few);
    }

-- a payload that was sealed opens
pub opens_again : (main account iv plain : List ℕ) (payload : Payload) → payload_read plain ≡ Ok payload
    → opened_sealed main account (sealed_under main iv (payload_extra account) plain) ≡ Ok payload
opens_again main account iv plain payload read =
    let sealed = sealed_under main iv (payload_extra account) plain in
    ap payload_or_fault (opened_by_tag main iv (payload_extra account) sealed.text sealed.tag plain refl (sym (decrypted-encrypted 8 14 main iv plain)))
    ∙ ap (or_fault told_record) read

-- and has at most 945 bytes
pub small_again : (main account iv plain : List ℕ) → length plain ≤ most_payload → length (sealed_under main iv (payload_extra account) plain).text ≤ most_payload
small_again main account iv plain few = omega (arith, few, length-encrypted 8 14 main iv plain)
