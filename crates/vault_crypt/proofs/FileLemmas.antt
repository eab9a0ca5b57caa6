-- What a record of a vault file was written with is read from it, and a record that is read is spelled so.
use Rattle.std.proofs.Common.{◌≡◌, ℕ, suc, ◌+◌, ◌-◌, ◌≤◌, Bool, true, false, cond, eqb, ltb, List, [], ◌∷◌, ◌++◌, length, get_or, take, drop, Result, Ok, Err, refl, sym, ap, ◌∙◌, append_assoc, arith}
use Rattle.std.proofs.lemmas.Bool.{le-ltb, ltb-false, eqb-true}
use Rattle.std.proofs.lemmas.List.{take_at, drop_at, take-append-drop, length-append, drop-drop}
use Rattle.gcm_seal.proofs.GcmLemmas.{decrypted-encrypted}
use Rattle.sealed_text.specs.declared.sealed.Sealed.{Sealed}
use Rattle.sealed_text.specs.Sealing.{sealed_under}
use Rattle.sealed_text.proofs.OpeningLemmas.{opened_by_tag}
use Rattle.sealed_text.proofs.SizeLemmas.{length-encrypted, length-tag_of}
use Rattle.vault_crypt.specs.VaultFile.{file_bytes, file_extra, file_read, opened_file, opened_read, text_or_fault}

-- the fields of bytes that have the form
abbrev pub fields_of : List ℕ → Sealed
fields_of bytes =
    record {
      iv = take 12 (drop 1 bytes);
      text = take (length bytes - 29) (drop 13 bytes);
      tag = drop (length bytes - 16) bytes;
    }

-- bytes of version 1 and a right size are read
formed : (bytes : List ℕ) → get_or bytes 0 0 ≡ 1 → 29 ≤ length bytes → length bytes ≤ 49181
    → file_read bytes ≡ Ok (fields_of bytes)
unfolding file_read
formed bytes version most least =
    let iv : ltb (length bytes) 13 ≡ false = le-ltb _ _ (omega arith) in
    let tag : ltb (length bytes) 29 ≡ false = le-ltb _ _ (omega arith) in
    let end : ltb 49181 (length bytes) ≡ false = le-ltb _ _ (omega arith) in
    rw (version, iv, tag, end) refl

-- the fields of a spelled record are those that it was spelled of
fields_of-spelled : (iv text tag : List ℕ) → length iv ≡ 12 → length tag ≡ 16
    → fields_of (1 ∷ ((iv ++ text) ++ tag)) ≡ record { iv = iv; text = text; tag = tag }
fields_of-spelled iv text tag iv_size tag_size =
    let all : length ((iv ++ text) ++ tag) ≡ 12 + length text + 16 =
    omega (arith, length-append (iv ++ text) tag, length-append iv text) in
    let regrouped : (iv ++ text) ++ tag ≡ iv ++ (text ++ tag) = append_assoc iv text tag in
    let first : take 12 ((iv ++ text) ++ tag) ≡ iv = ap (take 12) regrouped ∙ take_at iv (text ++ tag) 12 iv_size in
    let size : suc (length ((iv ++ text) ++ tag)) - 29 ≡ length text = omega arith in
    let behind : drop 12 ((iv ++ text) ++ tag) ≡ text ++ tag = ap (drop 12) regrouped ∙ drop_at iv (text ++ tag) 12 iv_size in
    let second : take (suc (length ((iv ++ text) ++ tag)) - 29) (drop 12 ((iv ++ text) ++ tag)) ≡ text =
    rw (size, behind) (take_at text tag (length text) refl) in
    let start : suc (length ((iv ++ text) ++ tag)) - 16 ≡ suc (length (iv ++ text)) =
    omega (arith, length-append iv text) in
    let last : drop (suc (length ((iv ++ text) ++ tag)) - 16) (1 ∷ ((iv ++ text) ++ tag)) ≡ tag =
    rw start (drop_at (iv ++ text) tag (length (iv ++ text)) refl) in
    λ i. record { iv = first i; text = second i; tag = last i }

pub read-spelled : (sealed : Sealed) → length sealed.iv ≡ 12 → length sealed.text ≤ 49152 → length sealed.tag ≡ 16
    → file_read (file_bytes sealed) ≡ Ok sealed
read-spelled sealed iv text tag =
    let all : length ((sealed.iv ++ sealed.text) ++ sealed.tag) ≡ 12 + length sealed.text + 16 =
    omega (arith, length-append (sealed.iv ++ sealed.text) sealed.tag, length-append sealed.iv sealed.text) in
    formed (file_bytes sealed) refl (omega arith) (omega arith) ∙ ap Ok (fields_of-spelled sealed.iv sealed.text sealed.tag iv tag)

kept : {A : Type 0} (b : Bool) (x : Result A ℕ) (place : ℕ) (y : A) → cond b x (Err place) ≡ Ok y → (b ≡ true) × (x ≡ Ok y)
kept true x place y e = (refl, e)
kept false x place y e = absurd cc

passed : {A : Type 0} (b : Bool) (x : Result A ℕ) (place : ℕ) (y : A) → cond b (Err place) x ≡ Ok y → (b ≡ false) × (x ≡ Ok y)
passed true x place y e = absurd cc
passed false x place y e = (refl, e)

-- bytes with a first one of 1 are spelled of their fields
spelled_of-fields : (bytes : List ℕ) → get_or bytes 0 0 ≡ 1 → 29 ≤ length bytes → bytes ≡ file_bytes (fields_of bytes)
spelled_of-fields [] version size = absurd (omega arith)
spelled_of-fields (b ∷ rest) version size =
    let n : ℕ = suc (length rest) - 29 in
    let place : 12 + n ≡ length rest - 16 = omega arith in
    let start : suc (length rest) - 16 ≡ suc (length rest - 16) = omega arith in
    let last : drop (suc (length rest) - 16) (b ∷ rest) ≡ drop (length rest - 16) rest = rw start refl in
    let behind : drop n (drop 12 rest) ≡ drop (length rest - 16) rest =
    drop-drop n 12 rest ∙ ap (λ k. drop k rest) place in
    let whole : (take 12 rest ++ take n (drop 12 rest)) ++ drop (suc (length rest) - 16) (b ∷ rest) ≡ rest =
    ap (λ t. (take 12 rest ++ take n (drop 12 rest)) ++ t) (last ∙ sym behind)
    ∙ append_assoc (take 12 rest) (take n (drop 12 rest)) (drop n (drop 12 rest))
    ∙ ap (λ t. take 12 rest ++ t) (take-append-drop n (drop 12 rest))
    ∙ take-append-drop 12 rest in
    λ i. version i ∷ sym whole i

pub spelled-read : (bytes : List ℕ) (sealed : Sealed) → file_read bytes ≡ Ok sealed → bytes ≡ file_bytes sealed
unfolding file_read
spelled-read bytes sealed e =
    let version = kept (eqb (get_or bytes 0 0) 1) _ 0 sealed e in
    let iv = passed (ltb (length bytes) 13) _ 1 sealed version.1 in
    let tag = passed (ltb (length bytes) 29) _ 13 sealed iv.1 in
    let end = passed (ltb 49181 (length bytes)) _ 49181 sealed tag.1 in
    let is : fields_of bytes ≡ sealed = cc in
    spelled_of-fields bytes (eqb-true _ _ version.0) (ltb-false _ _ tag.0) ∙ ap file_bytes is

-- the record of a file opens to its bytes
pub opened-sealed : (key iv account name bytes : List ℕ) → length iv ≡ 12 → length bytes ≤ 49152
    → opened_file key account name (file_bytes (sealed_under key iv (file_extra account name) bytes)) ≡ Ok bytes
opened-sealed key iv account name bytes iv_size size =
    let extra = file_extra account name in
    let sealed = sealed_under key iv extra bytes in
    let text_size : length sealed.text ≤ 49152 = omega (arith, length-encrypted 8 14 key iv bytes) in
    ap (opened_read key extra) (read-spelled sealed iv_size text_size (length-tag_of 8 14 key iv extra sealed.text))
    ∙ ap text_or_fault (opened_by_tag key iv extra sealed.text sealed.tag bytes refl (sym (decrypted-encrypted 8 14 key iv bytes)))
