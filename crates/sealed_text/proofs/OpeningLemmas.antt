-- What opening gives where the tag is the computed one.
use Rattle.std.proofs.Common.{◌≡◌, ℕ, List, Some, refl}
use Rattle.std.proofs.lemmas.Slice.Eq.{bytes_eq-Decides}
use Rattle.gcm_seal.specs.Gcm.{decrypted, tag_of}
use Rattle.sealed_text.specs.Opening.{opened_parts}

-- a ciphertext of the computed tag opens to its text
pub opened_by_tag : (key iv extra text tag plain : List ℕ) → tag ≡ tag_of 8 14 key iv extra text
    → plain ≡ decrypted 8 14 key iv text → opened_parts key iv extra text tag ≡ Some plain
opened_by_tag key iv extra text tag plain fits is =
    let same = (bytes_eq-Decides tag (tag_of 8 14 key iv extra text)).1 fits in rw (same, is) refl
