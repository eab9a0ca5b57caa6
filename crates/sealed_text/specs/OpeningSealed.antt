-- Opening a sealed text.
use Rattle.std.specs.Prelude.{◌≡◌, ℕ, List, Option}
use Rattle.gcm_seal.specs.Gcm.{decrypted, tag_of}
use Rattle.sealed_text.specs.declared.sealed.Sealed.{Sealed}
use Rattle.sealed_text.specs.Opening.{opened_parts}

-- what opening under a key with associated data gives
abbrev pub opened : List ℕ → List ℕ → Sealed → Option (List ℕ)
opened key extra sealed = opened_parts key sealed.iv extra sealed.text sealed.tag

-- under the key, with the associated data, it opens to this text
pub record Opens (key extra : List ℕ) (sealed : Sealed) (plain : List ℕ) : Type 0 where
  pub tag : tag_of 8 14 key sealed.iv extra sealed.text ≡ sealed.tag
  pub text : decrypted 8 14 key sealed.iv sealed.text ≡ plain
