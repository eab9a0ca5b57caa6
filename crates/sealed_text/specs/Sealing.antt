-- A text sealed under a key (SP 800-38D, 7.1, with AES-256).
use Rattle.std.specs.Prelude.{ℕ, List}
use Rattle.gcm_seal.specs.Gcm.{encrypted, tag_of}
use Rattle.sealed_text.specs.declared.sealed.Sealed.{Sealed}

-- the text under a key and an IV, with associated data
abbrev pub sealed_under : List ℕ → List ℕ → List ℕ → List ℕ → Sealed
sealed_under key iv extra plain =
    record {
      iv = iv;
      text = encrypted 8 14 key iv plain;
      tag = tag_of 8 14 key iv extra (encrypted 8 14 key iv plain);
    }
