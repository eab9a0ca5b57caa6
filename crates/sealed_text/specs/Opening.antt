-- What opening a ciphertext gives (SP 800-38D, 7.2, with AES-256).
use Rattle.std.specs.Prelude.{◌≡◌, ℕ, List, Option, Some, None, Result, Ok, Err, bytes_eq, if◌then◌else◌}
use Rattle.gcm_seal.specs.Gcm.{decrypted, tag_of}
use Rattle.sealed_text.specs.declared.fault.OpenFault.{OpenFault}
use Rattle.sealed_text.specs.declared.fault.OpenFault.TheVariants.{BadTag, NoMemory}

-- the text, where all 16 bytes of the tag are those of the computed one
abbrev pub opened_parts : List ℕ → List ℕ → List ℕ → List ℕ → List ℕ → Option (List ℕ)
opened_parts key iv extra text tag =
    if bytes_eq tag (tag_of 8 14 key iv extra text) then Some (decrypted 8 14 key iv text) else None

-- the result is what opening gives, unless there was no memory
abbrev pub Gives : Result (List ℕ) OpenFault → Option (List ℕ) → Type 0
Gives (Ok plain) given = given ≡ Some plain
Gives (Err BadTag) given = given ≡ None
Gives (Err NoMemory) given = Unit {0}
