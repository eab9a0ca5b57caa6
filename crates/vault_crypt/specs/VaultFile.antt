-- The record of a vault file: version, IV, encrypted bytes, tag.
use Rattle.std.specs.Prelude.{◌≡◌, ℕ, ◌-◌, ◌≤◌, ◌==◌, nat_lt, List, [], ◌∷◌, ◌++◌, length, take, drop, slice_index, codes, Option, Some, None, Result, Ok, Err, if◌then◌else◌}
use Rattle.std.specs.Result.{result_ok}
use Rattle.sealed_text.specs.declared.sealed.Sealed.{Sealed}
use Rattle.sealed_text.specs.OpeningSealed.{opened}
use Rattle.vault_crypt.specs.declared.fault.VaultFault.{VaultFault}
use Rattle.vault_crypt.specs.declared.fault.VaultFault.TheVariants.{BadFile, BadTag, NoMemory}

-- a file name has 1 to 64 bytes
pub record IsFileName (name : List ℕ) : Type 0 where
  pub some : 1 ≤ length name
  pub few : length name ≤ 64

-- the associated data of an account's file of a name
abbrev pub file_extra : List ℕ → List ℕ → List ℕ
file_extra account name = codes "file" ++ account ++ (0 ∷ []) ++ name

-- the record of a sealed text
abbrev pub file_bytes : Sealed → List ℕ
file_bytes sealed = (1 ∷ []) ++ sealed.iv ++ sealed.text ++ sealed.tag

-- What a record holds, or how many bytes stand before the first field that is cut short or breaks a rule:
-- the version, the IV, the encrypted bytes with their tag; or before the first byte too many.
unfoldable pub file_read : List ℕ → Result Sealed ℕ
file_read bytes =
    if slice_index bytes 0 == 1 then
    (if nat_lt (length bytes) 13 then Err 1
    else if nat_lt (length bytes) 29 then Err 13
    else if nat_lt 49181 (length bytes) then Err 49181
    else Ok (record {
      iv = take 12 (drop 1 bytes);
      text = take (length bytes - 29) (drop 13 bytes);
      tag = drop (length bytes - 16) bytes;
    }))
    else Err 0

-- what a record holds, and none outside the form
abbrev pub file_at : List ℕ → Option Sealed
file_at bytes = result_ok (file_read bytes)

abbrev pub text_or_fault : Option (List ℕ) → Result (List ℕ) VaultFault
text_or_fault None = Err BadTag
text_or_fault (Some plain) = Ok plain

abbrev pub opened_read : List ℕ → List ℕ → Result Sealed ℕ → Result (List ℕ) VaultFault
opened_read key extra (Err place) = Err (BadFile place)
opened_read key extra (Ok sealed) = text_or_fault (opened key extra sealed)

-- the bytes of an account's file of a name from its record, or the first fault
abbrev pub opened_file : List ℕ → List ℕ → List ℕ → List ℕ → Result (List ℕ) VaultFault
opened_file key account name bytes = opened_read key (file_extra account name) (file_read bytes)

-- the result is this one, unless there was no memory
abbrev pub Gives : Result (List ℕ) VaultFault → Result (List ℕ) VaultFault → Type 0
Gives (Ok plain) given = given ≡ Ok plain
Gives (Err (BadFile place)) given = given ≡ Err (BadFile place)
Gives (Err BadTag) given = given ≡ Err BadTag
Gives (Err NoMemory) given = Unit {0}
