-- Names are ASCII.
use Rattle.std.proofs.Common.{◌≡◌, ℕ, ◌<◌, true, List, [], ◌∷◌, arith, inl, inr}
use Rattle.std.specs.Prelude.{nat_le, ◌&&◌}
use Rattle.std.specs.List.{list_all}
use Rattle.std.specs.Str.{IsAscii}
use Rattle.std.proofs.lemmas.Bool.{and_parts, or_cases, leb-true}
use Rattle.std.proofs.lemmas.Str.Ascii.{IsAscii-nil, IsAscii-cons}
use Rattle.home_names.specs.Names.{is_name_byte}

pub name_byte_is_ascii : (byte : ℕ) → is_name_byte byte ≡ true → byte < 128
name_byte_is_ascii byte is =
    elim (or_cases (nat_le 97 byte && nat_le byte 122) (nat_le 48 byte && nat_le byte 57) is) [
      | inl letter ↦ omega (arith, leb-true byte 122 (and_parts (nat_le 97 byte) (nat_le byte 122) letter).1)
      | inr digit ↦ omega (arith, leb-true byte 57 (and_parts (nat_le 48 byte) (nat_le byte 57) digit).1)
    ]

pub IsAscii-name_bytes : (bytes : List ℕ) → list_all is_name_byte bytes ≡ true → IsAscii bytes
IsAscii-name_bytes [] all = IsAscii-nil
IsAscii-name_bytes (byte ∷ bytes) all =
    let parts = and_parts _ _ all in IsAscii-cons byte bytes (name_byte_is_ascii byte parts.0) (IsAscii-name_bytes bytes parts.1)
