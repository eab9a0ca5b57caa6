-- Names are ASCII, and fields that hold them are read.
use Rattle.std.proofs.Common.{◌≡◌, ℕ, ◌<◌, ◌+◌, true, false, List, [], ◌∷◌, ◌++◌, length, Ok, refl, arith, inl, inr}
use Rattle.std.specs.Prelude.{nat_le, ◌&&◌}
use Rattle.std.specs.List.{list_all}
use Rattle.std.specs.Str.{IsAscii, IsUtf8}
use Rattle.std.proofs.lemmas.Bool.{and_parts, and_right, or_cases, leb-true, false_from_ne_true}
use Rattle.std.proofs.lemmas.Str.{IsUtf8-from_ascii}
use Rattle.std.proofs.lemmas.Str.Ascii.{IsAscii-nil, IsAscii-cons}
use Rattle.home_names.specs.Names.{is_name_byte, is_account_name}
use Rattle.home_names.proofs.NameLemmas.{IsAscii-name_bytes}
use Rattle.ct_bytes.specs.Fields.{field8}
use Rattle.ct_bytes.proofs.ReadLemmas.{field8_at-front}
use Rattle.home_names.specs.Names.{is_factor_label}
use Rattle.record_fields.specs.Names.{account_at, label_at}

-- bytes that aren't text aren't a name's
pub not_text : (bytes : List ℕ) → (IsUtf8 bytes → ⊥) → list_all is_name_byte bytes ≡ false
not_text bytes none = false_from_ne_true _ (λ all. none (IsUtf8-from_ascii bytes (IsAscii-name_bytes bytes all)))

-- names have name bytes alone
pub plain_account : (bytes : List ℕ) → list_all is_name_byte bytes ≡ false → is_account_name bytes ≡ false
plain_account bytes other = and_right _ _ other

pub plain_label : (bytes : List ℕ) → list_all is_name_byte bytes ≡ false → is_factor_label bytes ≡ false
plain_label bytes other = and_right _ _ other

-- a name that stands in front is read
pub account_at-front : (place : ℕ) (account rest : List ℕ) → is_account_name account ≡ true
    → account_at (record { place = place; left = field8 account ++ rest }) ≡ Ok (account, record { place = place + 1 + length account; left = rest })
unfolding account_at
account_at-front place account rest plain = rw (field8_at-front place account rest, plain) refl

pub label_at-front : (place : ℕ) (label rest : List ℕ) → is_factor_label label ≡ true
    → label_at (record { place = place; left = field8 label ++ rest }) ≡ Ok (label, record { place = place + 1 + length label; left = rest })
unfolding label_at
label_at-front place label rest plain = rw (field8_at-front place label rest, plain) refl
