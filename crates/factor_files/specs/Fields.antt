-- The fields of a factor record, each read behind the one before, with the first place that breaks a rule.
use Rattle.std.specs.Prelude.{ℕ, Bool, ◌==◌, ◌&&◌, ◌||◌, nat_le, nat_lt, Option, Some, None, Result, Ok, if◌then◌else◌}
use Rattle.ct_bytes.specs.Fault.{place_of}
use Rattle.ct_bytes.specs.declared.fault.ByteFault.{ByteFault}
use Rattle.ct_bytes.specs.Reading.{Unread, u8_at, u16_at, u64_at, rule, or_fault, ◌>>=◌, ◌>>◌}
use Rattle.record_fields.specs.declared.fault.BadField.{BadField}
use Rattle.account_machine.specs.declared.factor.Kind.{Kind}
use Rattle.account_machine.specs.declared.factor.Kind.TheVariants.{Password, Pin}
use Rattle.factor_files.specs.declared.fault.FactorFault.{FactorFault}
use Rattle.factor_files.specs.declared.fault.FactorFault.TheVariants.{BadRecord}

abbrev pub bad_at : ByteFault → FactorFault
bad_at fault = BadRecord (place_of fault)

abbrev pub bad_field : BadField → FactorFault
bad_field field = BadRecord field.0

-- a number that passes the test, named by where it begins
abbrev pub such : (Unread → Result (ℕ × Unread) ByteFault) → (ℕ → Bool) → Unread → Result (ℕ × Unread) FactorFault
such take test at = do
  number ← or_fault bad_at (take at)
  rule (test number.0) (BadRecord at.place)
  Ok number

-- the version: 1
unfoldable pub version_at : Unread → Result (ℕ × Unread) FactorFault
version_at at = such u8_at (λ version. version == 1) at

-- the number of a kind, and the kind of a number
abbrev pub number_of : Kind → ℕ
number_of Password = 1
number_of Pin = 2

abbrev pub kind_of : ℕ → Kind
kind_of number = if number == 1 then Password else Pin

-- the kind: 1 a password, 2 a PIN
unfoldable pub kind_at : Unread → Result (Kind × Unread) FactorFault
kind_at at = do
  number ← such u8_at (λ kind. (kind == 1) || (kind == 2)) at
  Ok (kind_of number.0, number.1)

-- the edition, from 1
unfoldable pub edition_at : Unread → Result (ℕ × Unread) FactorFault
edition_at at = such u64_at (λ edition. nat_le 1 edition) at

-- the cost exponent, 1 to 16
unfoldable pub cost_at : Unread → Result (ℕ × Unread) FactorFault
cost_at at = such u8_at (λ cost. nat_le 1 cost && nat_le cost 16) at

-- the tree label of a PIN, below 16,384, and none of a password
unfoldable pub leaf_at : Kind → Unread → Result (Option ℕ × Unread) FactorFault
leaf_at Password at = Ok (None, at)
leaf_at Pin at = do
  number ← such u16_at (λ label. nat_lt label 16384) at
  Ok (Some number.0, number.1)
