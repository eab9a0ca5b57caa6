-- Names as fields of a record.
use Rattle.std.specs.Prelude.{ℕ, Bool, List, Result, Ok}
use Rattle.home_names.specs.Names.{is_account_name, is_factor_label}
use Rattle.ct_bytes.specs.declared.fault.ByteFault.{ByteFault}
use Rattle.ct_bytes.specs.Reading.{Unread, field8_at, rule, or_fault, ◌>>=◌, ◌>>◌}
use Rattle.record_fields.specs.declared.fault.BadField.{BadField}

-- a field that begins here is bad
abbrev pub bad_here : Unread → BadField
bad_here at = record { 0 = at.place }

-- a field with its length byte that passes the test, named by where it begins
abbrev pub name_at : (List ℕ → Bool) → Unread → Result (List ℕ × Unread) BadField
name_at test at = do
  name ← or_fault (λ (fault : ByteFault). bad_here at) (field8_at at)
  rule (test name.0) (bad_here at)
  Ok name

-- an account
unfoldable pub account_at : Unread → Result (List ℕ × Unread) BadField
account_at at = name_at is_account_name at

-- a factor label
unfoldable pub label_at : Unread → Result (List ℕ × Unread) BadField
label_at at = name_at is_factor_label at
