-- The fields of a stash's record, each read behind the one before, with the first place that breaks a rule.
use Rattle.std.specs.Prelude.{ℕ, Bool, ◌==◌, ◌&&◌, ◌||◌, nat_le, nat_lt, List, Result, Ok, if◌then◌else◌}
use Rattle.ct_bytes.specs.declared.fault.ByteFault.{ByteFault}
use Rattle.ct_bytes.specs.Reading.{Unread, bytes_at, u8_at, u64_at, rule, or_fault, ◌>>=◌, ◌>>◌}
use Rattle.record_fields.specs.Names.{account_at}
use Rattle.stash_format.specs.declared.fault.RecordFault.{RecordFault}
use Rattle.stash_format.specs.declared.fault.RecordFault.TheVariants.{BadStash}
use Rattle.stash_format.specs.declared.block.Form.{Form}
use Rattle.stash_format.specs.declared.block.Form.TheVariants.{Plain, Bound}
use Rattle.stash_format.specs.declared.block.Block.{Block}
use Rattle.stash_format.specs.declared.fields.Head.{Head as HeadFields}
use Rattle.stash_format.specs.Faults.{bad_at, bad_field}

-- a number that passes the test, named by where it begins
abbrev pub such : (Unread → Result (ℕ × Unread) ByteFault) → (ℕ → Bool) → Unread → Result (ℕ × Unread) RecordFault
such take test at = do
  number ← or_fault bad_at (take at)
  rule (test number.0) (BadStash at.place)
  Ok number

-- so many bytes
abbrev pub part_at : ℕ → Unread → Result (List ℕ × Unread) RecordFault
part_at count at = or_fault bad_at (bytes_at count at)

-- the version: 1 or 2
unfoldable pub version_at : Unread → Result (ℕ × Unread) RecordFault
version_at at = such u8_at (λ version. (version == 1) || (version == 2)) at

-- the edition that the next factor gets, from 1
unfoldable pub next_at : Unread → Result (ℕ × Unread) RecordFault
next_at at = such u64_at (λ next. nat_le 1 next) at

-- the state: 0 without factors, 1 with factors
unfoldable pub state_at : Unread → Result (ℕ × Unread) RecordFault
state_at at = such u8_at (λ state. nat_le state 1) at

-- the fields in front of every record
pub record Head : Type 0 where
  pub version : ℕ
  pub account : List ℕ
  pub next : ℕ
  pub state : ℕ

abbrev pub seen_head : HeadFields → Head
seen_head head = record { version = head.version; account = head.account.now; next = head.next; state = head.state }

unfoldable pub head_at : Unread → Result (Head × Unread) RecordFault
head_at at = do
  version ← version_at at
  account ← or_fault bad_field (account_at version.1)
  next ← next_at account.1
  state ← state_at next.1
  Ok (record { version = version.0; account = account.0; next = next.0; state = state.0 }, state.1)

-- the most blocks of a record of a version
abbrev pub most_blocks : ℕ → ℕ
most_blocks version = if version == 1 then 16 else 32

-- the number of blocks, from 1
unfoldable pub block_count_at : ℕ → Unread → Result (ℕ × Unread) RecordFault
block_count_at version at = such u8_at (λ count. nat_le 1 count && nat_le count (most_blocks version)) at

-- a block's edition, below the next one
unfoldable pub edition_at : ℕ → Unread → Result (ℕ × Unread) RecordFault
edition_at next at = such u64_at (λ edition. nat_lt edition next) at

-- the form of a number
abbrev pub form_of : ℕ → Form
form_of number = if number == 1 then Plain else Bound

-- a block's form: 1 or 2, and none in version 1, whose blocks are all plain
unfoldable pub form_at : ℕ → Unread → Result (Form × Unread) RecordFault
form_at version at =
    if version == 1 then Ok (Plain, at) else (do
      number ← such u8_at (λ form. (form == 1) || (form == 2)) at
      Ok (form_of number.0, number.1))

-- a block behind its label
unfoldable pub block_at : ℕ → ℕ → Unread → Result (Block × Unread) RecordFault
block_at version next at = do
  edition ← edition_at next at
  form ← form_at version edition.1
  iv ← part_at 12 form.1
  text ← part_at 32 iv.1
  tag ← part_at 16 text.1
  Ok (record { edition = edition.0; form = form.0; iv = iv.0; text = text.0; tag = tag.0 }, tag.1)
