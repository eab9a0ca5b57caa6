-- What stands behind the head of a stash's record.
use Rattle.std.specs.Prelude.{[], ◌==◌, Option, Some, None, Result, Ok, if◌then◌else◌}
use Rattle.std.specs.FinMap.{empty}
use Rattle.ct_bytes.specs.Reading.{Unread, u16_at, or_fault, ◌>>=◌}
use Rattle.sealed_text.specs.declared.sealed.Sealed.{Sealed}
use Rattle.stash_format.specs.declared.fault.RecordFault.{RecordFault}
use Rattle.stash_format.specs.Faults.{bad_at}
use Rattle.stash_format.specs.Fields.{Head, part_at, block_count_at}
use Rattle.stash_format.specs.Blocks.{Blocks, blocks_at}

-- a sealed payload: IV, length, ciphertext, tag
unfoldable pub sealed_at : Unread → Result (Sealed × Unread) RecordFault
sealed_at at = do
  iv ← part_at 12 at
  size ← or_fault bad_at (u16_at iv.1)
  text ← part_at size.0 size.1
  tag ← part_at 16 text.1
  Ok (record { iv = iv.0; text = text.0; tag = tag.0 }, tag.1)

-- the payload and the blocks of a home with factors, and neither of one without
unfoldable pub held_at : Head → Unread → Result ((Option Sealed × Blocks) × Unread) RecordFault
held_at head at =
    if head.state == 0 then Ok ((None, empty), at) else (do
      payload ← sealed_at at
      count ← block_count_at head.version payload.1
      blocks ← blocks_at count.0 head.version head.next [] empty count.1
      Ok ((Some payload.0, blocks.0), blocks.1))
