-- The opened payload of a stash.
use Rattle.std.specs.Prelude.{ℕ, List, [], Option, Result, Ok}
use Rattle.std.specs.Result.{result_ok}
use Rattle.std.specs.FinMap.{empty}
use Rattle.ct_bytes.specs.Reading.{start, end_at, or_fault, ◌>>=◌, ◌>>◌}
use Rattle.stash_format.specs.declared.fault.RecordFault.{RecordFault}
use Rattle.stash_format.specs.declared.payload.Payload.{Payload}
use Rattle.stash_format.specs.Faults.{bad_at}
use Rattle.stash_format.specs.Fields.{part_at}
use Rattle.stash_format.specs.Resets.{reset_count_at, resets_at}

-- what the bytes hold, or the first place that breaks a rule
unfoldable pub payload_read : List ℕ → Result Payload RecordFault
payload_read bytes = do
  vault ← part_at 32 (start bytes)
  count ← reset_count_at vault.1
  resets ← resets_at count.0 [] empty count.1
  or_fault bad_at (end_at resets.1)
  Ok (record { vault = vault.0; resets = resets.0 })

-- what the bytes hold, and none where they are outside the grammar
abbrev pub payload_at : List ℕ → Option Payload
payload_at bytes = result_ok (payload_read bytes)
