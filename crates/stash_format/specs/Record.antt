-- A stash's record, of either version.
use Rattle.std.specs.Prelude.{ℕ, List, Option, Result, Ok}
use Rattle.std.specs.Result.{result_ok}
use Rattle.ct_bytes.specs.Reading.{start, end_at, or_fault, ◌>>=◌, ◌>>◌}
use Rattle.stash_format.specs.declared.fault.RecordFault.{RecordFault}
use Rattle.stash_format.specs.declared.contents.Contents.{Contents}
use Rattle.stash_format.specs.Faults.{bad_at}
use Rattle.stash_format.specs.Fields.{head_at}
use Rattle.stash_format.specs.Held.{held_at}

-- what the bytes of a record hold, or the first place that breaks a rule
unfoldable pub stash_read : List ℕ → Result Contents RecordFault
stash_read bytes = do
  head ← head_at (start bytes)
  held ← held_at head.0 head.1
  or_fault bad_at (end_at held.1)
  Ok (record { account = head.0.account; next = head.0.next; payload = held.0.0; blocks = held.0.1 })

-- what the bytes of a record hold, and none where they are outside the grammar
abbrev pub stash_at : List ℕ → Option Contents
stash_at bytes = result_ok (stash_read bytes)
