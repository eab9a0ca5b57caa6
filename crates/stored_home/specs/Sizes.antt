-- How long a loaded stash's payload is.
use Rattle.std.specs.Prelude.{◌≤◌, IfSome}
use Rattle.stash_format.specs.Sizes.{payload_size, most_payload}
use Rattle.stored_home.specs.declared.stored.Stored.{Stored}

-- The payload is no longer than one of the grammar: so the stash can be written again, and its record put.
abbrev pub IsShort : Stored → Type 0
IsShort stored = IfSome stored.stash (λ stash. payload_size stash ≤ most_payload)
