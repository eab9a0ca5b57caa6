-- What the calls of a stash leave.
use Rattle.std.specs.Prelude.{ℕ, Bool, ◌==◌, false, List, filter, Option, Some, None, Result, Ok, Err}
use Rattle.std.specs.FinMap.{empty, entries, get, insert, remove}
use Rattle.sealed_text.specs.declared.sealed.Sealed.{Sealed}
use Rattle.sealed_text.specs.Sealing.{sealed_under}
use Rattle.stash_format.specs.declared.block.Block.{Block}
use Rattle.stash_format.specs.declared.reset.Reset.{Reset}
use Rattle.stash_format.specs.declared.contents.Contents.{Contents}
use Rattle.stash_format.specs.declared.payload.Payload.{Payload}
use Rattle.stash_format.specs.Blocks.{Blocks}
use Rattle.stash_format.specs.Resets.{Resets}
use Rattle.stash_format.specs.Live.{inserted_all}
use Rattle.stash_format.specs.Spelling.{payload_bytes}
use Rattle.secret_stash.specs.declared.fault.StashFault.{StashFault}
use Rattle.secret_stash.specs.declared.fault.StashFault.TheVariants.{NoBlock}
use Rattle.secret_stash.specs.Keys.{payload_extra}

-- a made home's stash, without factors
abbrev pub new_stash : List ℕ → Contents
new_stash account = record { account = account; next = 1; payload = None; blocks = empty }

-- the stash with this block for a label
abbrev pub with_block : Contents → List ℕ → Block → Contents
with_block stash label block = record stash { blocks = insert stash.blocks label block }

-- the stash without the label's block
abbrev pub without_block : Contents → List ℕ → Contents
without_block stash label = record stash { blocks = remove stash.blocks label }

abbrev pub there_or_fault : Option Block → Result (Unit {0}) StashFault
there_or_fault None = Err NoBlock
there_or_fault (Some block) = Ok tt

-- whether a label has a block
abbrev pub found_block : Contents → List ℕ → Result (Unit {0}) StashFault
found_block stash label = there_or_fault (get stash.blocks label)

abbrev pub has_edition : Option Block → ℕ → Bool
has_edition None edition = false
has_edition (Some block) edition = block.edition == edition

-- whether a block names the reset secret by its label and edition
abbrev pub is_live : Blocks → List ℕ × Reset → Bool
is_live blocks row = has_edition (get blocks row.0) row.1.edition

-- the reset secrets that a block names by label and edition
abbrev pub live_resets : Blocks → Resets → Resets
live_resets blocks resets = inserted_all empty (filter (is_live blocks) (entries resets))

-- a payload sealed under the main key, without the reset secrets that no block names
abbrev pub sealed_payload : Contents → List ℕ → Payload → List ℕ → Sealed
sealed_payload stash main payload iv =
    sealed_under main iv (payload_extra stash.account) (payload_bytes payload.vault (live_resets stash.blocks payload.resets))

-- the stash with this payload
abbrev pub with_payload : Contents → List ℕ → Payload → List ℕ → Contents
with_payload stash main payload iv = record stash { payload = Some (sealed_payload stash main payload iv) }
