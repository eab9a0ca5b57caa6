use Rattle.std.proofs.Common.{◌≡◌, take}
use Rattle.std.specs.Prelude.{filter}
use Rattle.std.specs.FinMap.{empty, entries}
use Rattle.stash_format.specs.Live.{inserted_all}
use Rattle.secret_stash.specs.Edits.{is_live}
use Rattle.secret_stash.proofs.payloads.live_resets.Given as goal

-- the live ones so far
abbrev pub invariant-rows : goal.invariant-rows
invariant-rows l =
    (l.row-items ≡ entries l.resets)
    × (l.live ≡ inserted_all empty (filter (is_live l.blocks) (take l.row-index l.row-items)))
