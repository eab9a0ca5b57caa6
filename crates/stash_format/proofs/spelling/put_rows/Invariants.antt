use Rattle.std.proofs.Common.{◌≡◌, ℕ, List, ◌++◌, take}
use Rattle.std.specs.Prelude.{All}
use Rattle.std.specs.List.{flat_map}
use Rattle.stash_format.specs.declared.block.Block.{Block}
use Rattle.stash_format.specs.Spelling.{row_bytes}
use Rattle.stash_format.specs.Spelled.{HasBlockSizes}
use Rattle.stash_format.proofs.spelling.put_rows.Given as goal

-- the rows so far are written
abbrev pub invariant-rows : goal.invariant-rows
invariant-rows l =
    (l.out ≡ l.initial.out ++ flat_map row_bytes (take l.row-index l.rows))
    × All (λ (row : List ℕ × Block). HasBlockSizes row.1) (take l.row-index l.rows)
