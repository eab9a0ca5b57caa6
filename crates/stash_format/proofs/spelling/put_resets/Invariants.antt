use Rattle.std.proofs.Common.{◌≡◌, ℕ, List, ◌++◌, take}
use Rattle.std.specs.Prelude.{All}
use Rattle.std.specs.List.{flat_map}
use Rattle.stash_format.specs.declared.reset.Reset.{Reset}
use Rattle.stash_format.specs.Spelling.{reset_bytes}
use Rattle.stash_format.specs.Spelled.{HasResetSizes}
use Rattle.stash_format.proofs.spelling.put_resets.Given as goal

-- the rows so far are written
abbrev pub invariant-rows : goal.invariant-rows
invariant-rows l =
    (l.out ≡ l.initial.out ++ flat_map reset_bytes (take l.row-index l.rows))
    × All (λ (row : List ℕ × Reset). HasResetSizes row.1) (take l.row-index l.rows)
