use Rattle.std.proofs.Common.{◌≡◌, ◌-◌, []}
use denote.Text.{Utf8}
use denote.Shadow.{shadow}
use Rattle.std.specs.FinMap.{empty}
use Rattle.stash_format.specs.Blocks.{blocks_at}
use Rattle.stash_format.proofs.blocks.take_blocks.Given as goal

-- what is still to be read is what was to be read, behind what was read
abbrev pub invariant-rows : goal.invariant-rows
invariant-rows l =
    shadow (Utf8 l.last)
    × (blocks_at (l.count - l.counter) l.version l.next l.last l.blocks l.reader
    ≡ blocks_at l.count l.version l.next [] empty l.initial.reader)
