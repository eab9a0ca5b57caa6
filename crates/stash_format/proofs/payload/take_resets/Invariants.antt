use Rattle.std.proofs.Common.{◌≡◌, ◌-◌, []}
use denote.Text.{Utf8}
use denote.Shadow.{shadow}
use Rattle.std.specs.FinMap.{empty}
use Rattle.stash_format.specs.Resets.{resets_at}
use Rattle.stash_format.proofs.payload.take_resets.Given as goal

-- what is still to be read is what was to be read, behind what was read
abbrev pub invariant-rows : goal.invariant-rows
invariant-rows l =
    shadow (Utf8 l.last)
    × (resets_at (l.count - l.counter) l.last l.resets l.reader ≡ resets_at l.count [] empty l.initial.reader)
