use Rattle.std.proofs.Common.{◌≡◌, drop}
use Rattle.std.specs.Ordering.{nat_cmp}
use Rattle.std.specs.Cmp.Lexicographic.{slice_cmp}
use Rattle.std.specs.FinMap.{find, get, entries}
use Rattle.turn_secrets.proofs.binding.is_plain_in.Given as goal

-- the blocks so far have other labels
abbrev pub invariant-loop-at : goal.invariant-loop-at
invariant-loop-at l =
    find (slice_cmp nat_cmp) l.label (drop l.at (entries l.stash.blocks)) ≡ get l.stash.blocks l.label
