-- The share is the same one, and has memory for the looks that are left.
use Rattle.std.proofs.Common.{◌≤◌, ◌+◌}
use Rattle.home_lock_tests.proofs.walk.look_at_labels.Given as goal

abbrev pub invariant-loop-number : goal.invariant-loop-number
invariant-loop-number g l =
    g.S.Share.goes l.fn.share l.share × (l.looks ≤ (g.S.Share.seen l.share).spare + l.number)
