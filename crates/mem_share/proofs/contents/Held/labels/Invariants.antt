use Rattle.std.proofs.Common.{◌≡◌, ◌++◌}
use Rattle.mem_share.proofs.contents.Held.labels.Given as goal

-- the labels so far, and those that are left, are the tree's
abbrev pub invariant-loop-key : goal.invariant-loop-key
invariant-loop-key l = l.labels.items ++ l.key-iterator ≡ l.initial.key-iterator
