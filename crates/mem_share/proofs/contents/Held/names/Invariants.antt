use Rattle.std.proofs.Common.{◌≡◌, ◌++◌}
use Rattle.mem_share.proofs.contents.Held.names.Given as goal

-- the names so far, and those that are left, are the tree's
abbrev pub invariant-loop-name : goal.invariant-loop-name
invariant-loop-name l = l.names.items ++ l.name-iterator ≡ l.initial.name-iterator
