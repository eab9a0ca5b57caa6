use Rattle.std.proofs.Common.{◌≡◌, ◌++◌, map, take, [], ◌∷◌}
use Rattle.record_names.specs.Names.{leaf_name}
use Rattle.mem_share.proofs.ops.list.Given as goal

-- the names of the records, and of the leaves so far
abbrev pub invariant-loop-label : goal.invariant-loop-label
invariant-loop-label l = l.listed.items ≡ l.names.items ++ map (leaf_name (109 ∷ [])) (take l.label-index l.label-items)
