use Rattle.std.proofs.Common.{◌∷◌, ◌++◌, take}
use Rattle.sha2.specs.Hashers.{Holds256}
use Rattle.pw_path.specs.Tree.{joined}
use Rattle.pw_path.proofs.path.node.Given as goal

abbrev pub invariant-loop-before : goal.invariant-loop-before
invariant-loop-before l = Holds256 l.hasher (l.level ∷ joined (take l.before-index l.before-items))

abbrev pub invariant-loop-after : goal.invariant-loop-after
invariant-loop-after l =
    Holds256 l.hasher (l.level ∷ joined (take l.index l.siblings ++ (l.child ∷ take l.after-index l.after-items)))
