use Rattle.std.proofs.Common.{◌≡◌, drop}
use Rattle.pw_path.specs.Path.{climb, root_of}
use Rattle.pw_path.proofs.path.root_of.Given as goal

abbrev pub invariant-loop-level : goal.invariant-loop-level
invariant-loop-level l = (climb l.level l.index l.hash (drop l.level l.aux) ≡ root_of l.fn.label l.fn.leaf l.aux)
