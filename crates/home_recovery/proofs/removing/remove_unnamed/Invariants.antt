use Rattle.std.proofs.Common.{take, is_some}
use Rattle.home_recovery.specs.Sweeps.{Sweeps}
use Rattle.home_recovery.proofs.removing.remove_unnamed.Given as goal

-- the names so far were gone through
abbrev pub invariant-loop-name : goal.invariant-loop-name
invariant-loop-name g l = record {
  sweeps : Sweeps (is_some (g.S.Share.seen l.fn.share).lost) l.fn.account l.fn.stored (take l.name-index l.fn.listed) (g.S.Share.seen l.fn.share) (g.S.Share.seen l.share) (Unit {0}) ⊥;
  goes : g.S.Share.goes l.fn.share l.share;
}
