-- A look more, over the same share.
use Rattle.std.proofs.Common.{arith}
use Rattle.home_lock_tests.proofs.walk.look_at_labels.Goals as goal

pub loop-number-preserved : goal.loop-number-preserved
loop-number-preserved g c =
    let was = c.loop-number.invariant in
    let left = was.1 in
    let used = c.leaf.ensures.made.spare in
    (g.met.S.Share.goes_on _ _ _ was.0 c.leaf.ensures.goes, omega (arith, left, used))

pub returns-in_err-push : goal.returns-in_err-push
returns-in_err-push g c = g.met.S.Share.goes_on _ _ _ c.loop-number.invariant.0 c.leaf.ensures.goes
