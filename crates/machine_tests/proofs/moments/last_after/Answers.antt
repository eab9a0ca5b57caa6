use Rattle.std.proofs.Common.{sym, subst, arith}
use Rattle.machine_step.specs.Timely.{IsTimely}
use Rattle.machine_tests.proofs.moments.last_after.Goals as goal

-- a fresh account has such moments
pub step-took-requires : goal.step-took-requires
step-took-requires c =
    subst (λ u. IsTimely (record { boot = 1; start = 900 }) u) (sym c.fresh-user.ensures)
    (c.a_fresh_account_has_such_moments.ensures (record { boot = 1; start = 900 }) 900 (omega arith) (omega arith))
