use Rattle.std.proofs.Common.{sym, subst, arith}
use Rattle.machine_step.specs.Timely.{IsTimely}
use Rattle.machine_tests.proofs.script.stops_at.Goals as goal

-- a fresh account has such moments
pub stops_after-stop-requires : goal.stops_after-stop-requires
stops_after-stop-requires c =
    subst (λ u. IsTimely (record { boot = 1; start = 1000 }) u) (sym c.fresh-user.ensures)
    (c.a_fresh_account_has_such_moments.ensures (record { boot = 1; start = 1000 }) 1000 (omega arith) (omega arith))
