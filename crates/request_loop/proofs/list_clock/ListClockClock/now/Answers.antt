use Rattle.std.proofs.Common.{arith}
use Rattle.std.proofs.lemmas.Grind.{common_steps}
use Rattle.request_loop.proofs.Giving.{gives-next}
use Rattle.request_loop.proofs.list_clock.ListClockClock.now.Goals as goal

-- the number is the list's next one, or one past its end
pub returns-clause-given : goal.returns-clause-given
returns-clause-given c = rw (← c.self.view_is) (gives-next c.self.inside.numbers.items c.self.inside.calls _ _
    (omega (arith, c.self.inside.numbers.ok.0, c.self.inside.numbers.small)) c.saturating_add-self-inside.ensures (grind (arith, common_steps)))
