-- All numbers are with the accounts, or with the seat that is there.
use Rattle.std.proofs.Common.{length, Option, subst}
use Rattle.share_api.specs.declared.step.Step.{Step}
use Rattle.turn_lock.specs.Seats.{SeatView}
use Rattle.user_home.specs.Ending.{IsIdle}
use Rattle.home_begin.proofs.Dealing.{each_counted}
use Rattle.home_begin.proofs.platform.whole_seat.Goals as goal

pub returns-in-None-clause-numbers : goal.returns-in-None-clause-numbers
returns-in-None-clause-numbers g c =
    each_counted c.args.shared.now.id _ _ c.close_opened.result c.close_opened.ensures.of
    (subst (λ (idle : Option (SeatView Step)). IsIdle c.args.shared.now.id (length c.args.accounts.items) idle)
    c.in-None.is c.requires.idle).1
    c.requires.order c.close_opened.ensures.numbers
