-- The platform stands with the step, which is the account's entry at the place that the receipt says.
use Rattle.std.proofs.Common.{sym, subst}
use Rattle.platform_lock.specs.Answers.{IsAnswerTo}
use Rattle.platform_lock.specs.Devices.{IsServed}
use Rattle.platform_lock.proofs.ServedLemmas.{served_more, adds_step}
use Rattle.platform_lock.proofs.turn.step_in_turn.Goals as goal

pub leave-seat-requires-clause-stands : goal.leave-seat-requires-clause-stands
leave-seat-requires-clause-stands g c =
    let first = c.args.lock.now.first.device in
    let before = c.enter-held.result.before in
    let served = subst (λ value. IsServed g.D.Device.seen g.D.Device.stands first value.device before)
    (sym c.value-shared.ensures.value) c.enter-held.ensures.stands in
    served_more g.D.Device.seen g.D.Device.stands first _ _ before _ served
    (c.step-step.ensures.stands first before served.chain_stands) c.step-step.ensures.same c.step-step.ensures.cause

-- The platform's tree is lost as it was when the lock was made.
pub returns : goal.returns
returns g c =
    let first = c.args.lock.now.first.device in
    let before = c.enter-held.result.before in
    let served = subst (λ value. IsServed g.D.Device.seen g.D.Device.stands first value.device before)
    (sym c.value-shared.ensures.value) c.enter-held.ensures.stands in
    record {
      made = (
        c.step-step.result.step.reply,
        subst (λ lost. IsAnswerTo lost c.args.asked.op c.step-step.result.answer c.step-step.result.step.reply)
            served.same.lost c.step-step.ensures.answer,
        adds_step c.args.seat c.enter-held.result.seat c.leave-seat.result.0 before c.step-step.result.step _
            c.leave-seat.result.1.place c.enter-held.ensures.seat c.step-step.ensures.step c.leave-seat.ensures.seat
            c.leave-seat.ensures.place,
      );
    }
