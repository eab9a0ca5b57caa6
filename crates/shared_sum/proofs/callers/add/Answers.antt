-- The entry has its place behind those before it, and the sum after the amount was added.
use Rattle.std.proofs.Common.{rules, ◌+◌, ◌%◌, ◌^◌, length, refl}
use Rattle.shared_sum.proofs.Totals.{IsSumOf-push}
use Rattle.shared_sum.proofs.callers.add.Goals as goal

pub leave-seat-requires-clause-stands : goal.leave-seat-requires-clause-stands
leave-seat-requires-clause-stands g c =
    let was = c.enter-held.ensures.stands in
    IsSumOf-push c.args.lock.now.first c.enter-held.result.value _ c.enter-held.result.before _ was
    (search rules) refl

pub returns-clause-added : goal.returns-clause-added
returns-clause-added g c =
    let held = c.enter-held.result in
    (length held.before, (held.value.total + c.args.amount) % 2 ^ 64, search rules, search rules)
