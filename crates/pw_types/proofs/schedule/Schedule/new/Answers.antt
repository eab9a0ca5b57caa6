use Rattle.std.proofs.Common.{length, sym, ◌∙◌, arith}
use Rattle.std.proofs.lemmas.Bool.{eqb-false}
use Rattle.pw_types.specs.Schedule.{IsSchedule}
use Rattle.pw_types.proofs.ScheduleLemmas.{IsKept-append}
use Rattle.pw_types.proofs.schedule.Schedule.new.Goals as goal

-- each pair passed the test, and the zero pairs behind were there before
pub invariant_of-result : goal.invariant_of-result
invariant_of-result c =
    let whole : IsSchedule c.args.pairs.now = record {
      some = omega (arith, eqb-false (length c.args.pairs.now) 0 (sym c.is_empty.ensures ∙ c.if-is_empty.false));
      few = omega arith;
      rules = λ k inside. c.loop-index.invariant k (omega arith);
    } in
    rw c.copy_from_slice.ensures.after (IsKept-append c.args.pairs.now whole)
