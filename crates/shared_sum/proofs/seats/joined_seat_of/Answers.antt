-- A caller that was taken out has its numbers and its turns in the joined seat.
use Rattle.std.proofs.Common.{arith, ap, sym, subst, ◌∙◌}
use Rattle.shared_sum.specs.Callers.{KnowsTurns}
use Rattle.shared_sum.proofs.Counts.{count_in-last, seats-last}
use Rattle.shared_sum.proofs.Turns.{knows-last, knows_joined}
use Rattle.shared_sum.proofs.seats.joined_seat_of.Goals as goal

pub loop-caller-init : goal.loop-caller-init
loop-caller-init c =
    let items = c.in_ok-last.ensures.items in
    let has = c.unwrap-seat.ensures in
    let seats = seats-last _ _ _ _ items has c.args.lock.now.id c.requires in (
      seats.1,
      seats.0,
      λ number.
          let parts = count_in-last _ _ _ _ items has number in omega arith,
      knows-last _ _ _ _ items has,
    )

pub loop-caller-preserved : goal.loop-caller-preserved
loop-caller-preserved c =
    let items = c.in-Some.ensures.items in
    let has = c.unwrap.ensures in
    let kept = c.loop-caller.invariant in
    let seats = seats-last _ _ _ _ items has c.args.lock.now.id kept.1 in (
      ap (λ seat. seat.lock) c.join-seat.ensures.seat ∙ kept.0,
      seats.0,
      λ number.
          let parts = count_in-last _ _ _ _ items has number in
          let joined = c.join-seat.ensures.numbers number in
          let was = kept.2 number in omega arith,
      λ turns each.
          let was = kept.3 turns each in
          let parts = knows-last _ _ _ _ items has turns was.0 in (
            parts.0,
            subst (KnowsTurns turns) (sym c.join-seat.ensures.seat)
                (knows_joined turns _ _ was.1 parts.1),
          ),
    )

pub returns-clause-turns : goal.returns-clause-turns
returns-clause-turns c turns each = (c.loop-caller.invariant.3 turns each).1
