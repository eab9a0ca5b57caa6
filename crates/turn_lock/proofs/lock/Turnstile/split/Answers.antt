-- The seat has spare numbers up to the end, of which the first goes to the new seat.
use Rattle.std.proofs.Common.{rules, ◌≡◌, ◌+◌, ◌-◌, ◌<◌, sym, ap, ◌∙◌, subst, length}
use Rattle.std.specs.Prelude.{All}
use Rattle.turn_lock.specs.Insides.{seat_at}
use Rattle.turn_lock.specs.Lists.{tail}
use Rattle.turn_lock.proofs.Counts.{range_with_len-cons}
use Rattle.turn_lock.proofs.Splitting.{splits}
use Rattle.turn_lock.proofs.Views.{numbers_of-split, spare-lt, numbers_from-least}
use Rattle.turn_lock.proofs.lock.Turnstile.split.Goals as goal

pub split_seat-requires : goal.split_seat-requires
split_seat-requires g c =
    let spares = c.seat.invariant.1.spares in
    let some_spare = subst (λ seat. 0 < length seat.spare) (sym c.seat.view_is) c.requires.spare in
    let first = spare-lt _ _ _ spares some_spare in (
      search rules,
      search rules,
      splits g.T.Tale.caller _ _ _ _ _ _ c.seat.invariant.0.live
          (spares ∙ range_with_len-cons c.seat.inside.spare c.seat.inside.end first),
    )

-- its other spare numbers are those from the next on
pub invariant_of-kept : goal.invariant_of-kept
invariant_of-kept g c =
    let me = c.split_seat.ensures.2 in
    let rests = c.seat.invariant.0 in
    let has = c.seat.invariant.1 in
    let some_spare = subst (λ seat. 0 < length seat.spare) (sym c.seat.view_is) c.requires.spare in
    let first = spare-lt _ _ _ has.spares some_spare in
    let spare = has.spares ∙ range_with_len-cons c.seat.inside.spare c.seat.inside.end first in (
      record {
        live = ap (λ me. me.0.live) me ∙ rests.live;
        idle = ap (λ me. me.0.stage) me ∙ rests.idle;
        empty = ap (λ me. me.1) me ∙ rests.empty;
      },
      record {
        named = ap (λ me. me.0.caller) me ∙ has.named;
        spares = ap (λ me. me.0.spare) me ∙ ap tail spare;
      },
    )

pub returns-clause-least : goal.returns-clause-least
returns-clause-least g c =
    let kept = invariant_of-kept g c in
    let given : c.split_seat.result.me.0.caller ≡ c.seat.inside.spare = search rules in
    subst (λ (first : _). All (λ number. first < number) c.split_seat.new.seat.me.0.spare) (sym given)
    (subst (λ numbers. All (λ number. c.seat.inside.spare < number) numbers) (sym kept.1.spares)
    (numbers_from-least c.seat.inside.spare
    (c.seat.inside.end - (c.seat.inside.spare + 1))))

pub returns-clause-numbers : goal.returns-clause-numbers
returns-clause-numbers g c = numbers_of-split c.args.seat
    (seat_at c.split_seat.new.seat c.seat.inside.end)
    (seat_at c.split_seat.result c.seat.inside.end)
    (search rules) (search rules) (search rules)
