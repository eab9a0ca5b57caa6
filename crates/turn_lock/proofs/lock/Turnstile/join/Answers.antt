-- The seat has the numbers of both, and none of them twice.
use Rattle.std.proofs.Common.{rules, ◌≡◌, ℕ, ◌-◌, ◌≤◌, ◌++◌, List, sym, ap, ◌∙◌, subst}
use Rattle.turn_lock.specs.Insides.{view_of}
use Rattle.std.specs.List.{range_with_len}
use Rattle.turn_lock.specs.Lists.{count_of}
use Rattle.turn_lock.specs.Seats.{joined_seat, HasNumbersOf}
use Rattle.turn_lock.proofs.Joining.{joins, counts, spare_once}
use Rattle.turn_lock.proofs.Views.{numbers_of-joined_seat}
use Rattle.turn_lock.proofs.lock.Turnstile.join.Goals as goal

pub join_seat-requires : goal.join_seat-requires
join_seat-requires g c =
    let other = c.other.invariant.0 in (
      search rules,
      search rules,
      search rules,
      search rules,
      joins g.T.Tale.caller _ _ _ _ _ _ c.seat.invariant.0.live other.live other.idle,
    )

pub load-requires : goal.load-requires
load-requires g c = (search rules, search rules, counts g.T.Tale.caller _ _ _ _ _)

-- the two have the same end, since they are of one lock
pub spare_of_both-requires : goal.spare_of_both-requires
spare_of_both-requires g c =
    let me = c.join_seat.ensures.2 in
    let both : c.join_seat.new.seat.me.0.spare
    ≡ range_with_len c.seat.inside.spare (c.seat.inside.end - c.seat.inside.spare)
    ++ range_with_len c.other.inside.spare (c.seat.inside.end - c.other.inside.spare) =
    search rules in
    let once = spare_once c.join_seat.new.seat.me.0
    (ap (λ me. me.0.live) me ∙ c.seat.invariant.0.live) c.load.ensures.2.1 in
    subst (λ (numbers : List ℕ). (number : ℕ) → count_of number numbers ≤ 1) both once

pub returns-clause-seat : goal.returns-clause-seat
returns-clause-seat g c =
    let table = c.load.ensures.0 ∙ c.join_seat.ensures.0 in
    let me = c.load.ensures.2.0 ∙ c.join_seat.ensures.2 in
    (λ i. view_of (table i) c.seat.inside.end (me i).0)
    ∙ (λ i. joined_seat (c.seat.view_is i) (c.other.view_is i))

pub returns-clause-numbers : goal.returns-clause-numbers
returns-clause-numbers g c =
    subst (λ seat. HasNumbersOf seat c.args.seat c.args.other) (sym (returns-clause-seat g c))
    (numbers_of-joined_seat c.args.seat c.args.other)
