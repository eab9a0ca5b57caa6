-- A new table, whose slot has the value.
use Rattle.std.proofs.Common.{rules, arith, ◌-◌, ap, ◌∙◌, length, ◌≡◌, ◌<◌, ◌^◌, List, [], ◌∷◌, sym, subst, Option}
use Rattle.atomic_table.specs.Table.{opening}
use Rattle.turn_lock.specs.declared.table.Content.{Content}
use Rattle.turn_lock.specs.Insides.{seat_at}
use Rattle.std.specs.List.{range_with_len}
use Rattle.turn_lock.specs.Rule.{HoldsOf}
use Rattle.turn_lock.specs.Seats.{first_seat, HasEachNumber}
use Rattle.turn_lock.specs.Steps.{opening_seat}
use Rattle.std.proofs.lemmas.List.FromFn.{length-range_with_len}
use Rattle.turn_lock.proofs.Opening.{opens}
use Rattle.turn_lock.proofs.Views.{numbers_of-first_seat}
use Rattle.turn_lock.proofs.lock.Turnstile.new.Goals as goal

pub new-made-requires : goal.new-made-requires
new-made-requires g c =
    let noted : c.of.result.value ≡ c.args.value = search rules in
    let fits : c.args.callers < 2 ^ 32 = search rules in
    subst
    (λ (z : g.row.T.Denot × List (Option (Content g.row.T.Denot g.row.T-Entry.Denot))).
    HoldsOf g.T.Tale.caller (g.T.Tale.stands z.0) c.args.callers
    (opening (0 ∷ 0 ∷ []) z.1 (opening_seat c.args.callers)))
    (λ i. (sym noted i, sym c.in_ok-slots.ensures.ok i))
    (opens g.T.Tale.caller (g.T.Tale.stands c.args.value) c.args.callers c.args.value
    c.requires.some fits c.requires.stands)

pub returns-in-Ok-clause-spare : goal.returns-in-Ok-clause-spare
returns-in-Ok-clause-spare g c =
    let is : c.in-Ok.place.me.0.spare ≡ range_with_len 1 (c.args.callers - 1) = search rules in
    let size = ap length is ∙ length-range_with_len 1 (c.args.callers - 1) in
    let some_callers = c.requires.some in omega arith

pub returns-in-Ok-clause-numbers : goal.returns-in-Ok-clause-numbers
returns-in-Ok-clause-numbers g c =
    let seat = seat_at c.in-Ok.place c.args.callers in
    let is : seat ≡ first_seat seat.lock = search rules in
    subst HasEachNumber (sym is)
    (numbers_of-first_seat g.row.T-Entry.Denot seat.lock c.requires.some)
