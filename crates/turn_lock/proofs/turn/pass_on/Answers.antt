-- The seat has put the value back with its entry, so it may pass the turn on.
use Rattle.std.proofs.Common.{rules, ◌%◌, ◌^◌, length, [], ◌∷◌, ◌++◌, sym, ap, ◌∙◌, subst, Some}
use Rattle.atomic_table.specs.Table.{rest}
use Rattle.turn_lock.specs.declared.table.Content.{Content}
use Rattle.turn_lock.specs.Rule.{before_at}
use Rattle.turn_lock.specs.Steps.{after_turn}
use Rattle.turn_lock.proofs.Passing.{passes}
use Rattle.turn_lock.proofs.turn.pass_on.Goals as goal

pub fetch_add-ticket-requires : goal.fetch_add-ticket-requires
fetch_add-ticket-requires g c =
    let has = c.requires.lock in
    let me = c.exchange-taken.ensures.3 in
    let content : Content g.row.T.Denot g.row.T-Entry.Denot =
    record { value = c.args.value; chain = c.hang.result } in (
      search rules,
      search rules,
      passes g.T.Tale.caller _ _ _ _ _ content c.args.link c.args.before record {
        live = ap (λ me. me.0.live) me ∙ has.live;
        serving = ap (λ me. me.0.stage) me ∙ has.serving;
        put = ap (λ me. me.1) me ∙ ap (λ slots. (0, Some content) ∷ rest slots) has.taken;
        longer = c.hang.ensures;
        own = c.requires.caller ∙ sym (ap (λ me. me.0.caller) me);
        stands = subst (g.T.Tale.stands c.args.table.now.key.value.value c.args.value)
            (sym c.hang.ensures) c.requires.stands;
      },
    )

pub returns-clause-seat : goal.returns-clause-seat
returns-clause-seat g c =
    let has = c.requires.lock in
    let me = c.exchange-taken.ensures.3 in
    let content : Content g.row.T.Denot g.row.T-Entry.Denot =
    record { value = c.args.value; chain = c.hang.result } in
    let put = ap (λ me. me.1) me ∙ ap (λ slots. (0, Some content) ∷ rest slots) has.taken in
    let known = ap (λ me. before_at me.0.stage) me ∙ ap before_at has.serving in
    let passed = c.fetch_add-ticket.ensures.2 content c.args.link put
    (c.hang.ensures ∙ ap (λ before. before ++ c.args.link ∷ []) (sym known)) in
    passed.1 ∙ ap (λ me. (after_turn c.args.link me.0, [])) me

-- the ticket that was served is the number of the entries before
pub returns-clause-ticket : goal.returns-clause-ticket
returns-clause-ticket g c =
    let has = c.requires.lock in
    let me = c.exchange-taken.ensures.3 in
    let content : Content g.row.T.Denot g.row.T-Entry.Denot =
    record { value = c.args.value; chain = c.hang.result } in
    let put = ap (λ me. me.1) me ∙ ap (λ slots. (0, Some content) ∷ rest slots) has.taken in
    let known = ap (λ me. before_at me.0.stage) me ∙ ap before_at has.serving in
    let passed = c.fetch_add-ticket.ensures.2 content c.args.link put
    (c.hang.ensures ∙ ap (λ before. before ++ c.args.link ∷ []) (sym known)) in
    passed.0 ∙ ap (λ before. length before % 2 ^ 64) known
