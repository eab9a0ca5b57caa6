-- The seat that finds its ticket has the slot with the value.
use Rattle.std.proofs.Common.{rules, ◌≡◌, ◌∷◌, sym, ap, ◌∙◌, Some}
use Rattle.atomic_table.specs.Table.{rest}
use Rattle.turn_lock.proofs.Taking.{looks}
use Rattle.turn_lock.proofs.turn.wait.Goals as goal

pub load-serving-requires : goal.load-serving-requires
load-serving-requires g c =
    let same = c.loop.invariant.1 in
    let waits = c.requires.waits in (
      search rules,
      search rules,
      looks g.T.Tale.caller _ _ _ c.requires.meaning _ _ _ waits.ticket
          (ap (λ me. me.0.live) same ∙ waits.live) (ap (λ me. me.0.stage) same ∙ waits.stage),
    )

pub exchange-requires : goal.exchange-requires
exchange-requires g c =
    let waits = c.requires.waits in
    let found : c.load-serving.result ≡ c.args.ticket = search rules in
    let stage = ap (λ me. me.0.stage) c.loop.invariant.1 ∙ waits.stage in
    let looked = c.load-serving.ensures.2 waits.ticket stage in
    let took = looked.0 (found ∙ sym waits.reduces) in
    let has = ap (λ me. me.1) took.1 in
    (search rules, (Some took.0, has ∙ ap (λ slots. (0, Some took.0) ∷ rest slots) (sym has)))
