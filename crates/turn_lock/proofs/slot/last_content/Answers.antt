-- All other seats are spent, so the one slot was at home.
use Rattle.std.proofs.Common.{rules, ◌≡◌, ap, sym, ◌∙◌, subst, refl, Some, IsSome}
use mathlib.Core.Option.{some-injective}
use lib.ListN.{get_elem?}
use Rattle.turn_lock.specs.Rule.{IsLeft}
use Rattle.turn_lock.proofs.Closing.{closes}
use Rattle.turn_lock.proofs.slot.last_content.Goals as goal

pub unwrap-content-requires : goal.unwrap-content-requires
unwrap-content-requires g c =
    let last = c.close_with-closed.ensures.values.2 in
    let rests = c.requires.rests in
    let left = closes g.T.Tale.caller _ _ last.0 last.1.0 _ _ last.1.1 rests.live rests.idle
    c.requires.numbers in
    let taken : c.take.result ≡ Some left.0 = some-injective _ _ (sym c.take.ensures.value
    ∙ last.4 0 (Some left.0) (ap (λ homes. get_elem? homes 0) left.1)) in
    subst IsSome (sym taken) refl

pub returns : goal.returns
returns g c =
    let last = c.close_with-closed.ensures.values.2 in
    let rests = c.requires.rests in
    let left = closes g.T.Tale.caller _ _ last.0 last.1.0 _ _ last.1.1 rests.live rests.idle
    c.requires.numbers in
    let taken : c.take.result ≡ Some left.0 = some-injective _ _ (sym c.take.ensures.value
    ∙ last.4 0 (Some left.0) (ap (λ homes. get_elem? homes 0) left.1)) in
    let same : left.0 ≡ c.unwrap-content.result = search rules in
    subst (IsLeft g.T.Tale.caller (g.T.Tale.stands c.args.table.shared.key.value.value)
    c.args.table.shared.key.callers c.args.place.me.0) same left.2
