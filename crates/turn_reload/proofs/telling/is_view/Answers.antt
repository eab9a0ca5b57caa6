use Rattle.std.proofs.Common.{Some, sym, ap, ◌∙◌, true≢false}
use Rattle.share_api.specs.declared.leaf.LeafView.{LeafView}
use Rattle.stored_home.proofs.MapLemmas.{from_some}
use Rattle.turn_reload.proofs.telling.is_view.Goals as goal

pub returns-in-Some-clause-same : goal.returns-in-Some-clause-same
returns-in-Some-clause-same c = λ e. c.in-Some.is ∙ ap (λ (v : LeafView). Some v) (c.is_same_view.ensures.0 e)

pub returns-in-Some-clause-differ : goal.returns-in-Some-clause-differ
returns-in-Some-clause-differ c = λ e same.
    true≢false (sym (c.is_same_view.ensures.1 (from_some c.in-Some.seen c.args.view.now (sym c.in-Some.is ∙ same))) ∙ e)
