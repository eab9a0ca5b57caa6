use Rattle.std.proofs.Common.{refl, sym, ap, ◌∙◌}
use Rattle.stored_home.specs.declared.fault.StoreFault.TheVariants.{Damaged}
use Rattle.home_recovery.proofs.BoundLemmas.{bounds_kept, bounds_broken}
use Rattle.home_recovery.proofs.bounds.checked.Goals as goal

pub returns-then-keeps_bounds-clause-kept : goal.returns-then-keeps_bounds-clause-kept
returns-then-keeps_bounds-clause-kept c =
    (refl, λ _. bounds_kept c.args.stored (sym c.keeps_bounds.ensures ∙ c.if-keeps_bounds.true))

pub returns-else-keeps_bounds-clause-broken : goal.returns-else-keeps_bounds-clause-broken
returns-else-keeps_bounds-clause-broken c = (
  ap (λ (name : Rattle.share_api.specs.Contents.Bytes). Damaged name) c.stash.ensures.value,
  c.has_factors.ensures.0 c.if-not-has_factors.false,
  bounds_broken c.args.stored (sym c.keeps_bounds.ensures ∙ c.if-keeps_bounds.false),
)
