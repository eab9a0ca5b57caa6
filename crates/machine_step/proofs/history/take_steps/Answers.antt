use Rattle.std.proofs.Common.{◌≡◌, List, ◌∷◌, ◌+◌, drop, sym, ◌∙◌, ap, subst}
use Rattle.std.proofs.lemmas.List.{drop_more}
use Rattle.account_machine.specs.declared.entry.Entry.{Entry}
use Rattle.account_machine.specs.declared.user.User.{User}
use Rattle.account_machine.specs.Legal.{IsLegal}
use Rattle.machine_step.proofs.Single.{one_step}
use Rattle.machine_step.proofs.history.take_steps.Goals as goal

-- one step more
pub loop-entry-preserved : goal.loop-entry-preserved
loop-entry-preserved c =
    let entries = c.args.entries.now in
    let at = c.loop-entry.entry-index in
    let entry = c.entry-item.result in
    let step = c.in_ok-step.ensures.allowed c.if-not-branch.false in
    let opened : drop at entries ≡ entry ∷ drop (at + 1) entries =
    drop_more entries at entry c.loop-entry-test.true ∙ ap (λ (e : Entry). e ∷ drop (at + 1) entries) (sym c.entry-item.is) in (
      c.steps_keep_moments.ensures c.args.era c.loop-entry.user entry c.step.new.user c.loop-entry.invariant.0 step,
      λ after rest. c.loop-entry.invariant.1 after
          (subst (λ (es : List Entry). IsLegal c.args.era c.loop-entry.user es after) (sym opened) (c.step.new.user, step, rest)),
      λ after whole.
          let rest = subst (λ (es : List Entry). IsLegal c.args.era c.loop-entry.user es after) opened (c.loop-entry.invariant.2 after whole) in
          subst (λ (u : User). IsLegal c.args.era u (drop (at + 1) entries) after)
          (one_step c.args.era c.loop-entry.user entry rest.0 c.step.new.user rest.1 step) rest.2,
    )
