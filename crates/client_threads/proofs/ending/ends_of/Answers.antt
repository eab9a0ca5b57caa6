use Rattle.std.proofs.Common.{◌≡◌, Some, sym, ap, ◌∙◌, rules}
use Rattle.client_threads.specs.declared.ending.Mark.TheVariants as marks
use Rattle.client_threads.proofs.Leasts.{least_found, least_none, all_ended}
use Rattle.client_threads.proofs.ending.ends_of.Goals as goal

pub returns-in-Some-clause-fault : goal.returns-in-Some-clause-fault
returns-in-Some-clause-fault g c = λ client is.
    let same : c.in-Some.client ≡ client = search rules in
    least_found marks.Fault c.args.first _ client (sym c.least.ensures ∙ (c.in-Some.is ∙ ap Some same))

pub returns-in-Some-least-clause-limit : goal.returns-in-Some-least-clause-limit
returns-in-Some-least-clause-limit g c = λ client is.
    let same : c.in-Some-least.client ≡ client = search rules in (
      least_found marks.Limit c.args.first _ client (sym c.least-2.ensures ∙ (c.in-Some-least.is ∙ ap Some same)),
      least_none marks.Fault c.args.first _ (sym c.least.ensures ∙ c.in_default.is),
    )

pub returns-in-Some-least-2-clause-starved : goal.returns-in-Some-least-2-clause-starved
returns-in-Some-least-2-clause-starved g c = λ is. (
  least_none marks.Fault c.args.first _ (sym c.least.ensures ∙ c.in_default.is),
  least_none marks.Limit c.args.first _ (sym c.least-2.ensures ∙ c.in_default-least.is),
)

pub returns-in-None-clause-served : goal.returns-in-None-clause-served
returns-in-None-clause-served g c = λ is. all_ended _
    (least_none marks.Fault c.args.first _ (sym c.least.ensures ∙ c.in_default.is))
    (least_none marks.Limit c.args.first _ (sym c.least-2.ensures ∙ c.in_default-least.is))
    (least_none marks.Starved c.args.first _ (sym c.least-3.ensures ∙ c.in-None.is))
