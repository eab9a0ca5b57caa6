use Rattle.std.proofs.Common.{inr, refl, sym, ◌∙◌, true≢false}
use Rattle.platform_core.proofs.records.Records.add_there.Goals as goal

pub returns-in-Ok-false-clause-there : goal.returns-in-Ok-false-clause-there
returns-in-Ok-false-clause-there g c = λ now told known held. inr (
  (λ there. true≢false
      (sym ((c.in-Ok-false.ensures.there now told known held).1 there) ∙ c.in-Ok-false.field-0-test)),
  refl,
)
