use Rattle.std.proofs.Common.{inl, inr}
use Rattle.pin_edit_tests.proofs.shown.factor_name.Goals as goal

-- it is the name of a factor's record of the account
pub returns : goal.returns
returns c = (c.ann.result.now, tt, inr (inl (c.args.label.now, c.args.edition, c.factor.ensures.value)))
