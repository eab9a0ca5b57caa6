use Rattle.record_names.specs.Names.{Factor}
use Rattle.record_names.proofs.SpellingLemmas.{factor_spelled}
use Rattle.record_names.proofs.spelling.spell_factor.Goals as goal

pub returns : goal.returns
returns c =
    factor_spelled c.args.account.now c.args.label.now c.args.edition _ _ _ _ _ _ c.new-bytes.ensures.value c.push.ensures.value c.push-2.ensures.value c.push-3.ensures.value c.push-4.ensures.value c.push_decimal.ensures

pub invariant_of-result : goal.invariant_of-result
invariant_of-result c = record {
  parts = Factor c.args.account.now c.args.label.now c.args.edition;
  are = (c.requires.account, c.requires.label, c.ranges.edition.fits);
  spelled = factor_spelled c.args.account.now c.args.label.now c.args.edition _ _ _ _ _ _ c.new-bytes.ensures.value c.push.ensures.value c.push-2.ensures.value c.push-3.ensures.value c.push-4.ensures.value c.push_decimal.ensures;
}
