use Rattle.std.proofs.Common.{arith}
use Rattle.record_names.specs.Names.{File}
use Rattle.record_names.proofs.SpellingLemmas.{file_spelled}
use Rattle.record_names.proofs.spelling.spell_file.Goals as goal

pub returns : goal.returns
returns c = file_spelled c.args.account.now c.args.name.now _ _ _ _ c.new-bytes.ensures.value c.push.ensures.value c.push-2.ensures.value c.push_hex.ensures

pub invariant_of-result : goal.invariant_of-result
invariant_of-result c = record {
  parts = File c.args.account.now c.args.name.now;
  are = (c.requires.account, c.requires.least, c.requires.most, λ i. let h = c.type_inv.name i in omega arith, c.requires.text);
  spelled = file_spelled c.args.account.now c.args.name.now _ _ _ _ c.new-bytes.ensures.value c.push.ensures.value c.push-2.ensures.value c.push_hex.ensures;
}
