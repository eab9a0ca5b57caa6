use Rattle.record_names.specs.Names.{Stash}
use Rattle.record_names.proofs.SpellingLemmas.{stash_spelled}
use Rattle.record_names.proofs.spelling.spell_stash.Goals as goal

pub returns : goal.returns
returns c = stash_spelled c.args.account.now _ _ _ c.new-bytes.ensures.value c.push.ensures.value c.push-2.ensures.value

pub invariant_of-result : goal.invariant_of-result
invariant_of-result c = record {
  parts = Stash c.args.account.now;
  are = c.requires;
  spelled = stash_spelled c.args.account.now _ _ _ c.new-bytes.ensures.value c.push.ensures.value c.push-2.ensures.value;
}
