use Rattle.std.proofs.Common.{ap, ◌∙◌, ◌++◌, ℕ, arith}
use Rattle.record_names.specs.Names.{Leaf, five_digits}
use Rattle.record_names.proofs.SpellingLemmas.{leaf_spelled}
use Rattle.record_names.proofs.spelling.spell_leaf.Goals as goal

-- the digits are those of the label's number
pub returns : goal.returns
returns c =
    let digits = c.push_five_digits.ensures ∙ ap (λ (n : ℕ). c.push-2.new.self ++ five_digits n) (c.from.ensures ∙ c.number.ensures.value) in
    leaf_spelled c.args.account.now c.args.label _ _ _ _ c.new-bytes.ensures.value c.push.ensures.value c.push-2.ensures.value digits

pub invariant_of-result : goal.invariant_of-result
invariant_of-result c = record {
  parts = Leaf c.args.account.now c.args.label;
  are = (c.requires, omega (arith, c.number.ensures.value, c.number.ensures.within));
  spelled =
      let digits = c.push_five_digits.ensures ∙ ap (λ (n : ℕ). c.push-2.new.self ++ five_digits n) (c.from.ensures ∙ c.number.ensures.value) in
      leaf_spelled c.args.account.now c.args.label _ _ _ _ c.new-bytes.ensures.value c.push.ensures.value c.push-2.ensures.value digits;
}
