use Rattle.std.proofs.Common.{◌<◌, length, ◌∙◌, arith}
use Rattle.std.proofs.lemmas.List.{take_more_set, length-set}
use Rattle.pw_leaf.proofs.FieldLemmas.{read_more, read_all}
use Rattle.pw_leaf.proofs.read.pairs_of.Goals as goal

-- one more pair is read from what was left
pub loop-index-preserved : goal.loop-index-preserved
loop-index-preserved c =
    let pairs = c.loop-index.pairs in
    let index = c.loop-index.index in
    let inv = c.loop-index.invariant in
    let room : index < length pairs = omega arith in
    record {
      size = length-set pairs index (c.u32_at.result, c.u32_at-in-loop-index.result) ∙ inv.size;
      read = read_more c.args.count index c.args.bytes.now pairs (omega arith) room inv.read
          (c.u32_at.result, c.u32_at-in-loop-index.result) (λ i. (c.u32_at.ensures i, c.u32_at-in-loop-index.ensures i))
          _ (take_more_set pairs index (c.u32_at.result, c.u32_at-in-loop-index.result) room);
    }

pub returns : goal.returns
returns c = read_all c.args.count c.loop-index.index c.args.bytes.now c.loop-index.pairs (omega arith) (omega arith) c.loop-index.invariant.read
