use Rattle.std.proofs.Common.{◌∙◌, arith, sym, bit_xor}
use Rattle.std.proofs.lemmas.Grind.{same_number_lists}
use Rattle.std.proofs.lemmas.Simd.{get_or-zip2}
use Rattle.aes_core.proofs.StreamLemmas.{length-xor_bytes}
use Rattle.aes_core.proofs.stream.xor_part.Goals as goal

pub returns : goal.returns
returns c =
    let part = c.args.part.now in
    let block = c.args.block.now in
    let len = length-xor_bytes part block (omega arith) in
    same_number_lists _ _ (c.bytes.invariant.len ∙ sym len) (λ k h.
    c.bytes.invariant.done k (omega arith)
    ∙ sym (get_or-zip2 bit_xor part block k 0 0 0 (omega arith) (omega arith)))
