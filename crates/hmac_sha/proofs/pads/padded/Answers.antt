use Rattle.std.proofs.Common.{◌∙◌, arith, sym, bit_xor}
use Rattle.std.proofs.lemmas.Grind.{same_number_lists}
use Rattle.std.proofs.lemmas.List.{get_or-map, length-map}
use Rattle.hmac_sha.proofs.pads.padded.Goals as goal

pub returns : goal.returns
returns c =
    same_number_lists _ _ (c.bytes.invariant.len ∙ simp length-map (omega arith))
    (λ k h. c.bytes.invariant.done k (omega arith) ∙ sym (get_or-map (λ b. bit_xor b c.args.pad) c.args.block.now k 0 0 (omega arith)))
