use Rattle.std.proofs.Common.{◌-◌, ◌*◌, refl, arith, ap, ◌∙◌}
use Rattle.std.specs.Int.{w128, from_be_bytes}
use Rattle.gcm_seal.specs.Ghash.{hash_from}
use Rattle.gcm_seal.proofs.GhashLemmas.{absorbed_next}
use Rattle.gcm_seal.proofs.ghash.absorbed.Goals as goal

pub turns-init : goal.turns-init
unfolding hash_from
turns-init c = refl

pub turns-preserved : goal.turns-preserved
turns-preserved c =
    absorbed_next c.args.key.now c.args.y c.args.bytes.now c.turns.i (c.min-end.result - 16 * c.turns.i)
    c.turns.z _ _ (omega arith) (omega arith) c.turns.invariant
    (c.from_be_bytes-block.ensures ∙ ap (from_be_bytes w128) c.zero_filled.ensures) c.product-z.ensures
