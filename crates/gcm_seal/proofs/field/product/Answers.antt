use Rattle.std.proofs.Common.{◌≡◌, refl, ◌∙◌, ap, arith}
use Rattle.gcm_seal.specs.Field128.{product_to, shifted_by}
use Rattle.gcm_seal.proofs.BitRule.{product_next_one, product_next_zero, shifted_next}
use Rattle.gcm_seal.proofs.field.product.Goals as goal
use Rattle.gcm_seal.proofs.field.product.Goals.{then-x-i-eq1, else-x-i-eq1}

pub bits-init : goal.bits-init
unfolding product_to shifted_by
bits-init c = record { sum = refl; shifted = refl }

-- by the bit of x
pub bits-preserved : goal.bits-preserved
bits-preserved c =
    let held = c.bits.invariant in
    let x = c.args.x in
    let y = c.args.y in
    record {
      sum = elim c.if-x-i-eq1.branch [
        | then-x-i-eq1 w ↦
            w.z-is ∙ product_next_one x y c.bits.i c.bits.z c.bits.v held.sum held.shifted w.if-x-i-eq1.true
        | else-x-i-eq1 w ↦
            w.z-is ∙ product_next_zero x y c.bits.i c.bits.z held.sum w.if-x-i-eq1.false
      ];
      shifted = c.shifted-v.ensures ∙ shifted_next y c.bits.i c.bits.v held.shifted;
    }

pub returns : goal.returns
returns c =
    let done : c.bits.i ≡ 128 = omega arith in
    c.bits.invariant.sum ∙ ap (product_to c.args.x c.args.y) done
