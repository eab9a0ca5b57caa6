use Rattle.std.proofs.Common.{◌≡◌, ◌*◌, ap, ◌∙◌, arith, refl}
use Rattle.gcm_seal.specs.Horner.{horner}
use Rattle.gcm_seal.proofs.Linear.{product_horner}
use Rattle.gcm_seal.proofs.HornerRule.{table_next}
use Rattle.gcm_seal.proofs.hash_key.HashKey.product.Goals as goal

pub parts-init : goal.parts-init
unfolding horner
parts-init c = refl

pub parts-preserved : goal.parts-preserved
parts-preserved c =
    table_next c.self.inside.products c.args.x c.args.self.now c.parts.i c.parts.z
    c.from-reduction.result (rw c.self.view_is at c.self.invariant) c.parts.invariant (omega arith)
    c.from-reduction.ensures

pub returns : goal.returns
returns c =
    let done : 4 * c.parts.i ≡ 128 = omega arith in
    c.parts.invariant ∙ ap (horner c.args.x c.args.self.now) done ∙ product_horner c.args.x c.args.self.now
