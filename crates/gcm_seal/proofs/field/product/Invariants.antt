use Rattle.std.proofs.Common.{◌≡◌}
use Rattle.gcm_seal.specs.Field128.{product_to, shifted_by}
use Rattle.gcm_seal.proofs.field.product.Given as goal

abbrev pub invariant-bits : goal.invariant-bits
invariant-bits l = record {
  sum : l.z ≡ product_to l.x l.y l.i;
  shifted : l.v ≡ shifted_by l.y l.i;
}
