use Rattle.std.proofs.Common.{◌≡◌, ◌*◌}
use Rattle.gcm_seal.specs.Horner.{horner}
use Rattle.gcm_seal.proofs.hash_key.HashKey.product.Given as goal

abbrev pub invariant-parts : goal.invariant-parts
invariant-parts l = l.z ≡ horner l.x l.self (4 * l.i)
