use Rattle.std.proofs.Common.{◌≡◌}
use Rattle.scrypt_kdf.specs.Salsa.{double_rounds}
use Rattle.scrypt_kdf.specs.Lanes.{in_order}
use Rattle.scrypt_kdf.proofs.salsa.salsa.Given as goal

-- z is the block after the double rounds so far
abbrev pub invariant-rounds : goal.invariant-rounds
invariant-rounds l = in_order l.z ≡ double_rounds l.round (in_order l.x)
