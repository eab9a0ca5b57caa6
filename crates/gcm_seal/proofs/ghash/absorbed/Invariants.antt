use Rattle.std.proofs.Common.{◌≡◌}
use Rattle.gcm_seal.specs.Ghash.{hash_from, filled}
use Rattle.gcm_seal.proofs.ghash.absorbed.Given as goal

abbrev pub invariant-turns : goal.invariant-turns
invariant-turns l = l.z ≡ hash_from l.key l.y (filled l.bytes) l.i
