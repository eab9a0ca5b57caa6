use Rattle.std.proofs.Common.{refl}
use Rattle.gcm_seal.specs.Horner.{horner}
use Rattle.gcm_seal.proofs.hash_key.entry.Goals as goal

pub returns : goal.returns
unfolding horner
returns c = rw (c.step.ensures, c.step-z2.ensures, c.step-z1.ensures, c.step-z0.ensures) refl
