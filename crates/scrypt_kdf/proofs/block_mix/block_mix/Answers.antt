use Rattle.std.proofs.Common.{◌++◌}
use Rattle.scrypt_kdf.specs.BlockMix.{block_mix}
use Rattle.scrypt_kdf.proofs.block_mix.block_mix.Goals as goal

-- the two halves, one after the other
pub returns : goal.returns
unfolding block_mix
returns c = λ i. c.mix_halves.ensures.evens i ++ c.mix_halves.ensures.odds i
