use Rattle.std.proofs.Common.{ap, bit_xor}
use Rattle.std.specs.Simd.Lanes.{zip2}
use Rattle.scrypt_kdf.specs.Lanes.{in_order}
use Rattle.scrypt_kdf.proofs.salsa.xored.Goals as goal

-- lane by lane, with the words in their lanes
pub returns : goal.returns
returns c =
    rw (c.under_xor.ensures, c.under_xor-2.ensures, c.under_xor-3.ensures, c.under_xor-4.ensures)
    (ap (λ words. zip2 bit_xor (in_order c.args.x) words) c.block_of-y.ensures)
