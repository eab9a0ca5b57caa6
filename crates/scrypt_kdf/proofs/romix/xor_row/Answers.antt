use Rattle.std.proofs.Common.{arith, bit_xor}
use Rattle.scrypt_kdf.proofs.PartLemmas.{zip_of}
use Rattle.scrypt_kdf.proofs.romix.xor_row.Goals as goal

-- all words are done
pub returns : goal.returns
returns c = zip_of bit_xor c.args.b.now c.args.row.now _ (omega arith) c.words.invariant.len (λ k h. c.words.invariant.done k (omega arith))
