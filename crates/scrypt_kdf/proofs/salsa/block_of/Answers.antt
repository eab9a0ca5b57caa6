use Rattle.scrypt_kdf.proofs.RoundLemmas.{words_one_by_one}
use Rattle.scrypt_kdf.proofs.salsa.block_of.Goals as goal

-- each word stands in its lane
pub returns : goal.returns
returns c = rw (c.gathered.ensures, c.gathered-2.ensures, c.gathered-3.ensures, c.gathered-4.ensures) (words_one_by_one c.args.words.now c.requires)
