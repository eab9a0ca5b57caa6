-- The key sizes of AES (FIPS 197, section 5, table 3).
use Rattle.std.specs.Prelude.{ℕ}
use Rattle.gcm_seal.specs.declared.sealing.KeySize.{KeySize}
use Rattle.gcm_seal.specs.declared.sealing.KeySize.TheVariants.{K128, K192, K256}

-- the words of a key
abbrev pub words_of : KeySize → ℕ
words_of K128 = 4
words_of K192 = 6
words_of K256 = 8

-- the rounds under it
abbrev pub rounds_of : KeySize → ℕ
rounds_of K128 = 10
rounds_of K192 = 12
rounds_of K256 = 14
