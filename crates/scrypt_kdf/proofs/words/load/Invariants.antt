use Rattle.std.proofs.Common.{◌≡◌, length, take}
use Rattle.scrypt_kdf.specs.Bytes.{words_of}
use Rattle.scrypt_kdf.proofs.words.load.Given as goal

-- the words so far are at the front
abbrev pub invariant-loaded : goal.invariant-loaded
invariant-loaded l = record {
  len : length l.words ≡ length l.initial.words;
  done : take l.i l.words ≡ words_of l.bytes l.i;
}
