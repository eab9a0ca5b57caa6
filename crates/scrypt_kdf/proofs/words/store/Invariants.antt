use Rattle.std.proofs.Common.{◌≡◌, ◌*◌, length, take}
use Rattle.scrypt_kdf.specs.Bytes.{bytes_of}
use Rattle.scrypt_kdf.proofs.words.store.Given as goal

-- the bytes of the words so far are at the front
abbrev pub invariant-stored : goal.invariant-stored
invariant-stored l = record {
  len : length l.bytes ≡ 4 * length l.words;
  done : take (4 * l.i) l.bytes ≡ bytes_of (take l.i l.words);
}
