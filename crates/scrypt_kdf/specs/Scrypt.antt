-- scrypt (RFC 7914, section 6) on lists of bytes.
use Rattle.std.specs.Prelude.{ℕ, ◌*◌, List, take, drop}
use Rattle.hmac_sha.specs.Pbkdf2.{pbkdf2_one}
use Rattle.scrypt_kdf.specs.Lists.{joined}
use Rattle.scrypt_kdf.specs.Bytes.{words_of, bytes_of}
use Rattle.scrypt_kdf.specs.Romix.{romix}

-- ROMix of a block of 128 r bytes
abbrev pub mixed_block : ℕ → ℕ → List ℕ → List ℕ
mixed_block r n b = bytes_of (romix r (words_of b (32 * r)) n)

-- ROMix of each of the first p blocks, joined (step 2)
abbrev pub mixed_blocks : ℕ → ℕ → List ℕ → ℕ → List ℕ
mixed_blocks r n b p = joined (λ i. mixed_block r n (take (128 * r) (drop (128 * r * i) b))) p

-- scrypt of a password and a salt, in len bytes (steps 1 to 3)
unfoldable pub scrypt : List ℕ → List ℕ → ℕ → ℕ → ℕ → ℕ → List ℕ
scrypt password salt n r p len =
    pbkdf2_one password (mixed_blocks r n (pbkdf2_one password salt (128 * r * p)) p) len
