-- HMAC-SHA-256 (RFC 2104, section 2) on lists of bytes.
use Rattle.std.specs.Prelude.{ℕ, ◌-◌, List, ◌++◌, length, replicate, map, bit_xor, if◌then◌else◌, nat_le}
use Rattle.sha2.specs.Sha256.{sha256}

-- a key of at most 64 bytes as a block: zeros follow it
abbrev pub filled : List ℕ → List ℕ
filled key = key ++ replicate (64 - length key) 0

-- a key as a block: a longer one is hashed first
abbrev pub key_block : List ℕ → List ℕ
key_block key = if nat_le (length key) 64 then filled key else filled (sha256 key)

-- a block with each byte under xor with the pad
abbrev pub padded : ℕ → List ℕ → List ℕ
padded pad block = map (λ b. bit_xor b pad) block

-- HMAC: the digest of the outer pad and the digest of the inner pad and the text
unfoldable pub hmac : List ℕ → List ℕ → List ℕ
hmac key text =
    sha256 (padded 0x5C (key_block key) ++ sha256 (padded 0x36 (key_block key) ++ text))
