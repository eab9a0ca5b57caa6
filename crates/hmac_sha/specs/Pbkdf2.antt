-- PBKDF2 with HMAC-SHA-256 and one turn (RFC 8018, section 5.2) on lists of bytes.
use Rattle.std.specs.Prelude.{ℕ, zero, suc, ◌+◌, ◌/◌, List, [], ◌++◌, take}
use Rattle.std.specs.Int.{w32, to_be_bytes}
use Rattle.hmac_sha.specs.Hmac.{hmac}

-- block i, from 1 on: the MAC of the salt and i as four bytes, the high one first
abbrev pub block_at : List ℕ → List ℕ → ℕ → List ℕ
block_at password salt i = hmac password (salt ++ to_be_bytes w32 i)

-- the first n blocks, joined
unfoldable pub blocks : List ℕ → List ℕ → ℕ → List ℕ
blocks password salt zero = []
blocks password salt (suc n) = blocks password salt n ++ block_at password salt (n + 1)

-- the first len bytes of as many blocks as have them
unfoldable pub pbkdf2_one : List ℕ → List ℕ → ℕ → List ℕ
pbkdf2_one password salt len = take len (blocks password salt ((len + 31) / 32))
