-- What a MAC has taken in.
use Rattle.std.specs.Prelude.{ℕ, List, ◌++◌}
use Rattle.sha2.specs.Hashers.{Holds256}
use Rattle.hmac_sha.specs.Hmac.{key_block, padded}
use Rattle.hmac_sha.specs.declared.pieces.Mac.{Mac}

-- the MAC is made with this key and has taken in this text: its hashers hold the inner pad and the
-- text, and the outer pad
unfoldable pub HasTaken : Mac → List ℕ → List ℕ → Type 0
HasTaken mac key text =
    Holds256 mac.inner (padded 0x36 (key_block key) ++ text)
    × Holds256 mac.outer (padded 0x5C (key_block key))
