-- The 296 bytes of a leaf record.
use Rattle.std.specs.Prelude.{ℕ, ◌-◌, ◌*◌, List, [], ◌∷◌, ◌++◌, length, replicate}
use Rattle.std.specs.Int.{w16, w32, w64, to_be_bytes}
use Rattle.aes_core.specs.Counter.{gctr}
use Rattle.hmac_sha.specs.Hmac.{hmac}
use Rattle.pw_leaf.specs.declared.keys.ChipKeys.{ChipKeys}
use Rattle.pw_leaf.specs.Contents.{Contents}

-- the pairs of a schedule
unfoldable pub pairs_bytes : List (ℕ × ℕ) → List ℕ
pairs_bytes [] = []
pairs_bytes (pair ∷ pairs) = to_be_bytes w32 pair.0 ++ (to_be_bytes w32 pair.1 ++ pairs_bytes pairs)

-- the same in room for 16 pairs; unused pairs are zero
unfoldable pub pairs_field : List (ℕ × ℕ) → List ℕ
pairs_field schedule = pairs_bytes schedule ++ replicate (128 - 8 * length schedule) 0

-- bytes 0 to 167: version, label, count of pairs, pairs, wrong tries, boot and moment of the last, first counter block
unfoldable pub open_part : Contents → List ℕ
open_part x =
    (1 ∷ []) ++ to_be_bytes w16 x.label ++ (length x.schedule ∷ []) ++ pairs_field x.schedule
    ++ to_be_bytes w32 x.wrong ++ to_be_bytes w64 x.last.boot ++ to_be_bytes w64 x.last.at ++ x.iv

-- bytes 168 to 263: the three secrets, hidden by AES-256 in counter mode
unfoldable pub secret_part : ChipKeys → Contents → List ℕ
secret_part keys x = gctr 8 14 keys.enc x.iv (x.les ++ x.hes ++ x.reset)

-- bytes 0 to 263, which the MAC is over
unfoldable pub leaf_text : ChipKeys → Contents → List ℕ
leaf_text keys x = open_part x ++ secret_part keys x

-- bytes 264 to 295
unfoldable pub leaf_mac : ChipKeys → Contents → List ℕ
leaf_mac keys x = hmac keys.mac (leaf_text keys x)

-- the record
unfoldable pub leaf_bytes : ChipKeys → Contents → List ℕ
leaf_bytes keys x = leaf_text keys x ++ leaf_mac keys x
