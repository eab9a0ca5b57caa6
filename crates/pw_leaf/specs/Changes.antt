-- A record whose count of wrong tries is changed.
use Rattle.std.specs.Prelude.{ℕ, List, ◌++◌, take, drop}
use Rattle.std.specs.Int.{w32, w64, to_be_bytes}
use Rattle.hmac_sha.specs.Hmac.{hmac}
use Rattle.pw_types.specs.declared.stamp.Stamp.{Stamp}
use Rattle.pw_leaf.specs.declared.keys.ChipKeys.{ChipKeys}

-- bytes 132 to 151: how many wrong tries there were, and when the last of them came
abbrev pub tries_bytes : ℕ → Stamp → List ℕ
tries_bytes wrong last = to_be_bytes w32 wrong ++ to_be_bytes w64 last.boot ++ to_be_bytes w64 last.at

-- the bytes of a record before its MAC, of which 132 to 151 are new
abbrev pub recounted_text : List ℕ → ℕ → Stamp → List ℕ
recounted_text bytes wrong last = take 132 bytes ++ tries_bytes wrong last ++ take 112 (drop 152 bytes)

-- the same, signed
abbrev pub recounted : ChipKeys → List ℕ → ℕ → Stamp → List ℕ
recounted keys bytes wrong last = recounted_text bytes wrong last ++ hmac keys.mac (recounted_text bytes wrong last)
