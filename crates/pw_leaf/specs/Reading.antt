-- How a leaf record is read: the first rule that it breaks, or its contents.
use Rattle.std.specs.Prelude.{ℕ, zero, suc, ◌+◌, ◌-◌, ◌*◌, ◌^◌, Bool, ◌==◌, ◌&&◌, ◌||◌, nat_lt, nat_le, Option, Some, None, Result, Ok, Err, List, [], ◌∷◌, length, take, drop, slice_index, bytes_eq, if◌then◌else◌}
use Rattle.std.specs.List.{list_all}
use Rattle.std.specs.Int.{w16, w32, w64, from_be_bytes}
use Rattle.aes_core.specs.Counter.{gctr}
use Rattle.hmac_sha.specs.Hmac.{hmac}
use Rattle.pw_types.specs.Schedule.{is_schedule, limit_of}
use Rattle.pw_types.specs.declared.stamp.Stamp.{Stamp}
use Rattle.pw_leaf.specs.declared.keys.ChipKeys.{ChipKeys}
use Rattle.pw_leaf.specs.declared.leaf.Leaf.{Leaf}
use Rattle.pw_leaf.specs.declared.leaf.PublicLeaf.{PublicLeaf}
use Rattle.pw_leaf.specs.declared.fault.LeafFault.{LeafFault}
use Rattle.pw_leaf.specs.declared.fault.LeafFault.TheVariants.{BadLength, BadVersion, BadShape, BadMac}
use Rattle.pw_leaf.specs.Contents.{Contents, leaf_of}

-- ---- fields

-- n pairs from the front of bytes
unfoldable pub pairs_of : ℕ → List ℕ → List (ℕ × ℕ)
pairs_of zero bytes = []
pairs_of (suc n) bytes = (from_be_bytes w32 (take 4 bytes), from_be_bytes w32 (take 4 (drop 4 bytes))) ∷ pairs_of n (drop 8 bytes)

abbrev pub label_in : List ℕ → ℕ
label_in bytes = from_be_bytes w16 (take 2 (drop 1 bytes))

abbrev pub count_in : List ℕ → ℕ
count_in bytes = slice_index bytes 3

abbrev pub pairs_in : List ℕ → List (ℕ × ℕ)
pairs_in bytes = pairs_of (count_in bytes) (drop 4 bytes)

-- the bytes of unused pairs
abbrev pub unused_in : List ℕ → List ℕ
unused_in bytes = take (132 - (4 + 8 * count_in bytes)) (drop (4 + 8 * count_in bytes) bytes)

abbrev pub wrong_in : List ℕ → ℕ
wrong_in bytes = from_be_bytes w32 (take 4 (drop 132 bytes))

abbrev pub last_in : List ℕ → Stamp
last_in bytes = record { boot = from_be_bytes w64 (take 8 (drop 136 bytes)); at = from_be_bytes w64 (take 8 (drop 144 bytes)) }

abbrev pub iv_in : List ℕ → List ℕ
iv_in bytes = take 16 (drop 152 bytes)

-- the three secrets, joined
abbrev pub secrets_in : ChipKeys → List ℕ → List ℕ
secrets_in keys bytes = gctr 8 14 keys.enc (iv_in bytes) (take 96 (drop 168 bytes))

-- the MAC of a record, and what it is over
abbrev pub mac_of : List ℕ → List ℕ
mac_of bytes = drop 264 bytes

abbrev pub text_of : List ℕ → List ℕ
text_of bytes = take 264 bytes

-- the public part
abbrev pub shown_in : List ℕ → PublicLeaf
shown_in bytes =
    record { label = label_in bytes; schedule = pairs_in bytes; wrong = wrong_in bytes; last = last_in bytes; mac = mac_of bytes }

abbrev pub contents_in : ChipKeys → List ℕ → Contents
contents_in keys bytes =
    record {
      label = label_in bytes;
      schedule = pairs_in bytes;
      wrong = wrong_in bytes;
      last = last_in bytes;
      les = take 32 (secrets_in keys bytes);
      hes = take 32 (drop 32 (secrets_in keys bytes));
      reset = drop 64 (secrets_in keys bytes);
      iv = iv_in bytes;
    }

-- ---- rules

-- the pairs are a schedule, and unused ones are zero
unfoldable pub has_schedule : List ℕ → Bool
has_schedule bytes = is_schedule (pairs_in bytes) && list_all (λ byte. byte == 0) (unused_in bytes)

-- the place of the first field that breaks a rule: the label, the count of pairs, a pair, the wrong tries, the boot, the moment
unfoldable pub shape_fault : List ℕ → Option ℕ
shape_fault bytes =
    if nat_le 16384 (label_in bytes) then Some 1
    else if (count_in bytes == 0) || nat_lt 16 (count_in bytes) then Some 3
    else if has_schedule bytes then
    (if nat_lt (limit_of (pairs_in bytes)) (wrong_in bytes) then Some 132
    else if (wrong_in bytes == 0) && nat_lt 0 (last_in bytes).boot then Some 136
    else if nat_le (2 ^ 40) (last_in bytes).at || ((wrong_in bytes == 0) && nat_lt 0 (last_in bytes).at) then Some 144
    else None)
    else Some 4

-- ---- reading

abbrev pub shaped : List ℕ → Option ℕ → Result PublicLeaf LeafFault
shaped bytes (Some place) = Err (BadShape place)
shaped bytes None = Ok (shown_in bytes)

-- the public part, or the first fault: the length, the version, the shape
unfoldable pub look_at : List ℕ → Result PublicLeaf LeafFault
look_at bytes =
    if length bytes == 296 then
    (if slice_index bytes 0 == 1 then shaped bytes (shape_fault bytes) else Err (BadVersion (slice_index bytes 0)))
    else Err (BadLength (length bytes))

abbrev pub signed_by : ChipKeys → List ℕ → Result PublicLeaf LeafFault → Result Contents LeafFault
signed_by keys bytes (Err fault) = Err fault
signed_by keys bytes (Ok shown) =
    if bytes_eq (mac_of bytes) (hmac keys.mac (text_of bytes)) then Ok (contents_in keys bytes) else Err BadMac

-- the contents, or the first fault: the MAC is tested last
unfoldable pub check_at : ChipKeys → List ℕ → Result Contents LeafFault
check_at keys bytes = signed_by keys bytes (look_at bytes)

abbrev pub with_mac : List ℕ → Result Contents LeafFault → Result Leaf LeafFault
with_mac bytes (Err fault) = Err fault
with_mac bytes (Ok x) = Ok (leaf_of x (mac_of bytes))

-- the leaf, or the first fault
unfoldable pub leaf_at : ChipKeys → List ℕ → Result Leaf LeafFault
leaf_at keys bytes = with_mac bytes (check_at keys bytes)
