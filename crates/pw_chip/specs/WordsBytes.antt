-- The 256 bytes of a chip's words: how they are written, and how they are read.
use Rattle.std.specs.Prelude.{◌≡◌, ℕ, ◌+◌, ◌<◌, ◌≤◌, ◌^◌, Bool, ◌==◌, ◌||◌, nat_lt, nat_le, Option, Some, None, Result, Ok, Err, List, [], ◌∷◌, ◌++◌, take, drop, replicate, length, slice_index, bytes_eq, if◌then◌else◌}
use Rattle.std.specs.Int.{w16, w64, to_be_bytes, from_be_bytes}
use Rattle.pw_log.specs.declared.entry.LogEntry.{LogEntry}
use Rattle.pw_log.specs.Entry.{IsEntry}
use Rattle.pw_log.specs.declared.entry.TheConstants.{RESET, TRY, RIGHT, WRONG}
use Rattle.pw_chip.specs.declared.bytes.WordsFault.{WordsFault}
use Rattle.pw_chip.specs.declared.bytes.WordsFault.TheVariants.{BadWords}
use Rattle.pw_chip.specs.State.{ChipState}

-- ---- what can be kept

-- an entry in its ranges, with hashes of 32 bytes and the number of a boot
pub record IsKept (e : LogEntry) : Type 0 where
  pub ranges : IsEntry e
  pub root : length e.root ≡ 32
  pub mac : length e.mac ≡ 32
  pub boot : e.stamp.boot < 2 ^ 64

-- the words of a chip that was booted
pub record IsWords (w : ChipState) : Type 0 where
  pub mac_key : length w.keys.mac ≡ 32
  pub cipher_key : length w.keys.enc ≡ 32
  pub booted : 1 ≤ w.boot
  pub boot : w.boot < 2 ^ 64
  pub start : w.start < 2 ^ 40
  pub newest : IsKept w.log.newest
  pub older : IsKept w.log.older

-- ---- writing

-- a log entry: operation, label, root, MAC, verdict, boot and moment
unfoldable pub entry_bytes : LogEntry → List ℕ
entry_bytes e =
    (e.operation ∷ []) ++ to_be_bytes w16 e.label ++ e.root ++ e.mac ++ (e.verdict ∷ []) ++ to_be_bytes w64 e.stamp.boot ++ to_be_bytes w64 e.stamp.at

-- version, MAC key, cipher key, boot, its start, the newest entry, the older one, zeros
unfoldable pub words_bytes : ChipState → List ℕ
words_bytes w =
    (1 ∷ []) ++ w.keys.mac ++ w.keys.enc ++ to_be_bytes w64 w.boot ++ to_be_bytes w64 w.start
    ++ entry_bytes w.log.newest ++ entry_bytes w.log.older ++ replicate 7 0

-- ---- reading

-- the entry at a place
abbrev pub entry_in : List ℕ → ℕ → LogEntry
entry_in bytes at =
    record {
      operation = slice_index bytes at;
      label = from_be_bytes w16 (take 2 (drop (at + 1) bytes));
      root = take 32 (drop (at + 3) bytes);
      mac = take 32 (drop (at + 35) bytes);
      verdict = slice_index bytes (at + 67);
      stamp = record { boot = from_be_bytes w64 (take 8 (drop (at + 68) bytes)); at = from_be_bytes w64 (take 8 (drop (at + 76) bytes)) };
    }

-- right or wrong for a try, and nothing for another operation
abbrev pub has_verdict : ℕ → ℕ → Bool
has_verdict operation verdict =
    if operation == TRY then (verdict == RIGHT) || (verdict == WRONG) else verdict == 0

-- the entry at a place, or the place of its first field that breaks a rule
unfoldable pub entry_at : List ℕ → ℕ → Result LogEntry WordsFault
entry_at bytes at =
    let e = entry_in bytes at in
    if nat_lt RESET e.operation then Err (BadWords at)
    else if nat_le 16384 e.label then Err (BadWords (at + 1))
    else if has_verdict e.operation e.verdict then
    (if nat_le (2 ^ 40) e.stamp.at then Err (BadWords (at + 76)) else Ok e)
    else Err (BadWords (at + 67))

-- the words that bytes hold with these entries
abbrev pub state_in : List ℕ → LogEntry → LogEntry → ChipState
state_in bytes newest older =
    record {
      keys = record { mac = take 32 (drop 1 bytes); enc = take 32 (drop 33 bytes) };
      boot = from_be_bytes w64 (take 8 (drop 65 bytes));
      start = from_be_bytes w64 (take 8 (drop 73 bytes));
      log = record { newest = newest; older = older };
    }

abbrev pub with_older : List ℕ → LogEntry → Result LogEntry WordsFault → Result (Option ChipState) WordsFault
with_older bytes newest (Err fault) = Err fault
with_older bytes newest (Ok older) =
    if bytes_eq (drop 249 bytes) (replicate 7 0) then Ok (Some (state_in bytes newest older)) else Err (BadWords 249)

abbrev pub with_newest : List ℕ → Result LogEntry WordsFault → Result (Option ChipState) WordsFault
with_newest bytes (Err fault) = Err fault
with_newest bytes (Ok newest) = with_older bytes newest (entry_at bytes 165)

-- nothing for a blank chip, else the words, or the place of the first field that breaks a rule
unfoldable pub words_at : List ℕ → Result (Option ChipState) WordsFault
words_at bytes =
    if bytes_eq bytes (replicate 256 0) then Ok None
    else if slice_index bytes 0 == 1 then
    (if from_be_bytes w64 (take 8 (drop 65 bytes)) == 0 then Err (BadWords 65)
    else if nat_le (2 ^ 40) (from_be_bytes w64 (take 8 (drop 73 bytes))) then Err (BadWords 73)
    else with_newest bytes (entry_at bytes 81))
    else Err (BadWords 0)
