-- What a chip keeps: its words as data.
use Rattle.std.specs.Prelude.{◌≡◌, ℕ, ◌+◌, ◌-◌, ◌^◌, min, List}
use Rattle.pw_path.specs.Tree.{root, no_hash}
use Rattle.pw_log.specs.declared.entry.LogEntry.{LogEntry}
use Rattle.pw_log.specs.declared.entry.TheConstants.{BLANK, NO_VERDICT}
use Rattle.pw_log.specs.Pair.{Entries}
use Rattle.pw_leaf.specs.declared.keys.ChipKeys.{ChipKeys}
use Rattle.pw_leaf.specs.Contents.{no_stamp}

-- the keys, the number of the present boot and the moment at which it began, and the log of two
pub record ChipState : Type 0 where
  pub keys : ChipKeys
  pub boot : ℕ
  pub start : ℕ
  pub log : Entries

-- the root of the tree in which no label is used
unfoldable pub empty_root : List ℕ
empty_root = root (λ label. no_hash)

-- an entry that stands for no call
abbrev pub blank_entry : LogEntry
blank_entry = record { operation = BLANK; label = 0; root = empty_root; mac = no_hash; verdict = NO_VERDICT; stamp = no_stamp }

-- a new chip
abbrev pub new_state : ChipKeys → ChipState
new_state keys = record { keys = keys; boot = 0; start = 0; log = record { newest = blank_entry; older = blank_entry } }

-- the next boot, at a moment; the number stays at its end
abbrev pub booted : ChipState → ℕ → ChipState
booted w moment = record w { boot = min (w.boot + 1) (2 ^ 64 - 1); start = moment }

-- the keys and the boot stay
pub record IsSameEra (before after : ChipState) : Type 0 where
  pub keys : after.keys ≡ before.keys
  pub boot : after.boot ≡ before.boot
  pub start : after.start ≡ before.start
