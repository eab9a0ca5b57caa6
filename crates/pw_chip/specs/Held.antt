-- What the code keeps of a leaf that it opened.
use Rattle.std.specs.Prelude.{◌≡◌, ℕ, ◌<◌, ◌≤◌, ◌^◌, ◌↔◌, List}
use Rattle.pw_path.specs.Path.{root_of}
use Rattle.pw_log.specs.declared.entry.LogEntry.{LogEntry}
use Rattle.pw_log.specs.declared.entry.TheConstants.{RESET, TRY, WRONG}
use Rattle.pw_leaf.specs.Contents.{Contents, contents_of}
use Rattle.pw_leaf.specs.Reading.{iv_in, mac_of}
use Rattle.pw_chip.specs.declared.open.Opened.{Opened}
use Rattle.pw_chip.specs.State.{ChipState}

-- the contents of the record that was opened
abbrev pub held : Opened → Contents
held opened = contents_of opened.leaf (iv_in opened.bytes)

-- the entry of a call that leaves this record at the label
abbrev pub entry_of : ChipState → ℕ → ℕ → ℕ → List (List (List ℕ)) → List ℕ → ℕ → LogEntry
entry_of w operation verdict label aux leaf now =
    record { operation = operation; label = label; root = root_of label (mac_of leaf) aux; mac = mac_of leaf; verdict = verdict; stamp = record { boot = w.boot; at = now } }

-- an operation with its verdict, at a moment, that an entry can have
pub record CanNote (operation verdict now : ℕ) : Type 0 where
  pub known : operation ≤ RESET
  pub judged : verdict ≤ WRONG
  pub tried : (1 ≤ verdict) ↔ (operation ≡ TRY)
  pub timely : now < 2 ^ 40
