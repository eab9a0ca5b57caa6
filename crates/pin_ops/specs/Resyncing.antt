-- How a host finds what it lacks: it asks the log with its tree's root, and redoes at most the newest entry.
use Rattle.std.specs.Prelude.{ℕ, Option, Some, None, List, bytes_eq, nat_le, unwrap_or, ◌==◌, ◌||◌, if◌then◌else◌}
use Rattle.pw_path.specs.Tree.{root, aux_of, no_hash}
use Rattle.pw_log.specs.declared.entry.LogEntry.{LogEntry}
use Rattle.pw_log.specs.declared.entry.TheConstants.{INSERT, REMOVE, RESET_TREE, TRY, RESET}
use Rattle.pw_log.specs.declared.answer.LogAnswer.TheVariants.{One}
use Rattle.pw_leaf.specs.Reading.{mac_of}
use Rattle.pw_chip.specs.declared.reply.Reply.{Reply}
use Rattle.pw_chip.specs.declared.reply.Reply.TheVariants as reply
use Rattle.pw_chip.specs.State.{ChipState}
use Rattle.pw_chip.specs.Step.{replay_step}
use Rattle.label_tree.specs.Values.{used_below}
use Rattle.log_replay.specs.Replaying.{plan_of, applied}
use Rattle.pin_ops.specs.declared.answer.Resync.{Resync}
use Rattle.pin_ops.specs.declared.answer.Resync.TheVariants.{InStep, Inserted, Put, Removed, Emptied, Lost}

-- nothing can be redone here
abbrev pub lost : ChipState → (ℕ → List ℕ) → Resync
lost w values = Lost (root values) w.log.newest.root

-- the values once the newest entry is replayed
abbrev pub redone : ChipState → (ℕ → List ℕ) → ℕ → List ℕ
redone w values = applied (plan_of (One w.log.newest)) values

-- ---- what the newest entry asks of the host's records

-- the record that a Replay gives
abbrev pub replayed : Reply → Option (List ℕ)
replayed (reply.Replayed leaf) = Some leaf
replayed _ = None

-- what the chip's Replay gives for the record at the entry's label
abbrev pub replay_of : ChipState → (ℕ → List ℕ) → Option (List ℕ) → Option (List ℕ)
replay_of w values None = None
replay_of w values (Some leaf) = replayed (replay_step w w.log.newest.label (aux_of values w.log.newest.label) leaf).0

-- a record with the entry's MAC is put
abbrev pub put_if_noted : LogEntry → Option (List ℕ) → Option Resync
put_if_noted entry None = None
put_if_noted entry (Some record_) = if bytes_eq (mac_of record_) entry.mac then Some (Put entry.label record_) else None

-- what is missing where the newest entry is, if it can be redone; `leaf` is the record at its label
unfoldable pub missing : ChipState → (ℕ → List ℕ) → Option (List ℕ) → Option Resync
missing w values leaf =
    if w.log.newest.operation == INSERT then
    (if bytes_eq (values w.log.newest.label) no_hash then Some (Inserted w.log.newest.label) else None)
    else if w.log.newest.operation == REMOVE then Some (Removed w.log.newest.label)
    else if w.log.newest.operation == RESET_TREE then (if nat_le (used_below values 16384) 1 then Some Emptied else None)
    else if (w.log.newest.operation == TRY) || (w.log.newest.operation == RESET) then put_if_noted w.log.newest (replay_of w values leaf)
    else None

-- ---- the whole

-- a host that lacks the newest entry redoes it where that can be done and gives the newest root
abbrev pub redo : ChipState → (ℕ → List ℕ) → Option (List ℕ) → Resync
redo w values leaf =
    if bytes_eq (root (redone w values)) w.log.newest.root then unwrap_or (missing w values leaf) (lost w values)
    else lost w values

-- The newest root is tested first, so that an entry that the host has is never redone.
unfoldable pub resynced : ChipState → (ℕ → List ℕ) → Option (List ℕ) → Resync
resynced w values leaf =
    if bytes_eq w.log.newest.root (root values) then InStep
    else if bytes_eq w.log.older.root (root values) then redo w values leaf
    else lost w values

-- the label whose leaf a try or a reset changed
abbrev pub changed_label : LogEntry → Option ℕ
changed_label entry = if (entry.operation == TRY) || (entry.operation == RESET) then Some entry.label else None

-- the label whose record is needed
abbrev pub needed : ChipState → (ℕ → List ℕ) → Option ℕ
needed w values =
    if bytes_eq w.log.newest.root (root values) then None
    else if bytes_eq w.log.older.root (root values) then changed_label w.log.newest
    else None
