-- What opening makes of the two devices as a crash left them.
use Rattle.std.specs.Prelude.{◌≡◌, ◌⊎◌, ℕ, ◌<◌, ◌^◌, None, List}
use Rattle.pw_path.specs.Tree.{aux_of, no_hash}
use Rattle.pw_leaf.specs.declared.keys.ChipKeys.{ChipKeys}
use Rattle.pw_chip.specs.State.{ChipState, booted}
use Rattle.pw_chip.specs.Calls.{Remove}
use Rattle.pw_chip.specs.Step.{step}
use Rattle.pw_chip.specs.Ledger.{with_leaf}
use Rattle.pw_chip.specs.Law.{values}
use Rattle.label_tree.specs.Values.{with_value}
use Rattle.pin_ops.specs.declared.answer.Resync.{Resync}
use Rattle.pin_ops.specs.declared.answer.Resync.TheVariants.{InStep, Inserted, Put, Removed, Emptied, Lost}
use Rattle.pin_ops.specs.Following.{values_by, IsFound}
use Rattle.pin_ops.specs.Resyncing.{resynced}
use Rattle.pin_recovery.specs.Devices.{Leaves, Devices, tree_of, record_at, held_in, AreInStep}

-- what a host with these records is answered
abbrev pub resync_of : Devices → Resync
resync_of d = resynced d.words (tree_of d) (record_at d.words.keys (d.leaves d.words.log.newest.label))

-- the leaves once the answer is carried out; an insert is undone
abbrev pub leaves_by : ChipKeys → Resync → Leaves → Leaves
leaves_by keys InStep leaves = leaves
leaves_by keys (Inserted label) leaves = leaves
leaves_by keys (Put label leaf) leaves = with_leaf leaves label (held_in keys leaf)
leaves_by keys (Removed label) leaves = with_leaf leaves label None
leaves_by keys Emptied leaves = λ label. None
leaves_by keys (Lost host chip) leaves = leaves

-- the words after an insert is undone: the chip removes the leaf of the newest entry's MAC
abbrev pub undone : ChipState → (ℕ → List ℕ) → ℕ → ℕ → ChipState
undone w values label now = (step w (Remove label (aux_of (with_value values label w.log.newest.mac) label) w.log.newest.mac) now).1

-- the words once the answer is carried out
abbrev pub words_by : ChipState → (ℕ → List ℕ) → Resync → ℕ → ChipState
words_by w values (Inserted label) now = undone w values label now
words_by w values _ now = w

-- the host's tree once the answer is carried out: an insert that is undone leaves its label empty
abbrev pub tree_by : Resync → List ℕ → (ℕ → List ℕ) → ℕ → List ℕ
tree_by (Inserted label) mac values = with_value (with_value values label mac) label no_hash
tree_by answer mac values = values_by answer mac values

-- the two devices after opening, at a moment
abbrev pub recovered : Devices → ℕ → Devices
recovered d now = record { words = words_by d.words (tree_of d) (resync_of d) now; leaves = leaves_by d.words.keys (resync_of d) d.leaves }

-- Opening these two devices brings them in step, with these leaves and their tree.
pub record Recovers (d : Devices) (leaves : Leaves) : Type 0 where
  pub found : IsFound (resync_of d)
  pub gives : leaves_by d.words.keys (resync_of d) d.leaves ≡ leaves
  pub tree : tree_by (resync_of d) d.words.log.newest.mac (tree_of d) ≡ values d.words.keys leaves
  pub in_step : (now : ℕ) → now < 2 ^ 40 → AreInStep (recovered d now)

-- the words are stored, and the record isn't yet put or removed
abbrev pub between : Devices → Devices → Devices
between old new = record { words = new.words; leaves = old.leaves }

-- After the step both devices are in step. A crash before, between or after its two writes leaves what opens to the leaves before the
-- step or after it.
pub record IsCrashAtomic (old new : Devices) : Type 0 where
  pub after : AreInStep new
  pub first : Recovers old old.leaves
  pub middle : Recovers (between old new) old.leaves ⊎ Recovers (between old new) new.leaves
  pub last : Recovers new new.leaves

-- ---- opening and settling

-- the boot is counted, and the words are stored
abbrev pub booted_devices : Devices → ℕ → Devices
booted_devices d moment = record { words = booted d.words moment; leaves = d.leaves }

-- What a crash in opening leaves, at this moment: the boot isn't stored yet, or it is, or the replay is carried out too. A replay
-- that is carried out is one write: a record's put or removal, or the words in which an insert is undone.
abbrev pub IsOpeningImage : Devices → ℕ → Devices → Type 0
IsOpeningImage d moment image = (image ≡ d) ⊎ ((image ≡ booted_devices d moment) ⊎ (image ≡ recovered (booted_devices d moment) moment))

-- What a crash in settling leaves after a step that failed between its two writes or in one of them. Settling knows the leaves before the
-- step, whatever the records are.
abbrev pub IsSettlingImage : Devices → Devices → ℕ → Devices → Type 0
IsSettlingImage old new moment image =
    (image ≡ old) ⊎ ((image ≡ between old new) ⊎ ((image ≡ new) ⊎ (image ≡ recovered (between old new) moment)))

-- opening gives the leaves before the step or after it
abbrev pub RecoversEither : Devices → Devices → Devices → Type 0
RecoversEither old new d = Recovers d old.leaves ⊎ Recovers d new.leaves

-- what settling leaves: both devices in step, with the leaves before the step or after it
pub record IsSettled (old new d : Devices) : Type 0 where
  pub in_step : AreInStep d
  pub leaves : (d.leaves ≡ old.leaves) ⊎ (d.leaves ≡ new.leaves)
