-- The writes of opening.
use Rattle.std.specs.Prelude.{◌≡◌, ◌⊎◌, ℕ, Some, None, List}
use Rattle.board_model.specs.Disk.{Image}
use Rattle.staged_file.specs.Staged.{Kept, Replaced}
use Rattle.leaf_writes.specs.Writes.{StoredAlone}
use Rattle.record_names.specs.Names.{leaf_name}
use Rattle.share_api.specs.Contents.{Bytes}
use Rattle.platform_core.specs.Records.{account_at}
use Rattle.pw_leaf.specs.Reading.{mac_of}
use Rattle.pw_chip.specs.State.{booted}
use Rattle.pw_chip.specs.WordsBytes.{words_bytes}
use Rattle.pin_ops.specs.declared.answer.Resync.{Resync}
use Rattle.pin_ops.specs.declared.answer.Resync.TheVariants.{InStep, Inserted, Put, Removed, Emptied, Lost}
use Rattle.pin_recovery.specs.Devices.{Devices, tree_of, record_at}
use Rattle.pin_recovery.specs.Recovery.{undone, resync_of, booted_devices, IsOpeningImage}
use Rattle.platform_model.specs.Views.{Platform}
use Rattle.platform_images.specs.Shown.{Shows, IsStorable}

-- the platform with other devices
abbrev pub with_devices : Platform → Devices → Platform
with_devices s d = record s { devices = d }

-- the record of the leaf at a label, of the account whose the label is
abbrev pub owned_name : List Bytes → Platform → ℕ → Bytes
owned_name accounts s label = leaf_name (account_at accounts (s.owners label)) label

-- The answer of a resync is carried out by one write: the replayed record is put, or the record is removed, or the
-- words are stored in which an insert is undone. Nothing is written where the host is in step or lost. What a reset of
-- the tree asks for isn't told of here, since the platform makes no such call.
abbrev pub CarriesOut : List Bytes → Platform → ℕ → Resync → Image → Image → Type 0
CarriesOut accounts s now InStep old new = Kept old new
CarriesOut accounts s now (Inserted label) old new =
    StoredAlone (words_bytes (undone s.devices.words (tree_of s.devices) label now)) old new
CarriesOut accounts s now (Put label leaf) old new = Replaced (owned_name accounts s label) (Some leaf) old new
CarriesOut accounts s now (Removed label) old new = Replaced (owned_name accounts s label) None old new
CarriesOut accounts s now Emptied old new = ⊥
CarriesOut accounts s now (Lost host chip) old new = Kept old new

-- What the two writes of opening may leave: neither is done, the words of the counted boot are stored alone, or the
-- answer of the resync after it is carried out too.
abbrev pub OpensPartly : List Bytes → Platform → ℕ → Image → Image → Type 0
OpensPartly accounts s moment old new =
    let boot = words_bytes (booted s.devices.words moment) in
    let d = booted_devices s.devices moment in
    Kept old new
    ⊎ StoredAlone boot old new
    ⊎ ((middle : Image) × StoredAlone boot old middle
    × CarriesOut accounts (with_devices s d) moment (resync_of d) middle new)

-- the image shows the platform with what a crash in opening may leave of its devices, and that can be stored
pub record ShowsOpening (accounts : List Bytes) (image : Image) (s : Platform) (moment : ℕ) : Type 0 where
  pub left : Devices
  pub is : IsOpeningImage s.devices moment left
  pub shown : Shows accounts image (with_devices s left)
  pub storable : IsStorable accounts (with_devices s left)

-- ---- what opening reads

-- the bytes are the record of the account's leaf at the label, and its MAC is the tree's value there
pub record IsLeafOf (s : Platform) (number label : ℕ) (bytes : Bytes) : Type 0 where
  pub owner : s.owners label ≡ number
  pub leaf : record_at s.devices.words.keys (s.devices.leaves label) ≡ Some bytes
  pub value : tree_of s.devices label ≡ mac_of bytes
