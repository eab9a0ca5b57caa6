-- What a board's image shows of the platform with its chip.
use Rattle.std.specs.Prelude.{◌≡◌, ◌==◌, if◌then◌else◌, ℕ, ◌<◌, List, length, take, IsTrue, Ok}
use Rattle.std.specs.Prelude.{Option, None, Some, IsSome, option_map}
use Rattle.std.specs.FinMap.{get}
use Rattle.pw_chip.specs.State.{ChipState}
use Rattle.pw_chip.specs.WordsBytes.{IsWords, words_at, words_bytes}
use Rattle.pin_recovery.specs.Devices.{AreLeaves, AreInStep, record_at}
use Rattle.pin_recovery.specs.LeafCalls.{LeafOp, label_of, stepped}
use Rattle.platform_model.specs.Views.{Platform, view_of}
use Rattle.platform_model.specs.Steps.{Op, Asks, IsAllowedOp}
use Rattle.platform_model.specs.Crashes.{IsImageOf}
use Rattle.board_model.specs.Disk.{Image}
use Rattle.record_names.specs.Names.{is_account_name, leaf_name}
use Rattle.share_api.specs.Contents.{Bytes, Contents}
use Rattle.image_path.specs.Showing.{ByAccount}
use Rattle.platform_core.specs.Records.{IsRecordOf, account_at, AreDistinct}

-- each account stands once, and its name is an account's
pub record AreAccounts (accounts : List Bytes) : Type 0 where
  pub once : AreDistinct accounts
  pub named : (number : ℕ) → number < length accounts → IsTrue (is_account_name (account_at accounts number))

-- the leaf's record that an account has at a label
abbrev pub leaf_record : Platform → ℕ → ℕ → Option Bytes
leaf_record s number label =
    if s.owners label == number then record_at s.devices.words.keys (s.devices.leaves label) else None

-- The image has these words, these leaves' records and these other records, of each file at most the first 49,182
-- bytes. Temporary files say nothing, nor do files whose names are no record's of an account.
pub record Shows (accounts : List Bytes) (image : Image) (s : Platform) : Type 0 where
  pub words : words_at image.words ≡ Ok (Some s.devices.words)
  pub leaves : (number label : ℕ) → number < length accounts → label < 16384
      → get image.files (leaf_name (account_at accounts number) label) ≡ leaf_record s number label
  pub records : (number : ℕ) (q : Bytes) → IsRecordOf (account_at accounts number) q
      → get (s.records number) q ≡ option_map (take 49182) (get image.files q)
  pub only : (number : ℕ) (q : Bytes) → IsSome (get (s.records number) q)
      → IsRecordOf (account_at accounts number) q

-- The platform can be stored: its words in the 256 bytes of the chip's store, and each leaf in a record of its label.
-- Each used label is an account's, since a leaf of no account has no file, and no image would show it.
pub record IsStorable (accounts : List Bytes) (s : Platform) : Type 0 where
  pub words : IsWords s.devices.words
  pub leaves : AreLeaves s.devices.leaves
  pub owners : (label : ℕ) → IsSome (s.devices.leaves label) → s.owners label < length accounts

-- ---- steps

-- the image shows what a crash in the account's step may leave
abbrev pub ShowsImageOf : List Bytes → Image → Platform → ℕ → Op → ℕ → Type 0
ShowsImageOf accounts image s number op now = (q : Platform) × (IsImageOf s number op now q × Shows accounts image q)

-- The image shows a platform that is in step and whose words can be stored, and the call of this account may come.
pub record AwaitsCall (accounts : List Bytes) (image : Image) (s : Platform) (number : ℕ) (op : LeafOp) (now : ℕ)
    : Type 0 where
  pub names : AreAccounts accounts
  pub known : number < length accounts
  pub shown : Shows accounts image s
  pub words : IsWords s.devices.words
  pub in_step : AreInStep s.devices
  pub allowed : IsAllowedOp s number (Asks op) now

-- the words that the call stores
abbrev pub words_after : Platform → LeafOp → ℕ → Bytes
words_after s op now = words_bytes (stepped s.devices op now).words

-- the record that is put after it, or none where it is removed
abbrev pub record_after : Platform → LeafOp → ℕ → Option Bytes
record_after s op now =
    record_at (stepped s.devices op now).words.keys ((stepped s.devices op now).leaves (label_of op))

-- ---- what two platforms share

-- the devices are the same, and each account has the same of both
pub record AreAlike (one other : Platform) : Type 0 where
  pub devices : one.devices ≡ other.devices
  pub views : (number : ℕ) → view_of one number ≡ view_of other number

-- ---- a platform without leaves

-- the platform that has these words, no leaf, and each account's records among these contents
abbrev pub without_leaves : ChipState → ByAccount Contents → Platform
without_leaves w parts = record {
  devices = record { words = w; leaves = λ label. None };
  owners = λ label. 0;
  records = λ number. (parts number).records;
}
