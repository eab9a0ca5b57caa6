-- The platform as data, and what one account has of it.
use Rattle.std.specs.Prelude.{ℕ, Option, None, List, option_map, ◌==◌, if◌then◌else◌}
use Rattle.std.specs.Ordering.{nat_cmp}
use Rattle.std.specs.Cmp.Lexicographic.{slice_cmp}
use Rattle.std.specs.FinMap.{FinMap}
use Rattle.pw_types.specs.declared.stamp.Stamp.{Stamp}
use Rattle.pw_leaf.specs.Contents.{Contents}
use Rattle.pin_recovery.specs.Devices.{Leaves, Devices}
use Rattle.pw_types.specs.declared.era.Era.{Era}

-- records by name
abbrev pub Records : Type 0
Records = FinMap (slice_cmp nat_cmp) (List ℕ)

-- the two devices, whose each used label is, and each account's records beside its leaves
pub record Platform : Type 0 where
  pub devices : Devices
  pub owners : ℕ → ℕ
  pub records : ℕ → Records

-- a leaf in plain: what opening the record under the words' keys gives, but its label and counter block
pub record PlainLeaf : Type 0 where
  pub les : List ℕ
  pub hes : List ℕ
  pub reset : List ℕ
  pub schedule : List (ℕ × ℕ)
  pub wrong : ℕ
  pub last : Stamp

-- a leaf without what the chip alone knows
abbrev pub plain : Contents → PlainLeaf
plain x = record { les = x.les; hes = x.hes; reset = x.reset; schedule = x.schedule; wrong = x.wrong; last = x.last }

-- an account's contents
pub record View : Type 0 where
  pub records : Records
  pub leaves : ℕ → Option PlainLeaf

-- the leaf at a label, where the label is the account's
abbrev pub owned : (ℕ → ℕ) → Leaves → ℕ → ℕ → Option PlainLeaf
owned owners leaves account label = if owners label == account then option_map plain (leaves label) else None

-- what an account has of the platform
abbrev pub view_of : Platform → ℕ → View
view_of s account = record { records = s.records account; leaves = owned s.owners s.devices.leaves account }

-- the era of the devices
abbrev pub era_of : Platform → Era
era_of s = record { boot = s.devices.words.boot; start = s.devices.words.start }
