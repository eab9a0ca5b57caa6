-- The two devices: a chip's words, and the leaf records that the host keeps, here by what they hold.
use Rattle.std.specs.Prelude.{◌≡◌, ℕ, ◌<◌, ◌^◌, Option, Some, None, List, [], Result, Ok, Err}
use Rattle.pw_path.specs.Tree.{root}
use Rattle.pw_leaf.specs.declared.keys.ChipKeys.{ChipKeys}
use Rattle.pw_leaf.specs.declared.fault.LeafFault.{LeafFault}
use Rattle.pw_leaf.specs.Contents.{Contents, IsContents}
use Rattle.pw_leaf.specs.LeafBytes.{leaf_bytes}
use Rattle.pw_leaf.specs.Reading.{check_at}
use Rattle.pw_chip.specs.State.{ChipState}
use Rattle.pw_chip.specs.Law.{values}

-- what each label's leaf record holds, where it has one
abbrev pub Leaves : Type 0
Leaves = ℕ → Option Contents

-- a chip, and the records beside it
pub record Devices : Type 0 where
  pub words : ChipState
  pub leaves : Leaves

-- the values of the host's tree: each label has its record's MAC
abbrev pub tree_of : Devices → ℕ → List ℕ
tree_of d = values d.words.keys d.leaves

-- the bytes of a leaf record; no bytes where there is none
abbrev pub record_of : ChipKeys → Option Contents → List ℕ
record_of keys None = []
record_of keys (Some x) = leaf_bytes keys x

-- the same, where there is one
abbrev pub record_at : ChipKeys → Option Contents → Option (List ℕ)
record_at keys None = None
record_at keys (Some x) = Some (leaf_bytes keys x)

-- what a record is read as
abbrev pub read_by : Result Contents LeafFault → Option Contents
read_by (Ok x) = Some x
read_by (Err fault) = None

-- what the bytes of a record hold, if it is one
abbrev pub held_in : ChipKeys → List ℕ → Option Contents
held_in keys bytes = read_by (check_at keys bytes)

-- each record is one, and of its label
pub record AreLeaves (leaves : Leaves) : Type 0 where
  pub each : (label : ℕ) (x : Contents) → leaves label ≡ Some x → IsContents x
  pub labels : (label : ℕ) (x : Contents) → leaves label ≡ Some x → x.label ≡ label

-- the root of the records' tree is the chip's
pub record AreInStep (d : Devices) : Type 0 where
  pub leaves : AreLeaves d.leaves
  pub root : d.words.log.newest.root ≡ root (tree_of d)
  pub boot : d.words.boot < 2 ^ 64
