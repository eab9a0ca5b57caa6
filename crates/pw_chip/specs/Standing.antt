-- A leaf that stands at a label, in the tree of a root.
use Rattle.std.specs.Prelude.{◌≡◌, ℕ, ◌<◌, Option, Some, List}
use Rattle.pw_path.specs.Tree.{root, aux_of}
use Rattle.pw_leaf.specs.declared.keys.ChipKeys.{ChipKeys}
use Rattle.pw_leaf.specs.Contents.{Contents, IsContents}
use Rattle.pw_chip.specs.Law.{values}

-- the root is that of these leaves, and this one is at the label
pub record Stands (keys : ChipKeys) (leaves : ℕ → Option Contents) (tree_root : List ℕ) (label : ℕ) (x : Contents) : Type 0 where
  pub small : label < 16384
  pub there : leaves label ≡ Some x
  pub contents : IsContents x
  pub own : x.label ≡ label
  pub root : tree_root ≡ root (values keys leaves)

-- the label's true path in the tree of these leaves
abbrev pub true_path : ChipKeys → (ℕ → Option Contents) → ℕ → List (List (List ℕ))
true_path keys leaves label = aux_of (values keys leaves) label
