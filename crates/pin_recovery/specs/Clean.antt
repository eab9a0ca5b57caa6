-- The premise on hashes for one call: its inputs are those of the tree before it and of the tree after it.
use Rattle.std.specs.Prelude.{◌⊎◌, ℕ, List}
use Rattle.pw_path.specs.Path.{OnTree, HasNoCollision}
use Rattle.pw_leaf.specs.declared.keys.ChipKeys.{ChipKeys}
use Rattle.pw_chip.specs.Law.{values, InLeaves, HasNoMacCollision}
use Rattle.pin_recovery.specs.Devices.{Leaves}

-- what is hashed for either tree
abbrev pub OnEither : ChipKeys → Leaves → Leaves → List ℕ → Type 0
OnEither keys old new input = OnTree (values keys old) input ⊎ OnTree (values keys new) input

-- what either tree's MACs are over
abbrev pub InEither : ChipKeys → Leaves → Leaves → List ℕ → Type 0
InEither keys old new input = InLeaves keys old input ⊎ InLeaves keys new input

-- of these no two have one hash or one MAC, and none has a MAC of zero bytes
pub record IsCleanBetween (keys : ChipKeys) (old new : Leaves) : Type 0 where
  pub hashes : HasNoCollision (OnEither keys old new)
  pub macs : HasNoMacCollision keys.mac (InEither keys old new)
