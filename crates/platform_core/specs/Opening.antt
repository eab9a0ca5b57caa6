-- Why an opening fails.
use Rattle.std.specs.Prelude.{◌≡◌, ℕ, ◌<◌, List, length}
use Rattle.board_model.specs.Disk.{Disk}
use Rattle.cabinet.specs.Opening.{AreListed, AreRead, accounts_found}
use Rattle.platform_core.specs.declared.fault.OpenFault.{OpenFault}
use Rattle.platform_core.specs.declared.fault.OpenFault.TheVariants.{Failed, TooMany, NoMemory}

-- so many accounts are named or found among the files, and that is too many
pub record AreTooMany (disk : Disk) (named : List (List ℕ)) (accounts : ℕ) : Type 0 where
  pub files : List (List ℕ)
  pub names : List (List ℕ)
  pub listed : AreListed disk files
  pub read : AreRead files names
  pub accounts_are : accounts ≡ length (accounts_found named names)
  pub many : 64 < accounts

abbrev pub IsOpenFault : Disk → List (List ℕ) → OpenFault → Type 0
IsOpenFault disk named Failed = Unit {0}
IsOpenFault disk named (TooMany accounts) = AreTooMany disk named accounts
IsOpenFault disk named NoMemory = Unit {0}
