-- Why an opening fails.
use Rattle.std.specs.Prelude.{ℕ, List}
use Rattle.board_model.specs.Disk.{Disk}
use Rattle.cabinet.specs.Opening.{AreListed, AreTooMany}
use Rattle.cabinet.specs.declared.fault.CabinetFault.{CabinetFault}
use Rattle.cabinet.specs.declared.fault.CabinetFault.TheVariants.{Failed, TooMany, NoMemory}

-- of these files
abbrev pub IsFoundFault : List (List ℕ) → List (List ℕ) → ℕ → CabinetFault → Type 0
IsFoundFault files named most Failed = ⊥
IsFoundFault files named most (TooMany accounts names) = AreTooMany files named most accounts names
IsFoundFault files named most NoMemory = Unit {0}

-- of a board
abbrev pub IsOpenFault : Disk → List (List ℕ) → ℕ → CabinetFault → Type 0
IsOpenFault disk named most Failed = Unit {0}
IsOpenFault disk named most (TooMany accounts names) = (files : List (List ℕ)) × AreListed disk files × AreTooMany files named most accounts names
IsOpenFault disk named most NoMemory = Unit {0}
