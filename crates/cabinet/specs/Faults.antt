-- The faults of a cabinet.
use Rattle.board_model.specs.declared.board.BoardFault.{BoardFault}
use Rattle.board_model.specs.declared.board.BoardFault.TheVariants as boards
use Rattle.cabinet.specs.declared.fault.CabinetFault.{CabinetFault}
use Rattle.cabinet.specs.declared.fault.CabinetFault.TheVariants.{Failed, TooMany, NoMemory}

abbrev pub fault_of : BoardFault → CabinetFault
fault_of boards.Failed = Failed
fault_of boards.NoMemory = NoMemory

-- a read
abbrev pub IsReadFault : CabinetFault → Type 0
IsReadFault Failed = Unit {0}
IsReadFault (TooMany accounts names) = ⊥
IsReadFault NoMemory = Unit {0}
