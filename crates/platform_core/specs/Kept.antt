-- What records keep.
use Rattle.std.specs.Prelude.{ℕ, List}
use Rattle.cabinet.specs.Held as cabinets
use Rattle.share_api.specs.Contents.{Bytes}
use Rattle.platform_core.specs.Unsure.{Memory}
use Rattle.platform_core.specs.declared.records.Records.{Records}

module _ {B : Type 0} where
  abbrev pub board_of : Records B → B
  board_of records = cabinets.board_of records.cabinet

  abbrev pub accounts_of : Records B → List Bytes
  accounts_of records = cabinets.accounts_of records.cabinet

  abbrev pub names_of : Records B → List Bytes
  names_of records = cabinets.names_of records.cabinet

  abbrev pub most_of : Records B → ℕ
  most_of records = cabinets.most_of records.cabinet

  abbrev pub memory_of : Records B → Memory
  memory_of records = record { names = names_of records; unsure = records.unsure }
