-- The faults of a stash.
use Rattle.std.specs.Prelude.{◌≡◌, Result, Ok, Err}
use Rattle.sealed_text.specs.declared.fault.OpenFault.{OpenFault}
use Rattle.sealed_text.specs.declared.fault.OpenFault.TheVariants as opening
use Rattle.stash_format.specs.declared.fault.RecordFault.{RecordFault}
use Rattle.stash_format.specs.declared.fault.RecordFault.TheVariants as reading
use Rattle.secret_stash.specs.declared.fault.StashFault.{StashFault}
use Rattle.secret_stash.specs.declared.fault.StashFault.TheVariants.{BadStash, NoBlock, BadTag, NoMemory}

-- a record's fault
abbrev pub told_record : RecordFault → StashFault
told_record (reading.BadStash place) = BadStash place
told_record reading.NoMemory = NoMemory

-- a fault of opening
abbrev pub told_open : OpenFault → StashFault
told_open opening.BadTag = BadTag
told_open opening.NoMemory = NoMemory

-- the fault is the one that the record's bytes have, or there was no memory
abbrev pub Refuses : {A : Type 0} → StashFault → Result A RecordFault → Type 0
Refuses (BadStash place) read = read ≡ Err (reading.BadStash place)
Refuses NoMemory read = Unit {0}
Refuses NoBlock read = ⊥
Refuses BadTag read = ⊥

-- the result is this one, unless there was no memory
abbrev pub Gives : {A : Type 0} → Result A StashFault → Result A StashFault → Type 0
Gives (Ok x) given = given ≡ Ok x
Gives (Err (BadStash place)) given = given ≡ Err (BadStash place)
Gives (Err NoBlock) given = given ≡ Err NoBlock
Gives (Err BadTag) given = given ≡ Err BadTag
Gives (Err NoMemory) given = Unit {0}
