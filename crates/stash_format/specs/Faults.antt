-- The faults of a stash's record, and how those of its fields are told.
use Rattle.std.specs.Prelude.{◌≡◌, Result, Err}
use Rattle.ct_bytes.specs.Fault.{place_of}
use Rattle.ct_bytes.specs.declared.fault.ByteFault.{ByteFault}
use Rattle.record_fields.specs.declared.fault.BadField.{BadField}
use Rattle.stash_format.specs.declared.fault.RecordFault.{RecordFault}
use Rattle.stash_format.specs.declared.fault.RecordFault.TheVariants.{BadStash, NoMemory}

abbrev pub bad_at : ByteFault → RecordFault
bad_at fault = BadStash (place_of fault)

abbrev pub bad_field : BadField → RecordFault
bad_field field = BadStash field.0

-- reading is refused so, unless there was no memory
abbrev pub Refuses : {A : Type 0} → RecordFault → Result A RecordFault → Type 0
Refuses (BadStash place) read = read ≡ Err (BadStash place)
Refuses NoMemory read = Unit {0}
