-- Where a reader's fault is.
use Rattle.std.specs.Prelude.{ℕ}
use Rattle.ct_bytes.specs.declared.fault.ByteFault.{ByteFault}
use Rattle.ct_bytes.specs.declared.fault.ByteFault.TheVariants.{Short, Trailing, TooLong}

-- the number of bytes before the missing piece, or before the first byte too many
abbrev pub place_of : ByteFault → ℕ
place_of (Short place) = place
place_of (Trailing place) = place
place_of TooLong = 0
