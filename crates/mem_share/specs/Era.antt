-- The era of a share in memory.
use Rattle.pw_types.specs.declared.era.Era.{Era}

abbrev pub mem_era : Era
mem_era = record { boot = 1; start = 0 }
