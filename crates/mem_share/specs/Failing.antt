-- Which replies say that the device failed.
use Rattle.std.specs.Prelude.{Bool, true, false}
use Rattle.share_api.specs.declared.step.Reply.{Reply}
use Rattle.share_api.specs.declared.step.Reply.TheVariants.{Done, Found, Listed, Labelled, Tried, Fits, Viewed, TreeLost, Damaged, Failed, NoMemory}

abbrev pub is_failed : Reply → Bool
is_failed Failed = true
is_failed Done = false
is_failed (Found bytes) = false
is_failed (Listed listing) = false
is_failed (Labelled label) = false
is_failed (Tried answer) = false
is_failed (Fits fits) = false
is_failed (Viewed view) = false
is_failed TreeLost = false
is_failed Damaged = false
is_failed NoMemory = false
