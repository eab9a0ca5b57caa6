-- A run to which nothing outside gave a cause for a fault.
use Rattle.std.specs.Prelude.{◌≡◌, ◌⊎◌, ℕ, ◌+◌, ◌-◌, ◌^◌, ◌<◌, min, List, length, IsSomeAnd}
use Rattle.std.specs.List.{AllZip}
use Rattle.fault_count.specs.Causes.{Rose}
use Rattle.run_desk.specs.declared.desk.Client.{Client}
use Rattle.run_desk.specs.Desk.{DeskSeen, HandsOut}
use Rattle.home_opening.specs.declared.fault.HomeFault.{HomeFault}
use Rattle.home_opening.specs.declared.fault.HomeFault.TheVariants as faults
use Rattle.serve_words.specs.Words.{Asked}
use Rattle.serve_run.specs.Begun.{IsRefused}
use Rattle.serve_run.specs.Left.{LeftOver}
use Rattle.serve_run.specs.Outside.{Outside}

module _ {B S K C : Type 0} (outside : Outside B S K C) where
  -- fewer than 2^32 bytes are there, where the source tells them, or were taken
  abbrev pub StaysBelowLimit : S → S → Type 0
  StaysBelowLimit before after =
      IsSomeAnd (outside.left before) (λ input. length input < 2 ^ 32)
      ⊎ (outside.taken after < min (outside.taken before + 2 ^ 32) (2 ^ 64 - 1))

  -- neither count of the client rose, and its input is below the limit
  pub record IsQuietClient (before after : Client S K C) : Type 0 where
    pub source : ¬ Rose (outside.source_faults before.source) (outside.source_faults after.source)
    pub sink : ¬ Rose (outside.sink_faults before.sink) (outside.sink_faults after.sink)
    pub input : StaysBelowLimit before.source after.source

  -- No count of the desk or of a client rose, each input is below its limit, and a home over the board that was handed
  -- out is refused for want of memory alone.
  pub record IsQuiet (asked : Asked) (before after : DeskSeen B S K C) (left_over : LeftOver B S K C) : Type 0 where
    pub desk : ¬ Rose before.faults after.faults
    pub start : (fault : HomeFault) (left : B) → IsRefused outside asked before after fault left
        → fault ≡ faults.NoMemory
    pub clients : (handed : List (Client S K C)) → HandsOut before after handed
        → length handed ≡ length left_over.clients → AllZip IsQuietClient handed left_over.clients
