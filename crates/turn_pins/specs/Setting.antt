-- A PIN is added, or gets another secret.
use Rattle.std.specs.Prelude.{◌≡◌, ℕ, Some, Result, Ok, Err, List, option_map}
use Rattle.std.specs.FinMap.{get}
use Rattle.home_recovery.specs.Reading.{AreReads}
use Rattle.pin_edits.specs.Pins.{ComesToNothing}
use Rattle.pin_edits.specs.declared.pin_stash.NewPin.{NewPin}
use Rattle.record_names.specs.Names.{leaf_name}
use Rattle.share_api.specs.Contents.{Bytes, Contents}
use Rattle.share_api.specs.Seen.{ShareSeen, Runs}
use Rattle.share_api.specs.Steps.{view_of}
use Rattle.share_api.specs.declared.leaf.LeafView.{LeafView}
use Rattle.share_api.specs.declared.step.Step.{Step}
use Rattle.stored_home.specs.declared.fault.StoreFault.{StoreFault}
use Rattle.stored_home.specs.declared.fault.StoreFault.TheVariants.{Failed, Damaged, NoMemory, TreeLost}

-- the new PIN has the schedule of the leaf at this label
abbrev pub HasItsSchedule : ℕ → NewPin → Contents → Type 0
HasItsSchedule tree pin contents =
    (view : LeafView) × (Some view ≡ option_map view_of (get contents.leaves tree)) × (pin.schedule ≡ view.schedule)

-- and so it is told of the contents
abbrev pub TellsSchedule : ℕ → Result NewPin StoreFault → Contents → Type 0
TellsSchedule tree (Ok pin) contents = HasItsSchedule tree pin contents
TellsSchedule tree (Err fault) contents = Unit {0}

-- the faults of making a PIN with the schedule of the leaf at this label
abbrev pub IsRenewFault : Bytes → ℕ → StoreFault → Type 0
IsRenewFault account tree Failed = Unit {0}
IsRenewFault account tree (Damaged name) = name ≡ leaf_name account tree
IsRenewFault account tree NoMemory = Unit {0}
IsRenewFault account tree (TreeLost host chip) = ⊥

-- The share made reads, and then no step, or it inserted a leaf and removed it again.
pub record OnlyReads (old new : ShareSeen) : Type 0 where
  pub mid : ShareSeen
  pub steps : List Step
  pub runs : Runs old mid steps
  pub reads : AreReads steps
  pub nothing : ComesToNothing mid new
