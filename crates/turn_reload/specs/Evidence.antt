-- What is read to tell two possible durable parts apart.
use Rattle.std.specs.Prelude.{◌≡◌, ◌≢◌, ℕ, Bool, true, false, Option, None, Some, Result, Ok, Err, option_map}
use Rattle.std.specs.FinMap.{get}
use Rattle.account_machine.specs.declared.entry.Told.{Told}
use Rattle.account_machine.specs.declared.entry.Told.TheVariants as told_as
use Rattle.record_names.specs.Names.{AreParts, File, file_name}
use Rattle.share_api.specs.Contents.{Bytes, Contents}
use Rattle.share_api.specs.Steps.{view_of}
use Rattle.share_api.specs.declared.leaf.LeafView.{LeafView}
use Rattle.stash_format.specs.declared.contents.Contents.{Contents as Stash}
use Rattle.stored_home.specs.declared.fault.StoreFault.{StoreFault}
use Rattle.stored_home.specs.declared.stored.Stored.{Stored}
use Rattle.user_state.specs.Fits.{tally_in}
use Rattle.user_state.specs.declared.state.Doubt.{Doubt}
use Rattle.user_state.specs.declared.state.Doubt.TheVariants.{Editions, File as OfFile, Leaf as OfLeaf}

-- what the doubt asks for can be read of a share whose tree has these roots, where it is lost
abbrev pub CanTell : Doubt → Bytes → Option (Bytes × Bytes) → Type 0
CanTell Editions account lost = Unit {0}
CanTell (OfFile name bytes) account lost = AreParts (File account name)
CanTell (OfLeaf label tree view) account lost = lost ≡ None

-- whether the file has another record than this one
abbrev pub TellsRecord : Bytes → Bytes → Bytes → Result Bool StoreFault → Contents → Type 0
TellsRecord account name bytes (Ok true) contents = get contents.records (file_name account name) ≢ Some bytes
TellsRecord account name bytes (Ok false) contents = get contents.records (file_name account name) ≡ Some bytes
TellsRecord account name bytes (Err fault) contents = Unit {0}

-- whether the leaf shows this
abbrev pub TellsShown : ℕ → LeafView → Result Bool StoreFault → Contents → Type 0
TellsShown tree view (Ok true) contents = option_map view_of (get contents.leaves tree) ≡ Some view
TellsShown tree view (Ok false) contents = option_map view_of (get contents.leaves tree) ≢ Some view
TellsShown tree view (Err fault) contents = Unit {0}

-- whether the editions are those of the stash before
abbrev pub TellsEditions : Option Stash → Option Stash → Result Bool StoreFault → Type 0
TellsEditions before now (Ok true) = tally_in before ≡ tally_in now
TellsEditions before now (Ok false) = tally_in before ≢ tally_in now
TellsEditions before now (Err fault) = Unit {0}

-- whether what is read is what the first of the durable parts shows
abbrev pub Tells : Doubt → Bytes → Option Stash → Stored → Result Bool StoreFault → Contents → Type 0
Tells Editions account before stored result contents = TellsEditions before stored.stash result
Tells (OfFile name bytes) account before stored result contents = TellsRecord account name bytes result contents
Tells (OfLeaf label tree view) account before stored result contents = TellsShown tree view result contents

-- the same, as a reload tells it
abbrev pub Says : Doubt → Bytes → Option Stash → Stored → Result Told StoreFault → Contents → Type 0
Says doubt account before stored (Ok told_as.Before) contents = Tells doubt account before stored (Ok true) contents
Says doubt account before stored (Ok told_as.After) contents = Tells doubt account before stored (Ok false) contents
Says doubt account before stored (Ok told_as.Settled) contents = ⊥
Says doubt account before stored (Ok told_as.Failed) contents = ⊥
Says doubt account before stored (Err fault) contents = Unit {0}
