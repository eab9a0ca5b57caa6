-- What a step does, and what stands after a list of steps.
use Rattle.std.specs.Prelude.{◌≡◌, ◌≢◌, ◌⊎◌, ◌≤◌, ℕ, List, [], None, Some, IsSome, IfSome, Bool, false}
use Rattle.std.specs.FinMap.{empty}
use Rattle.board_model.specs.Disk.{Image, Disk, Goes, Unchanged}
use Rattle.cabinet.specs.Edits.{Edits, After, Agrees, IsSettled}
use Rattle.pw_types.specs.declared.era.Era.{Era}
use Rattle.share_api.specs.Contents.{Bytes, Contents}
use Rattle.share_api.specs.Steps.{Does}
use Rattle.share_api.specs.declared.step.Op.{Op}
use Rattle.share_api.specs.declared.step.Reply.{Reply}
use Rattle.share_api.specs.declared.step.Reply.TheVariants.{Failed}
use Rattle.share_api.specs.declared.step.Step.{Step}
use Rattle.image_path.specs.Showing.{ByAccount, StepGoes}
use Rattle.image_path.specs.Paths.{Stands, StandsSince}
use Rattle.platform_core.specs.Records.{Shows, OthersKept}
use Rattle.platform_core.specs.Picks.{AreFewer}
use Rattle.platform_core.specs.Unsure.{Memory, NamesKnown}
use Rattle.platform_core.specs.Asked.{edits_of, Tells}

-- the board tells its content
abbrev pub IsTold : Disk → Type 0
IsTold disk = IsSome disk.now

-- The board tells its content. Once the directory is synced each image has it, and where no step has failed
-- since the board was last settled, each image has it already. The names are those of the records that are
-- there, and besides only unsure ones.
pub record IsRight (disk : Disk) (memory : Memory) (unsettled : Bool) : Type 0 where
  pub now : Image
  pub told : disk.now ≡ Some now
  pub agrees : Agrees disk
  pub settled : unsettled ≡ false → IsSettled disk
  pub named : NamesKnown now memory

abbrev pub number_of : Step → ℕ
number_of step = step.account

-- What a step's own work does to the board and to the names, and what its reply tells.
pub record Answers (account : Bytes) (old new : Disk) (before after : Memory) (op : Op) (reply : Reply) : Type 0 where
  pub edits : Edits old new (edits_of op) (reply ≢ Failed)
  pub done_or_not : Goes old new (After []) ⊎ Goes old new (After (edits_of op))
  pub agrees : Agrees old → Agrees new
  pub named : (now then : Image) → old.now ≡ Some now → new.now ≡ Some then → NamesKnown now before
      → NamesKnown then after
  pub tells : (now : Image) → old.now ≡ Some now → NamesKnown now before → Tells account op reply now

-- the board was read, and no name was added
pub record Looked (old new : Disk) (before after : Memory) : Type 0 where
  pub unchanged : Unchanged old new
  pub known : (now : Image) → old.now ≡ Some now → NamesKnown now before → NamesKnown now after
  pub fewer : AreFewer before.names after.names

-- the contents are those that are there, where the board tells its content
abbrev pub AreThere : List Bytes → Disk → ByAccount Contents → Type 0
AreThere accounts disk parts = IfSome disk.now (λ now. Shows accounts now parts)

-- the step leaves contents without leaves as they are
abbrev pub IsIdle : Era → Step → Type 0
IsIdle era step = (contents : Contents) → contents.leaves ≡ empty → contents.doubt ≡ None
    → Does era contents step contents

module _ (era : Era) (accounts : List Bytes) where
  -- At each moment each image has the accounts' contents with the step or without it; after it with the step,
  -- by what its reply says.
  abbrev pub AccountsGo : Disk → Disk → Step → Type 0
  AccountsGo old new step = StepGoes number_of (Does era) (Shows accounts) old new step

  -- each image now has the contents that all the steps lead to
  abbrev pub RecordsStand : ℕ → ByAccount Contents → Disk → List Step → Type 0
  RecordsStand since first disk chain = Stands number_of (Does era) (Shows accounts) since first disk chain

  -- each image since the tick has what the first n steps lead to, for an n no less than this number
  abbrev pub RecordsStandSince : ℕ → ByAccount Contents → ℕ → ℕ → Disk → List Step → Type 0
  RecordsStandSince since first tick ended disk chain =
      StandsSince number_of (Does era) (Shows accounts) since first tick ended disk chain

  -- What a platform is to the one that a run began with, whose board was settled, and to the steps since.
  pub record ChainStands (first : Disk) (start : Memory) (now : Disk) (memory : Memory) (unsettled : Bool)
      (chain : List Step) : Type 0 where
    pub right : IsRight first start false → IsRight now memory unsettled
    pub stands : IsRight first start false → (parts : ByAccount Contents) → AreThere accounts first parts
        → RecordsStand first.ticks parts now chain
    -- each image since the run began has the contents that the first n of the steps lead to
    pub images : IsRight first start false → (parts : ByAccount Contents) → AreThere accounts first parts
        → RecordsStandSince first.ticks parts first.ticks 0 now chain
    -- and the words and the other files of then
    pub later : first.ticks ≤ now.ticks
    pub others : IsRight first start false → (image i : Image) → first.now ≡ Some image
        → now.left_since first.ticks i → OthersKept accounts image i
