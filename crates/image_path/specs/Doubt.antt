-- Steps that failed and that settling may undo. After such a step an image may show the step as done, and
-- after settling an image that comes from it shows it as not done. So of each image two families of parts
-- are kept: those that it shows, and those to which settling may go back.
use Rattle.std.specs.Prelude.{◌⊎◌, ◌≤◌, ℕ, List}
use Rattle.board_model.specs.Disk.{Image, Disk, Effect, Follows, Leaves}
use Rattle.image_path.specs.Showing.{ByAccount, AreSame, Makes, MakesOrNot}
use Rattle.image_path.specs.Paths.{shown_since, ArePaths}

-- one of the two families
abbrev pub IsOneOf : {C : Type 0} → ByAccount C → ByAccount C → ByAccount C → Type 0
IsOneOf one other from = AreSame one from ⊎ AreSame other from

module _ {C S : Type 0} (account_of : S → ℕ) (does : C → S → C → Type 0)
    (shows : Image → ByAccount C → Type 0) where
  -- at a moment of the step: it is done or not, from one of the two families
  abbrev pub InStepFrom : (ByAccount C → ByAccount C → Type 0) → S → Effect
  InStepFrom Back step old new = (parts back : ByAccount C) → shows old parts → Back parts back
      → (later from : ByAccount C) × shows new later × IsOneOf parts back from
      × MakesOrNot account_of does step from later

  -- At the end of the step: what the image shows, and what settling may go back to, have each come from
  -- one of the two families by the step and its reply.
  abbrev pub AfterStepFrom : (ByAccount C → ByAccount C → Type 0) → (ByAccount C → ByAccount C → Type 0) → S → Effect
  AfterStepFrom Back More step old new = (parts back : ByAccount C) → shows old parts → Back parts back
      → (later from : ByAccount C) × shows new later × IsOneOf parts back from
      × Makes account_of does step from later
      × ((next start : ByAccount C) × More later next × IsOneOf parts back start
      × (AreSame later next ⊎ (AreSame start next × Makes account_of does step start next)))

  pub record StepGoesFrom (Back More : ByAccount C → ByAccount C → Type 0) (old new : Disk) (step : S)
      : Type 0 where
    pub moments : Leaves old new (InStepFrom Back step)
    pub ended : Follows (AfterStepFrom Back More step) old.may_leave new.may_leave

  module _ (since : ℕ) (first : ByAccount C) where
    pub record StandsFrom (Back : ByAccount C → ByAccount C → Type 0) (disk : Disk) (chain : List S)
        : Type 0 where
      pub later : since ≤ disk.ticks
      pub image : (i : Image) → disk.may_leave i
          → (parts back : ByAccount C) × shows i parts × Back parts back
          × ArePaths account_of does (shown_since shows disk since) chain first parts
          × ArePaths account_of does (shown_since shows disk since) chain first back

module _ {C : Type 0} (shows : Image → ByAccount C → Type 0) (Back : ByAccount C → ByAccount C → Type 0) where
  -- at a moment of settling an image shows one of the two families
  abbrev pub InSettling : Effect
  InSettling old new = (parts back : ByAccount C) → shows old parts → Back parts back
      → (later : ByAccount C) × shows new later × IsOneOf parts back later

  -- once it is settled, the family to which settling may go back
  abbrev pub Settled : Effect
  Settled old new = (parts back : ByAccount C) → shows old parts → Back parts back
      → (later : ByAccount C) × shows new later × AreSame back later
