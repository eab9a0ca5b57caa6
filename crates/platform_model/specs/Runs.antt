-- A run of device steps, of which some fail.
use Rattle.std.specs.Prelude.{◌≡◌, ◌⊎◌, ℕ, List, [], ◌∷◌, Bool, true, false, Option, None, Some, ◌==◌}
use Rattle.pw_types.specs.declared.era.Era.{Era}
use Rattle.pin_recovery.specs.Devices.{AreInStep}
use Rattle.platform_model.specs.Views.{Platform, View, view_of}
use Rattle.platform_model.specs.Steps.{Step, after, done, IsAllowed}
use Rattle.platform_model.specs.Crashes.{IsStepImage}
use Rattle.platform_model.specs.Settling.{IsUnsettledBy, IsSettlingImage, IsInsert, settled}

-- A platform within a run: what it was when it was last settled, the step that failed since, if one did, and what is
-- there now.
pub record Standing : Type 0 where
  pub settled : Platform
  pub pending : Option Step
  pub now : Platform

-- a platform where no step is pending
abbrev pub at_rest : Platform → Standing
at_rest s = record { settled = s; pending = None; now = s }

-- what is there now is what the pending step, and settling after it, may have left
abbrev pub IsLeftBy : ℕ → Platform → Option Step → Platform → Type 0
IsLeftBy moment s None now = now ≡ s
IsLeftBy moment s (Some step) now = IsAllowed s step × IsUnsettledBy moment s step now

-- a platform that can stand so
pub record Stands (moment : ℕ) (standing : Standing) : Type 0 where
  pub in_step : AreInStep standing.settled.devices
  pub left : IsLeftBy moment standing.settled standing.pending standing.now

-- ---- one step

-- what settling makes of what is there
abbrev pub settled_now : ℕ → Option Step → Platform → Platform
settled_now moment None now = now
settled_now moment (Some step) now = settled moment step.op now

-- what a failure in settling leaves of what is there
abbrev pub IsSettlingNow : ℕ → Option Step → Platform → Platform → Type 0
IsSettlingNow moment None now image = image ≡ now
IsSettlingNow moment (Some step) now image = IsSettlingImage moment step.op now image

-- how a device step went: it was done; it failed, and left this; or settling before it failed, and left this
pub data Way : Type 0 where
  IsDone : Way
  FailsAt : (left : Platform) → Way
  IsNotBegun : (left : Platform) → Way

-- a device step and how it went
pub record Try : Type 0 where
  pub step : Step
  pub way : Way

-- Each step settles first. Then its own work is done, or fails.
abbrev pub Goes : ℕ → Standing → Step → Way → Standing → Type 0
Goes moment old step IsDone new =
    IsAllowed (settled_now moment old.pending old.now) step
    × (new ≡ at_rest (after (settled_now moment old.pending old.now) step))
Goes moment old step (FailsAt left) new =
    IsAllowed (settled_now moment old.pending old.now) step
    × IsStepImage (settled_now moment old.pending old.now) step left
    × (new ≡ record { settled = settled_now moment old.pending old.now; pending = Some step; now = left })
Goes moment old step (IsNotBegun left) new =
    IsSettlingNow moment old.pending old.now left
    × (new ≡ record { settled = old.settled; pending = old.pending; now = left })

-- a list of steps, one after another
unfoldable pub AreTried : ℕ → Standing → List Try → Standing → Type 0
AreTried moment old [] new = new ≡ old
AreTried moment old (t ∷ tries) new =
    (mid : Standing) × Goes moment old t.step t.way mid × AreTried moment mid tries new

-- ---- what an account has of it

-- one of the account's own steps: a step that wasn't done may be there all the same
abbrev pub Makes : Era → Step → Way → View → View → Type 0
Makes era step IsDone old new = new ≡ done era step.op step.now old
Makes era step (FailsAt left) old new = (new ≡ old) ⊎ (new ≡ done era step.op step.now old)
Makes era step (IsNotBegun left) old new = new ≡ old

-- a step that is the account's own or isn't: another account's changes nothing
abbrev pub MakesIf : Bool → Era → Step → Way → View → View → Type 0
MakesIf true era step way old new = Makes era step way old new
MakesIf false era step way old new = new ≡ old

-- each own step among these, in their order
unfoldable pub Folds : Era → ℕ → View → List Try → View → Type 0
Folds era account old [] new = new ≡ old
Folds era account old (t ∷ tries) new =
    (mid : View) × MakesIf (t.step.account == account) era t.step t.way old mid × Folds era account mid tries new

-- what an account may have once what is pending is settled: what it had before it, or, if the step is its own and
-- inserts no leaf, what it has after it
abbrev pub MayHave : Standing → Option Step → ℕ → View → Type 0
MayHave standing None account view = view ≡ view_of standing.settled account
MayHave standing (Some step) account view =
    (view ≡ view_of standing.settled account)
    ⊎ ((step.account ≡ account) × (IsInsert step.op → ⊥) × (view ≡ view_of (after standing.settled step) account))

abbrev pub MaySee : Standing → ℕ → View → Type 0
MaySee standing account view = MayHave standing standing.pending account view
