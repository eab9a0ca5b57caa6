-- What a crash in a device step leaves, and what opening makes of it.
use Rattle.std.specs.Prelude.{◌≡◌, ◌≢◌, ◌⊎◌, ℕ, ◌<◌, ◌^◌, List, [], ◌∷◌}
use Rattle.pin_recovery.specs.Devices.{Devices, AreInStep}
use Rattle.pin_recovery.specs.LeafCalls.{LeafOp, stepped}
use Rattle.pin_recovery.specs.Recovery.{between, booted_devices, recovered, IsOpeningImage}
use Rattle.platform_model.specs.Views.{Platform, view_of}
use Rattle.platform_model.specs.Steps.{Op, Looks, Puts, Removes, Asks, Step, owners_after, after, done_by}

-- the two devices between the two writes of a leaf call. Whose an unused label is says nothing.
abbrev pub halfway : Platform → ℕ → LeafOp → ℕ → Platform
halfway s account op now = record s { devices = between s.devices (stepped s.devices op now); owners = owners_after op account s.owners }

-- what a crash in such a step leaves: the state before it, after it, or between its writes
unfoldable pub IsImageOf : Platform → ℕ → Op → ℕ → Platform → Type 0
IsImageOf s account Looks now q = q ≡ s
IsImageOf s account (Puts name bytes) now q = (q ≡ s) ⊎ (q ≡ done_by s account (Puts name bytes) now)
IsImageOf s account (Removes name) now q = (q ≡ s) ⊎ (q ≡ done_by s account (Removes name) now)
IsImageOf s account (Asks op) now q = (q ≡ s) ⊎ ((q ≡ halfway s account op now) ⊎ (q ≡ done_by s account (Asks op) now))

-- a crash at a moment of the step leaves this
abbrev pub IsStepImage : Platform → Step → Platform → Type 0
IsStepImage s step q = IsImageOf s step.account step.op step.now q

-- any number of openings, at these moments, each of which a crash cut off
unfoldable pub AreCutOpenings : Devices → List ℕ → Devices → Type 0
AreCutOpenings d [] q = q ≡ d
AreCutOpenings d (moment ∷ moments) q =
    (moment < 2 ^ 40) × ((mid : Devices) × (IsOpeningImage d moment mid × AreCutOpenings mid moments q))

-- the platform after opening these devices at a moment
abbrev pub opened : Platform → Devices → ℕ → Platform
opened s d moment = record s { devices = recovered (booted_devices d moment) moment }

-- Opening brought both devices in step. Each other account has what it had, and the step's account has what it had before the step or
-- what it has after it.
pub record IsReopened (old new : Platform) (account : ℕ) (s : Platform) : Type 0 where
  pub in_step : AreInStep s.devices
  pub others : (other : ℕ) → other ≢ account → view_of s other ≡ view_of old other
  pub own : (view_of s account ≡ view_of old account) ⊎ (view_of s account ≡ view_of new account)

-- whatever a crash in the step leaves, and however many openings are cut off after it, the next one is right
abbrev pub Survives : Platform → Step → Type 0
Survives s step =
    (q : Platform) (moments : List ℕ) (d : Devices) (moment : ℕ) → IsStepImage s step q → AreCutOpenings q.devices moments d → moment < 2 ^ 40
    → IsReopened s (after s step) step.account (opened q d moment)

-- so it is for each step of a list
unfoldable pub SurvivesEach : Platform → List Step → Type 0
SurvivesEach s [] = AreInStep s.devices
SurvivesEach s (step ∷ steps) = AreInStep s.devices × (Survives s step × SurvivesEach (after s step) steps)
