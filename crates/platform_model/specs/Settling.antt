-- A device step that failed, and settling after it.
use Rattle.std.specs.Prelude.{◌≡◌, ◌≢◌, ◌⊎◌, ℕ, ◌<◌, ◌^◌, List, None}
use Rattle.pw_chip.specs.Ledger.{with_leaf}
use Rattle.pin_recovery.specs.Devices.{Devices, AreInStep}
use Rattle.pin_recovery.specs.LeafCalls.{LeafOp, InsertLeaf, TryLeaf, ResetLeaf, RemoveLeaf}
use Rattle.pin_recovery.specs.Recovery.{recovered}
use Rattle.platform_model.specs.Views.{Platform, view_of}
use Rattle.platform_model.specs.Steps.{Op, Looks, Puts, Removes, Asks, Step, after}
use Rattle.platform_model.specs.Crashes.{halfway, IsImageOf, AreCutOpenings, opened, IsReopened}

-- the two devices are brought in step, as at an opening
abbrev pub brought_in_step : ℕ → Platform → Platform
brought_in_step moment q = record q { devices = recovered q.devices moment }

-- the platform in which the chip was brought in step again after the words of a call alone were stored: an insert is
-- undone, and another call is carried out
abbrev pub brought_back : Platform → ℕ → LeafOp → ℕ → ℕ → Platform
brought_back s account op now moment = brought_in_step moment (halfway s account op now)

-- What is there after a step that failed, and after settling that failed any number of times: what a crash in the
-- step may leave, or, after a call, what settling between its two writes makes of it.
unfoldable pub IsUnsettled : ℕ → Platform → ℕ → Op → ℕ → Platform → Type 0
IsUnsettled moment s account Looks now q = IsImageOf s account Looks now q
IsUnsettled moment s account (Puts name bytes) now q = IsImageOf s account (Puts name bytes) now q
IsUnsettled moment s account (Removes name) now q = IsImageOf s account (Removes name) now q
IsUnsettled moment s account (Asks op) now q =
    IsImageOf s account (Asks op) now q ⊎ (q ≡ brought_back s account op now moment)

-- the same of a step as one
abbrev pub IsUnsettledBy : ℕ → Platform → Step → Platform → Type 0
IsUnsettledBy moment s step q = IsUnsettled moment s step.account step.op step.now q

-- ---- settling

-- no record is there for the label
abbrev pub without_record : Devices → ℕ → Devices
without_record d label = record d { leaves = with_leaf d.leaves label None }

-- the record of an insert that failed is removed first, so that it is undone wherever it came to
abbrev pub unrecorded : Platform → Op → Platform
unrecorded q Looks = q
unrecorded q (Puts name bytes) = q
unrecorded q (Removes name) = q
unrecorded q (Asks (InsertLeaf label les hes reset schedule iv)) =
    record q { devices = without_record q.devices label }
unrecorded q (Asks (TryLeaf label les)) = q
unrecorded q (Asks (ResetLeaf label reset)) = q
unrecorded q (Asks (RemoveLeaf label)) = q

-- What settling makes of a platform in which this failed.
abbrev pub settled : ℕ → Op → Platform → Platform
settled moment op q = brought_in_step moment (unrecorded q op)

-- what a crash or a failure in settling leaves: the platform as it was, without the insert's record, or settled
abbrev pub IsSettlingImage : ℕ → Op → Platform → Platform → Type 0
IsSettlingImage moment op q image = (image ≡ q) ⊎ (image ≡ unrecorded q op) ⊎ (image ≡ settled moment op q)

-- whether a step inserts a leaf
abbrev pub IsInsert : Op → Type 0
IsInsert Looks = ⊥
IsInsert (Puts name bytes) = ⊥
IsInsert (Removes name) = ⊥
IsInsert (Asks (InsertLeaf label les hes reset schedule iv)) = Unit {0}
IsInsert (Asks (TryLeaf label les)) = ⊥
IsInsert (Asks (ResetLeaf label reset)) = ⊥
IsInsert (Asks (RemoveLeaf label)) = ⊥

-- After settling both devices are in step. Each other account has what it had before the step that failed, and the
-- step's account has that or what it has after the step. An insert that failed isn't there.
pub record IsSettledTo (s : Platform) (step : Step) (z : Platform) : Type 0 where
  pub in_step : AreInStep z.devices
  pub others : (other : ℕ) → other ≢ step.account → view_of z other ≡ view_of s other
  pub own : (view_of z step.account ≡ view_of s step.account)
      ⊎ ((IsInsert step.op → ⊥) × (view_of z step.account ≡ view_of (after s step) step.account))

-- however many openings are cut off after it, the next one is right
abbrev pub Reopens : Platform → Step → Platform → Type 0
Reopens s step q =
    (moments : List ℕ) (d : Devices) (moment : ℕ) → AreCutOpenings q.devices moments d → moment < 2 ^ 40
    → IsReopened s (after s step) step.account (opened q d moment)
