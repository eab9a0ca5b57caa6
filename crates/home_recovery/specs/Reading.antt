-- Device steps that only read, and runs of a share that stocks calls between its steps.
use Rattle.std.specs.Prelude.{◌≡◌, ℕ, ◌+◌, ◌≤◌, List, [], ◌∷◌, None, length}
use Rattle.share_api.specs.Contents.{Contents}
use Rattle.share_api.specs.Folds.{Fold}
use Rattle.share_api.specs.Seen.{ShareSeen, Runs, HasFailed}
use Rattle.share_api.specs.Steps.{Does}
use Rattle.share_api.specs.declared.step.Op.{Op}
use Rattle.share_api.specs.declared.step.Op.TheVariants.{Names, Get, Do, InsertLeaf, TryLeaf, ResetLeaf, LookLeaf}
use Rattle.share_api.specs.declared.step.Step.{Step}

-- The share made these steps, whatever calls were stocked before and between them.
abbrev pub RunsOver : ShareSeen → ShareSeen → List Step → Type 0
RunsOver old new steps = Runs (record old { spare = new.spare + length steps }) new steps

-- what is asked changes nothing
abbrev pub IsReadOp : Op → Type 0
IsReadOp Names = Unit {0}
IsReadOp (Get name) = Unit {0}
IsReadOp (Do write) = ⊥
IsReadOp (InsertLeaf leaf) = ⊥
IsReadOp (TryLeaf label les) = ⊥
IsReadOp (ResetLeaf label secret) = ⊥
IsReadOp (LookLeaf label) = Unit {0}

abbrev pub AreReads : List Step → Type 0
AreReads [] = Unit {0}
AreReads (step ∷ steps) = IsReadOp step.op × AreReads steps

-- The share made at most so many steps, each a read, and used no more calls. Whatever contents they fit, in which no leaf is in doubt, P is so
-- of these. Where all went well none of the steps failed, and a fault is told only where one of them did.
pub record Reads (old new : ShareSeen) (ok failed : Type 0) (most : ℕ) (P : Contents → Type 0) : Type 0 where
  pub steps : List Step
  pub runs : RunsOver old new steps
  pub reads : AreReads steps
  pub few : length steps ≤ most
  pub spare : old.spare ≤ new.spare + most
  pub used : old.spare ≤ new.spare + length steps
  pub well : ok → HasFailed steps → ⊥
  pub fails : failed → HasFailed steps
  pub tells : (contents : Contents) → contents.doubt ≡ None → Fold (Does old.era) contents steps contents → P contents
