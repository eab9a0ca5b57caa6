-- A step that is stored.
use Rattle.std.specs.Prelude.{◌≡◌, ◌+◌, ◌%◌, ◌^◌, [], ◌∷◌, ◌++◌}
use Rattle.fault_count.specs.Causes.{HasCause}
use Rattle.share_api.specs.declared.step.Step.{Step}
use Rattle.share_api.specs.declared.step.Reply.TheVariants.{Failed}
use Rattle.mem_share.specs.declared.log.StepLog.{StepLog}

-- the step is stored at its place, and takes room; the count rises where it failed
pub record Logs (old new : StepLog) (step : Step) : Type 0 where
  pub own : new.steps.items ≡ old.steps.items ++ (old.place, step) ∷ []
  pub place : new.place ≡ (old.place + 1) % 2 ^ 64
  pub spare : new.spare + 1 ≡ old.spare
  pub cause : HasCause old.faults new.faults (step.reply ≡ Failed)
