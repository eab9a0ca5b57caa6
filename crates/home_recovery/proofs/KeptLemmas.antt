-- What is held stays so throughout reads.
use Rattle.std.proofs.Common.{List, [], ◌∷◌, Bool, sym, subst}
use Rattle.account_machine.specs.declared.user.Durable.{Durable}
use Rattle.pw_types.specs.declared.era.Era.{Era}
use Rattle.share_api.specs.Contents.{Bytes, Contents, settled}
use Rattle.share_api.specs.Folds.{Throughout}
use Rattle.share_api.specs.Steps.{Does}
use Rattle.share_api.specs.declared.step.Step.{Step}
use Rattle.stored_home.specs.Holds.{Keys, HoldsUnder}
use Rattle.stored_home.proofs.FrameLemmas.{held_settled}
use Rattle.home_recovery.specs.Reading.{AreReads}
use Rattle.home_recovery.proofs.ReadLemmas.{read_leads}

module _ (era : Era) (lost : Bool) (account : Bytes) (durable : Durable) (keys : Keys) where
  abbrev Held : Contents → Type 0
  Held c = HoldsUnder lost c account durable keys

  -- what is held is so throughout reads, whatever leaf is in doubt
  pub reads_hold : (contents : Contents) (steps : List Step) → AreReads steps → Held contents → Throughout (Does era) Held contents steps
  reads_hold contents [] reads h = h
  reads_hold contents (step ∷ steps) reads h = (
    h,
    λ mid does. subst (λ c. Throughout (Does era) Held c steps)
        (sym (read_leads era step.moment step.op step.reply (settled contents) mid reads.0 does))
        (reads_hold (settled contents) steps reads.1 (held_settled lost account keys contents durable h)),
  )
