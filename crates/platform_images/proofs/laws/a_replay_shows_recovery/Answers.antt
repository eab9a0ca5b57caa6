use Rattle.platform_images.proofs.RecoveryLemmas.{recovery_shown, recovery_storable}
use Rattle.platform_images.proofs.laws.a_replay_shows_recovery.Goals as goal

pub returns : goal.returns
returns c = record {
  shown = λ accounts old new s now are fits shown early carried.
      recovery_shown accounts s now fits early are old new shown carried;
  storable = recovery_storable;
}
