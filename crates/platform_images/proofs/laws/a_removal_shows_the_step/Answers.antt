use Rattle.platform_images.proofs.ShownLemmas.{removal_shown, removal_done}
use Rattle.platform_images.proofs.laws.a_removal_shows_the_step.Goals as goal

pub returns : goal.returns
returns c = record {
  any_moment = λ accounts old new s number name now are shown mine left.
      removal_shown accounts old new s number name now are shown mine left;
  done = λ accounts old new s number name now are shown mine replaced.
      removal_done accounts old new s number name now are shown mine replaced;
}
