use Rattle.platform_images.proofs.ShownLemmas.{put_shown, put_done}
use Rattle.platform_images.proofs.laws.a_put_shows_the_step.Goals as goal

pub returns : goal.returns
returns c = record {
  any_moment = λ accounts old new s number name bytes now are shown mine few left.
      put_shown accounts old new s number name bytes now are shown mine few left;
  done = λ accounts old new s number name bytes now are shown mine few replaced.
      put_done accounts old new s number name bytes now are shown mine few replaced;
}
