use Rattle.platform_images.proofs.ShownLemmas.{call_shown, shown_half, shown_after}
use Rattle.platform_images.proofs.laws.two_writes_show_the_step.Goals as goal

pub returns : goal.returns
returns c = record {
  any_moment = λ accounts old new s number op now awaits left. call_shown accounts old new s number op now awaits left;
  between = λ accounts old new s number op now awaits stored. shown_half accounts old new s number op now awaits stored;
  done = λ accounts old new s number op now awaits stored. shown_after accounts old new s number op now awaits stored;
}
