use Rattle.platform_core.proofs.ShownLemmas.{one_shown}
use Rattle.platform_core.proofs.laws.an_image_shows_one_contents.Goals as goal

pub returns : goal.returns
returns c = one_shown
