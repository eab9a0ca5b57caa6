use Rattle.platform_images.proofs.ShownLemmas.{shown_kept}
use Rattle.platform_images.proofs.laws.alike_images_show_the_same.Goals as goal

pub returns : goal.returns
returns c = λ accounts old new s are kept shown. shown_kept accounts are old new s shown kept
