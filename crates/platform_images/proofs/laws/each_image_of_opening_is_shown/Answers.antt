use Rattle.platform_images.proofs.RecoveryLemmas.{opening_shown}
use Rattle.platform_images.proofs.laws.each_image_of_opening_is_shown.Goals as goal

pub returns : goal.returns
returns c = opening_shown
