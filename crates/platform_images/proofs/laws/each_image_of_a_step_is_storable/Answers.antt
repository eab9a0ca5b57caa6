use Rattle.platform_images.proofs.StorableLemmas.{storable_image}
use Rattle.platform_images.proofs.laws.each_image_of_a_step_is_storable.Goals as goal

pub returns : goal.returns
returns c = storable_image
