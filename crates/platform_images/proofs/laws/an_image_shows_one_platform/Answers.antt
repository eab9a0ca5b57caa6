use Rattle.platform_images.proofs.OneLemmas.{one_platform}
use Rattle.platform_images.proofs.laws.an_image_shows_one_platform.Goals as goal

pub returns : goal.returns
returns c = one_platform
