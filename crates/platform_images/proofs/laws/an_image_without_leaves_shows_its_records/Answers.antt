use Rattle.platform_images.proofs.FileLemmas.{shown_bare, storable_bare}
use Rattle.platform_images.proofs.laws.an_image_without_leaves_shows_its_records.Goals as goal

pub returns : goal.returns
returns c = record { shown = shown_bare; storable = storable_bare }
