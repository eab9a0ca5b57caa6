use Rattle.platform_images.proofs.RecoveryLemmas.{boot_shown, boot_storable}
use Rattle.platform_images.proofs.laws.a_stored_boot_shows_opening.Goals as goal

pub returns : goal.returns
returns c = record { shown = boot_shown; storable = boot_storable }
