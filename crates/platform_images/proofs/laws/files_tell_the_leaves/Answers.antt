use Rattle.platform_images.proofs.FileLemmas.{told_there, told_absent}
use Rattle.platform_images.proofs.laws.files_tell_the_leaves.Goals as goal

pub returns : goal.returns
returns c = record { there = told_there; absent = told_absent }
