-- Equal images are equal in one way.
use Rattle.std.specs.Prelude.{ℕ, List}
use mathlib.Core.Path.{refl}
use Rattle.std.specs.Coded.{Coded, Coded-set, code_by, coded×, coded_list, coded_ℕ}
use Rattle.std.specs.FinMap.{code}
use Rattle.board_model.specs.Files.{Files}
use Rattle.board_model.specs.Disk.{Image}

abbrev pub coded_image : Coded Image
coded_image =
    code_by (Files × List ℕ) (coded× (code (coded_list coded_ℕ) (coded_list coded_ℕ)) (coded_list coded_ℕ))
    (λ i. (i.files, i.words)) (λ p. record { files = p.0; words = p.1 }) (λ _. refl)

pub image_set : IsSet Image
image_set = Coded-set coded_image
