-- How accounts' parts are told apart: as tuples of their fields.
use Rattle.std.specs.Prelude.{Bool, [], false, refl}
use Rattle.std.specs.Coded.{Coded, code_by, coded×, coded_bool}
use Rattle.share_api.specs.Contents.{Bytes, Contents, no_contents}
use Rattle.board_device.specs.Coding.{coded_bytes, coded_contents}
use Rattle.turn_meaning.specs.Meanings.{Part, part_of}

abbrev pub coded_part : Coded Part
coded_part =
    code_by (Bytes × (Bool × Contents)) (coded× coded_bytes (coded× coded_bool coded_contents))
    (λ part. (part.account, (part.lost, part.contents))) (λ p. part_of p.0 p.1.0 p.1.1) (λ _. refl)

abbrev pub no_part : Part
no_part = part_of [] false no_contents
