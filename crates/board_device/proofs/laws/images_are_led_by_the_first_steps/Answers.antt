use Rattle.std.proofs.Common.{subst}
use Rattle.std.specs.Prelude.{IfSome, Option}
use Rattle.board_model.specs.Disk.{Image}
use Rattle.board_device.specs.Device.{board_of}
use Rattle.board_device.proofs.LedLemmas.{image_led, last_led, now_led}
use Rattle.board_device.proofs.laws.images_are_led_by_the_first_steps.Goals as goal

pub returns : goal.returns
returns g c = record {
  image = λ first now chain parts stands opened has. image_led g.B.Board.disk first now chain stands opened parts has;
  now = λ first now chain stands opened.
      now_led g.B.Board.disk first now chain stands opened
      (λ image told.
      let board = board_of now in
      g.met.B.Board.synced_now board image
      (subst (λ (o : Option Image). IfSome o (g.B.Board.disk board).once_synced) told (g.met.B.Board.is_image board)));
  last = λ first now chain parts stands opened has. last_led g.B.Board.disk first now chain stands opened parts has;
}
