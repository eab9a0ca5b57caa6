-- Each account was opened behind a lock of its own.
use Rattle.board_device.specs.Device.{seen_by}
use Rattle.home_begin.proofs.Begun.{as_many, open_locks}
use Rattle.home_begin.proofs.laws.begun_home_is_servable.Goals as goal

pub returns : goal.returns
returns g c = λ board named opening device shared names locks idle begun.
    let seen = seen_by g.B.Board.faults device in
    record {
      apart = begun.apart;
      many = as_many seen shared opening 0 names locks begun.opened;
      each = open_locks seen shared opening 0 names locks begun.opened;
    }
