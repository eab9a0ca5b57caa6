-- The locks are the accounts', in order.
use Rattle.board_device.specs.Device.{seen_by}
use Rattle.home_begin.proofs.Begun.{account_locks}
use Rattle.home_begin.proofs.laws.begun_home_can_end.Goals as goal

pub returns : goal.returns
returns g c = λ board named opening device shared names locks idle begun. record {
  clients = opening.clients;
  of = account_locks (seen_by g.B.Board.faults device) shared opening 0 names locks begun.opened;
  idle_is = begun.idle_is;
}
