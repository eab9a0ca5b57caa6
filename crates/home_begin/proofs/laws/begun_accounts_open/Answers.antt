-- Each account was opened over its part of the device.
use Rattle.std.proofs.Common.{arith, refl}
use Rattle.board_device.specs.Device.{accounts_of, seen_by}
use Rattle.user_accounts.specs.Parts.{parts_of}
use Rattle.home_begin.proofs.Begun.{accounts_open, named_at}
use Rattle.home_begin.proofs.laws.begun_accounts_open.Goals as goal

pub returns : goal.returns
returns g c = λ board named opening device shared names locks idle durable begun holds.
    accounts_open (seen_by g.B.Board.faults device) shared opening (parts_of g.B.Board.disk device) durable 0 names
    locks begun.opened refl (λ n name is. named_at (accounts_of device) n name is) (λ n. refl)
    (λ n below. holds n (omega (arith, below)))
