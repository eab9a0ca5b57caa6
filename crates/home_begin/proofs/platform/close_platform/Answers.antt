-- The chain is what the seat recalls.
use Rattle.std.proofs.Common.{◌<◌, All, sym, subst}
use Rattle.turn_lock.specs.Seats.{LockId}
use Rattle.platform_lock.specs.Devices.{account_of}
use Rattle.home_begin.proofs.platform.close_platform.Goals as goal

pub returns : goal.returns
returns g c =
    let chain = c.close-platform.result.1 in
    record {
      last = c.close-platform.result.0.device;
      chain = chain;
      served = c.close-platform.ensures.stands;
      left_is = c.into_board.ensures;
      entries = c.close-platform.ensures.entries;
      callers = subst (λ (lock : LockId). All (λ step. account_of step < lock.callers) chain) (sym c.requires.of)
          c.close-platform.ensures.callers;
    }
