-- The platform's lock is closed with a seat that knows why, and knows the openings that were tried.
use Rattle.home_begin.proofs.Stopping.{stops_refused}
use Rattle.home_begin.proofs.beginning.open_locks.Goals as goal

pub returns-in-Err-clause-stops : goal.returns-in-Err-clause-stops
returns-in-Err-clause-stops g c =
    let refused = c.in-Err.ensures in
    stops_refused g.B.Board.disk g.B.Board.faults c.args.shared.first.device c.args.shared.id c.args.opening.now
    c.in-Err.seat c.close_platform.result c.close_platform.ensures refused.knows refused.numbers c.in-Err.fault
    refused.refused
