-- A turn that does nothing stands, whatever was asked.
use Rattle.home_lock_tests.proofs.RecordLemmas.{nothing_stands}
use Rattle.home_lock_tests.proofs.records.RecordTurnsAccountTurns.act.Goals as goal

pub returns-clause-stands : goal.returns-clause-stands
returns-clause-stands g c = nothing_stands c.args.state.now c.args.asked (g.S.Share.seen c.args.share.now)
