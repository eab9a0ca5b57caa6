-- Without memory for a step the share is as it was.
use Rattle.std.proofs.Common.{◌≡◌, rules}
use Rattle.home_lock_tests.proofs.LookLemmas.{idle_stands}
use Rattle.home_lock_tests.proofs.looks.LookTurnsAccountTurns.act.Goals as goal

pub returns-then-is_err-clause-stands : goal.returns-then-is_err-clause-stands
returns-then-is_err-clause-stands g c =
    let same : g.S.Share.seen c.stock.new.self ≡ g.S.Share.seen c.args.share.now = search rules in
    idle_stands _ _ _ _ same
