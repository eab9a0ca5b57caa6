use Rattle.std.proofs.Common.{sym}
use Rattle.turn_secrets.proofs.Checking.{checked_by}
use Rattle.turn_secrets.proofs.Loading.{loads_by}
use Rattle.turn_secrets.proofs.check.check.Goals as goal

pub returns-in-Ok : goal.returns-in-Ok
returns-in-Ok c =
    checked_by c.args.stored.now c.args.label.now c.args.secret.now c.in-Ok.key
    (loads_by c.args.stored.now c.args.label.now c.requires.rows c.requires.password c.in-Some.stash c.in-Some.is
    c.in-Some-get.row.now (sym c.in-Some-get.ensures))
    c.in-Ok.ensures c.opened.result c.opened.ensures
