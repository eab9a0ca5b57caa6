use Rattle.account_machine.specs.declared.request.Request.TheVariants.{UpdateFactor}
use Rattle.account_machine.specs.declared.request.Turn.TheVariants.{Act}
use Rattle.home_edits.proofs.CostLemmas.{costs_none}
use Rattle.turn_pins.proofs.PinSetting.{update_named}
use Rattle.turn_pins.proofs.PinTurns.{lost_given}
use Rattle.turn_pins.proofs.updating.update_pin.Goals as goal

-- the tree is lost
pub returns-in-Some-clause-given : goal.returns-in-Some-clause-given
returns-in-Some-clause-given g c = λ account.
    lost_given c.args.state.now c.requires.ready
    (Act (UpdateFactor account c.args.token.now c.args.label.now c.args.secret.now)) c.requires.due
    (update_named c.args.state.now c.requires.ready c.requires.sound c.args.label.now account c.args.token.now
    c.args.secret.now c.requires.due c.requires.pin)
    c.in-Some.tree.host c.in-Some.tree.chip (g.S.Share.seen c.args.share.now)

-- nothing was put
pub returns-in-Some-clause-cost : goal.returns-in-Some-clause-cost
returns-in-Some-clause-cost g c =
    costs_none (g.S.Share.seen c.args.share.now) c.args.state.now.account c.args.state.now.cost
