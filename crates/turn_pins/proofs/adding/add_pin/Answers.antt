use Rattle.account_machine.specs.declared.factor.Kind.TheVariants.{Pin}
use Rattle.account_machine.specs.declared.request.Request.TheVariants.{AddFactor}
use Rattle.account_machine.specs.declared.request.Turn.TheVariants.{Act}
use Rattle.home_edits.proofs.CostLemmas.{costs_none}
use Rattle.std.proofs.Common.{refl}
use Rattle.turn_pins.proofs.PinTurns.{lost_given}
use Rattle.turn_pins.proofs.adding.add_pin.Goals as goal

-- the tree is lost
pub returns-in-Some-clause-given : goal.returns-in-Some-clause-given
returns-in-Some-clause-given g c = λ account.
    lost_given c.args.state.now c.requires.ready
    (Act (AddFactor account c.args.token.now c.args.label.now Pin c.args.secret.now c.args.schedule)) c.requires.due refl
    c.in-Some.tree.host c.in-Some.tree.chip (g.S.Share.seen c.args.share.now)

-- nothing was put
pub returns-in-Some-clause-cost : goal.returns-in-Some-clause-cost
returns-in-Some-clause-cost g c =
    costs_none (g.S.Share.seen c.args.share.now) c.args.state.now.account c.args.state.now.cost
