use Rattle.std.proofs.Common.{refl, sym, ◌∙◌}
use Rattle.account_machine.specs.declared.request.Turn.TheVariants.{Clear}
use Rattle.turn_pins.proofs.NoPins.{clear_given}
use Rattle.turn_pins.proofs.PinTurns.{lost_given}
use Rattle.turn_pins.proofs.clearing.clear_pin.Goals as goal

-- the tree is lost
pub returns-in-Some-clause-given : goal.returns-in-Some-clause-given
returns-in-Some-clause-given g c =
    lost_given c.args.state.now c.requires.ready (Clear c.args.token.now) c.requires.due refl c.in-Some.tree.host
    c.in-Some.tree.chip (g.S.Share.seen c.args.share.now)

-- there is no PIN
pub returns-then-pins-eq0-clause-given : goal.returns-then-pins-eq0-clause-given
returns-then-pins-eq0-clause-given g c =
    clear_given c.args.state.now c.requires.ready c.args.token.now c.requires.due
    (sym c.pins.ensures ∙ c.if-pins-eq0.true) (g.S.Share.seen c.args.share.now)
