use Rattle.std.proofs.Common.{sym, ◌∙◌}
use Rattle.account_machine.specs.declared.request.Turn.TheVariants.{Clear}
use Rattle.user_turn.proofs.Moving.{made_starved}
use Rattle.user_turn.proofs.Clearing.{clear_made}
use Rattle.user_turn.proofs.acting.clear.Goals as goal

-- there is nothing to clear
pub returns-then-pins-eq0 : goal.returns-then-pins-eq0
returns-then-pins-eq0 c = record {
  made = λ share. clear_made c.args.state.now c.requires.ready c.args.token.now c.requires.due
      (sym c.pins.ensures ∙ c.if-pins-eq0.true) share;
}

-- there is a PIN
pub returns-else-pins-eq0 : goal.returns-else-pins-eq0
returns-else-pins-eq0 c = record {
  made = λ share. made_starved share c.args.state.now (Clear c.args.token.now) c.requires.ready tt c.requires.due;
}
