use Rattle.std.proofs.Common.{sym}
use Rattle.turn_edits.proofs.Keyed.{no_main}
use Rattle.turn_pins.proofs.keys.main_key.Goals as goal

-- no session has the token
pub returns-in-None : goal.returns-in-None
returns-in-None c = sym (no_main c.args.sessions.now.kept c.args.token.now c.in-None.ensures.none)
