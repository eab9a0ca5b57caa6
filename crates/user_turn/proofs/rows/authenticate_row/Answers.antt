use Rattle.account_machine.specs.declared.request.Request.TheVariants.{Authenticate}
use Rattle.account_machine.specs.declared.request.Turn.TheVariants.{Act}
use Rattle.user_turn.proofs.Moving.{made_starved, made_tried}
use Rattle.user_turn.proofs.rows.authenticate_row.Goals as goal

-- a password is tried
pub returns-then-is_password-clause-made : goal.returns-then-is_password-clause-made
returns-then-is_password-clause-made g c = λ account.
    made_tried (g.S.Share.seen c.args.share.now) (g.S.Share.seen c.authenticate_password.new.share) c.args.state.now
    c.authenticate_password.new.state account c.args.label.now c.args.secret.now c.args.token.now
    c.authenticate_password.result (c.authenticate_password.ensures.given account) c.requires.due
    (c.authenticate_password.ensures.cost c.args.state.now.cost) c.authenticate_password.ensures.answers

-- the factor isn't a password
pub returns-else-is_password-clause-made : goal.returns-else-is_password-clause-made
returns-else-is_password-clause-made g c = λ account.
    made_starved (g.S.Share.seen c.args.share.now) c.args.state.now
    (Act (Authenticate account c.args.token.now c.args.label.now c.args.secret.now)) c.requires.ready tt c.requires.due
