use Rattle.std.proofs.Common.{arith}
use Rattle.account_machine.specs.declared.request.Request.TheVariants.{UpdateFactor}
use Rattle.account_machine.specs.declared.request.Turn.TheVariants.{Act}
use Rattle.user_turn.proofs.Moving.{made_starved, made_edit}
use Rattle.user_turn.proofs.rows.update_row.Goals as goal

-- a password is changed
pub returns-then-is_password-clause-made : goal.returns-then-is_password-clause-made
returns-then-is_password-clause-made g c = λ account.
    made_edit (g.S.Share.seen c.args.share.now) (g.S.Share.seen c.update_password.new.share) c.args.state.now
    c.update_password.new.state (UpdateFactor account c.args.token.now c.args.label.now c.args.secret.now) c.update_password.result ⊥ 0 7 (c.update_password.ensures.given account) c.requires.due
    (λ q. absurd q) (λ b. absurd b) c.update_password.ensures.cost (omega arith) c.update_password.ensures.draws
    c.update_password.ensures.caused

-- the factor isn't a password
pub returns-else-is_password-clause-made : goal.returns-else-is_password-clause-made
returns-else-is_password-clause-made g c = λ account.
    made_starved (g.S.Share.seen c.args.share.now) c.args.state.now
    (Act (UpdateFactor account c.args.token.now c.args.label.now c.args.secret.now)) c.requires.ready tt c.requires.due
