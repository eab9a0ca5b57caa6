use Rattle.std.proofs.Common.{sym, subst, arith}
use Rattle.account_machine.specs.declared.factor.Kind.{Kind}
use Rattle.account_machine.specs.declared.factor.Kind.TheVariants.{Password}
use Rattle.account_machine.specs.declared.request.Request.TheVariants.{AddFactor}
use Rattle.account_machine.specs.declared.request.Turn.TheVariants.{Act}
use Rattle.turn_edits.specs.Sessions.{ShowsHome}
use Rattle.turn_rows.specs.Due.{IsDue}
use Rattle.user_turn.specs.Acts.{IsMade}
use Rattle.user_turn.proofs.Moving.{made_starved, made_edit}
use Rattle.user_turn.proofs.rows.add_row.Goals as goal

-- a password is added
pub returns-in-Password-clause-made : goal.returns-in-Password-clause-made
returns-in-Password-clause-made g c = λ account schedule.
    subst (λ (kind : Kind). IsMade (g.S.Share.seen c.args.share.now) (g.S.Share.seen c.add_password.new.share)
    c.args.state.now c.add_password.new.state
    (Act (AddFactor account c.args.token.now c.args.label.now kind c.args.secret.now schedule)) c.add_password.result)
    (sym c.in-Password.is)
    (made_edit (g.S.Share.seen c.args.share.now) (g.S.Share.seen c.add_password.new.share) c.args.state.now
    c.add_password.new.state
    (AddFactor account c.args.token.now c.args.label.now Password c.args.secret.now schedule)
    c.add_password.result (ShowsHome c.args.state.now) 0 26
    (c.add_password.ensures.given account schedule)
    (subst (λ (kind : Kind). IsDue c.args.state.now
    (Act (AddFactor account c.args.token.now c.args.label.now kind c.args.secret.now schedule))) c.in-Password.is
    c.requires.due)
    (λ q. absurd q) (λ b. b) c.add_password.ensures.cost (omega arith) c.add_password.ensures.draws
    c.add_password.ensures.caused)

-- a PIN isn't
pub returns-in-Pin-clause-made : goal.returns-in-Pin-clause-made
returns-in-Pin-clause-made g c = λ account schedule.
    made_starved (g.S.Share.seen c.args.share.now) c.args.state.now
    (Act (AddFactor account c.args.token.now c.args.label.now c.args.kind c.args.secret.now schedule)) c.requires.ready
    tt c.requires.due
