use Rattle.std.proofs.Common.{sym, ◌∙◌, ap}
use Rattle.machine_step.proofs.RowLaws.{first_proved-some, first_proved-none}
use Rattle.machine_step.proofs.rows.prove_first.Goals as goal

pub returns-in-Some : goal.returns-in-Some
returns-in-Some c =
    ap (λ ss. record c.args.user.now { sessions = ss })
    (c.replace.ensures ∙ sym (first_proved-some c.args.count c.args.token.now c.args.user.now.sessions c.in-Some.session c.if-count-gt0.false (sym c.in-Some.ensures)))

-- no session has the token
pub returns-in_default : goal.returns-in_default
returns-in_default c =
    ap (λ ss. record c.args.user.now { sessions = ss })
    (sym (first_proved-none c.args.count c.args.token.now c.args.user.now.sessions c.if-count-gt0.false (sym c.in_default.ensures)))
