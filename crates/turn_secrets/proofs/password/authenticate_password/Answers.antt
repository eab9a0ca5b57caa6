use Rattle.std.proofs.Common.{refl, inl}
use Rattle.account_machine.specs.declared.request.Request.TheVariants.{Authenticate}
use Rattle.account_machine.specs.declared.request.Turn.TheVariants.{Act}
use Rattle.home_edits.proofs.CostLemmas.{costs_none}
use Rattle.turn_rows.proofs.Quiet.{starved_given}
use Rattle.turn_secrets.proofs.Proving.{wrong_given}
use Rattle.turn_secrets.proofs.password.authenticate_password.Goals as goal

-- another tag
pub returns-in-Wrong-clause-given : goal.returns-in-Wrong-clause-given
returns-in-Wrong-clause-given g c = λ account.
    wrong_given c.args.state.now c.requires.ready c.args.token.now c.args.label.now c.args.secret.now account
    c.in-Some.at c.in-Some.ensures.some.0 c.in-Some.ensures.some.1 c.requires.due c.in-Wrong.ensures
    (g.S.Share.seen c.args.share.now)

pub returns-in-Wrong-clause-answers : goal.returns-in-Wrong-clause-answers
returns-in-Wrong-clause-answers g c = record { wrong = c.in-Wrong.ensures; quiet = refl; same = refl }

pub returns-in-Wrong-clause-cost : goal.returns-in-Wrong-clause-cost
returns-in-Wrong-clause-cost g c = λ cost.
    costs_none (g.S.Share.seen c.args.share.now) c.args.state.now.account cost

-- no memory for the key
pub returns-in-Starved-clause-given : goal.returns-in-Starved-clause-given
returns-in-Starved-clause-given g c = λ account.
    starved_given c.args.state.now c.requires.ready
    (Act (Authenticate account c.args.token.now c.args.label.now c.args.secret.now)) tt (g.S.Share.seen
    c.args.share.now)

pub returns-in-Starved-clause-answers : goal.returns-in-Starved-clause-answers
returns-in-Starved-clause-answers g c = record { quiet = refl; same = inl refl }

pub returns-in-Starved-clause-cost : goal.returns-in-Starved-clause-cost
returns-in-Starved-clause-cost g c = λ cost.
    costs_none (g.S.Share.seen c.args.share.now) c.args.state.now.account cost

-- the secret is right
pub returns-in-Right-clause-given : goal.returns-in-Right-clause-given
returns-in-Right-clause-given g c = λ account.
    c.prove.ensures.given c.args.token.now c.args.secret.now account c.in-Some.ensures.some.0 c.requires.due
    c.in-Right.ensures

pub returns-in-Right-clause-answers : goal.returns-in-Right-clause-answers
returns-in-Right-clause-answers g c =
    c.prove.ensures.answers c.args.token.now c.args.secret.now c.in-Some.ensures.some.0 c.in-Right.ensures
