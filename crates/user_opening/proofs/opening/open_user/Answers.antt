use Rattle.std.proofs.Common.{Ok, Err, ◌++◌, ◌∙◌, ap, subst}
use Rattle.std.specs.Prelude.{codes}
use Rattle.std.proofs.lemmas.Result.{err_from_is_err_and}
use Rattle.share_api.specs.Contents.{Bytes}
use Rattle.home_recovery.specs.Recovers.{Recovers}
use Rattle.hmac_sha.specs.Hmac.{hmac}
use Rattle.random_values.specs.Stretches.{begun}
use Rattle.user_opening.proofs.OpenLemmas.{opens_starved, opens_fault, opens_recovered}
use Rattle.user_opening.proofs.opening.open_user.Goals as goal

-- there was no memory for the sessions
pub returns-in_err-sessions-clause-opens : goal.returns-in_err-sessions-clause-opens
returns-in_err-sessions-clause-opens g c =
    let p = err_from_is_err_and c.from_residual.result c.from_residual.ensures.1 in
    rw (p.1, p.2) (opens_starved (g.S.Share.seen c.args.share.now) c.args.account c.args.cost c.args.moment _)

-- recovering ended with a fault
pub returns-in_err-stored-clause-opens : goal.returns-in_err-stored-clause-opens
returns-in_err-stored-clause-opens g c =
    let p = err_from_is_err_and c.from_residual-in_err-stored.result c.from_residual-in_err-stored.ensures.1 in
    let old = g.S.Share.seen c.args.share.now in
    let new = g.S.Share.seen c.recover.new.share in
    let fault = c.in_err-stored.field-0.0 in
    rw (p.1, p.2) (opens_fault old new c.args.account c.args.cost c.args.moment _ fault
    (subst (λ (a : Bytes). Recovers old new a (Err fault)) c.as_str.ensures.value c.in_err-stored.ensures.recovers))

-- the account is opened
pub returns-clause-opens : goal.returns-clause-opens
returns-clause-opens g c =
    let old = g.S.Share.seen c.args.share.now in
    let new = g.S.Share.seen c.recover.new.share in
    let stored = c.in_ok-stored.stored in
    opens_recovered old new c.args.account c.args.cost c.args.moment _ stored
    (subst (λ (a : Bytes). Recovers old new a (Ok stored)) c.as_str.ensures.value c.in_ok-stored.ensures.recovers)
    c.requires.plain c.requires.least c.requires.most c.requires.moment c.in_ok-sessions.sessions c.of_account-generator.result
    c.in_ok-sessions.ensures (c.of_account-generator.ensures
    ∙ ap (λ (name : Bytes). begun (hmac c.args.entropy.now (codes "account" ++ name))) c.as_str-2.ensures.value)
