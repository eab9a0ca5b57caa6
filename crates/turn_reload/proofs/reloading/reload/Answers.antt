use Rattle.std.proofs.Common.{Ok, Err, IsOk, subst}
use Rattle.std.specs.Prelude.{IsErrOf}
use Rattle.std.proofs.lemmas.Result.{err_from_is_err_and}
use Rattle.account_machine.specs.declared.entry.Told.{Told}
use Rattle.share_api.specs.Contents.{Bytes}
use Rattle.stored_home.proofs.MapLemmas.{some_is}
use Rattle.stored_home.specs.declared.fault.StoreFault.{StoreFault}
use Rattle.stored_home.specs.declared.fault.StoreFault.TheVariants.{Failed}
use Rattle.home_recovery.specs.Reading.{Reads}
use Rattle.home_recovery.specs.Recovers.{Recovers}
use Rattle.turn_reload.specs.Evidence.{Says}
use Rattle.turn_reload.proofs.ReloadLemmas.{can_tell, of_doubt, reloads_fault, reloads_unread, reloads_told}
use Rattle.turn_reload.proofs.reloading.reload.Goals as goal

-- recovering ended with a fault
pub returns-in_err-stored-clause-reloads : goal.returns-in_err-stored-clause-reloads
returns-in_err-stored-clause-reloads g c =
    let p = err_from_is_err_and c.from_residual.result c.from_residual.ensures.1 in
    let before = c.args.state.now in
    let old = g.S.Share.seen c.args.share.now in
    let new = g.S.Share.seen c.recover.new.share in
    let fault = c.in_err-stored.field-0.0 in
    let doubt = some_is before.doubt c.requires.unsettled in
    rw (p.1, p.2) (reloads_fault old before doubt.0 doubt.1 c.requires.plain c.requires.lost new fault
    (subst (λ (a : Bytes). Recovers old new a (Err fault)) c.as_str.ensures.value c.in_err-stored.ensures.recovers))

-- what tells the two durable parts apart couldn't be read
pub returns-in_err-told-clause-reloads : goal.returns-in_err-told-clause-reloads
returns-in_err-told-clause-reloads g c =
    let p = err_from_is_err_and c.from_residual-in_err-told.result c.from_residual-in_err-told.ensures.1 in
    let before = c.args.state.now in
    let old = g.S.Share.seen c.args.share.now in
    let mid = g.S.Share.seen c.recover.new.share in
    let new = g.S.Share.seen c.tell.new.share in
    let stored = c.in_ok-stored.stored in
    let fault = c.in_err-told.field-0.0 in
    let doubt = some_is before.doubt c.requires.unsettled in
    rw (p.1, p.2) (reloads_unread old before doubt.0 doubt.1 c.requires.plain c.requires.lost mid new stored fault c.in_err-told.ensures.only
    (subst (λ (a : Bytes). Recovers old mid a (Ok stored)) c.as_str.ensures.value c.in_ok-stored.ensures.recovers)
    (IsErrOf {T = Told} (Err fault) Failed) (Says doubt.0 before.account before.stored.stash stored (Err fault)) (λ e. e)
    (of_doubt (λ d. Reads mid new (IsOk {T = Told} {E = StoreFault} (Err fault)) (IsErrOf {T = Told} (Err fault) Failed) 1
    (Says d before.account before.stored.stash stored (Err fault))) before.doubt doubt.0 doubt.1 c.in_err-told.ensures.read))

-- the account is settled
pub returns-clause-reloads : goal.returns-clause-reloads
returns-clause-reloads g c =
    let before = c.args.state.now in
    let old = g.S.Share.seen c.args.share.now in
    let mid = g.S.Share.seen c.recover.new.share in
    let new = g.S.Share.seen c.tell.new.share in
    let stored = c.in_ok-stored.stored in
    let told = c.in_ok-told.told in
    let doubt = some_is before.doubt c.requires.unsettled in
    reloads_told old before doubt.0 doubt.1 c.requires.plain c.requires.lost mid new stored
    (subst (λ (a : Bytes). Recovers old mid a (Ok stored)) c.as_str.ensures.value c.in_ok-stored.ensures.recovers) told
    (IsErrOf {T = Told} {E = StoreFault} (Ok told) Failed)
    (of_doubt (λ d. Reads mid new (IsOk {T = Told} {E = StoreFault} (Ok told)) (IsErrOf {T = Told} {E = StoreFault} (Ok told) Failed) 1
    (Says d before.account before.stored.stash stored (Ok told))) before.doubt doubt.0 doubt.1 c.in_ok-told.ensures.read)
    (can_tell before doubt.0 old.lost c.requires.lost doubt.1 c.requires.tellable)
    c.in_ok-told.ensures.either
