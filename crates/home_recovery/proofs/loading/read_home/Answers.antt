use Rattle.std.proofs.Common.{Ok, Err, refl, sym, ap, ◌∙◌, subst, is_some, arith}
use Rattle.std.proofs.lemmas.Result.{err_from_is_err_and}
use Rattle.stored_home.specs.declared.stored.Stored.{Stored}
use Rattle.home_recovery.specs.Home.{TellsFactors, TellsHome}
use Rattle.home_recovery.specs.Parts.{TellsStash}
use Rattle.home_recovery.proofs.CallLemmas.{reads_err, reads_then_err, reads_then_ok}
use Rattle.home_recovery.proofs.ReadLemmas.{reads_then}
use Rattle.home_recovery.proofs.HomeLemmas.{serves_on, loss_is, stash_fault, step_fault, factors_fault}
use Rattle.home_recovery.proofs.loading.read_home.Goals as goal

-- the stash has a fault
pub returns-in_err-stash-clause-read : goal.returns-in_err-stash-clause-read
returns-in_err-stash-clause-read g c =
    let p = err_from_is_err_and c.from_residual.result c.from_residual.ensures.1 in
    let account = c.args.account.now in
    let lost = is_some (g.S.Share.seen c.args.share.now).lost in
    let fault = c.in_err-stash.field-0.0 in
    rw (p.1, p.2) (reads_err (g.S.Share.seen c.args.share.now) (g.S.Share.seen c.read_stash.new.share) fault 1 66
    (TellsStash account (Err fault)) (TellsHome account lost (Err fault)) c.in_err-stash.ensures.read (omega arith)
    (λ contents h. stash_fault account lost fault contents h))

-- the look for a lost tree failed
pub returns-in_err-lost-clause-read : goal.returns-in_err-lost-clause-read
returns-in_err-lost-clause-read g c =
    let p = err_from_is_err_and c.from_residual-in_err-lost.result c.from_residual-in_err-lost.ensures.1 in
    let account = c.args.account.now in
    let lost = is_some (g.S.Share.seen c.args.share.now).lost in
    let fault = c.in_err-lost.field-0.0 in
    rw (p.1, p.2) (reads_then_err (g.S.Share.seen c.args.share.now) (g.S.Share.seen c.read_stash.new.share) (g.S.Share.seen c.find_loss.new.share)
    fault _ _ 1 1 66 (TellsStash account (Ok c.in_ok-stash.stash)) (λ contents. Unit {0}) (TellsHome account lost (Err fault))
    c.in_ok-stash.ensures.read c.in_err-lost.ensures.read (omega arith) refl
    (λ contents h l. step_fault account lost fault contents c.in_err-lost.ensures.only))

pub read_factors-requires-clause-serves : goal.read_factors-requires-clause-serves
read_factors-requires-clause-serves g c =
    serves_on c.args.account.now (g.S.Share.seen c.read_stash.new.share) (g.S.Share.seen c.find_loss.new.share) _ _ 1 (λ contents. Unit {0})
    c.in_ok-lost.ensures.read
    (serves_on c.args.account.now (g.S.Share.seen c.args.share.now) (g.S.Share.seen c.read_stash.new.share) _ _ 1
    (TellsStash c.args.account.now (Ok c.in_ok-stash.stash)) c.in_ok-stash.ensures.read c.requires.serves)

pub read_factors-requires-clause-spare : goal.read_factors-requires-clause-spare
read_factors-requires-clause-spare g c =
    let one = c.in_ok-stash.ensures.read.spare in
    let two = c.in_ok-lost.ensures.read.spare in
    let room = c.requires.spare in
    omega (arith, one, two, room)

pub read_factors-requires-clause-lost : goal.read_factors-requires-clause-lost
read_factors-requires-clause-lost g c =
    c.is_some.ensures ∙ loss_is (g.S.Share.seen c.read_stash.new.share).lost c.in_ok-lost.lost c.in_ok-lost.ensures.value
    ∙ sym (ap is_some c.in_ok-lost.ensures.read.runs.lost)

-- a factor's record has a fault
pub returns-in_err-factors-clause-read : goal.returns-in_err-factors-clause-read
returns-in_err-factors-clause-read g c =
    let p = err_from_is_err_and c.from_residual-in_err-factors.result c.from_residual-in_err-factors.ensures.1 in
    let account = c.args.account.now in
    let lost = is_some (g.S.Share.seen c.args.share.now).lost in
    let stash = c.in_ok-stash.stash in
    let fault = c.in_err-factors.field-0.0 in
    let same = c.is_some.ensures ∙ loss_is (g.S.Share.seen c.read_stash.new.share).lost c.in_ok-lost.lost c.in_ok-lost.ensures.value
    ∙ ap is_some c.in_ok-stash.ensures.read.runs.lost in
    rw (p.1, p.2) (reads_then_err (g.S.Share.seen c.args.share.now) (g.S.Share.seen c.find_loss.new.share) (g.S.Share.seen c.read_factors.new.share)
    fault (Unit {0}) ⊥ 2 64 66 (TellsStash account (Ok stash)) (TellsFactors account c.is_some.result stash (Err fault)) (TellsHome account lost (Err fault))
    (reads_then (g.S.Share.seen c.args.share.now) (g.S.Share.seen c.read_stash.new.share) (g.S.Share.seen c.find_loss.new.share)
    _ _ _ _ (Unit {0}) ⊥ 1 1 2 (TellsStash account (Ok stash)) (λ contents. Unit {0}) (TellsStash account (Ok stash))
    c.in_ok-stash.ensures.read c.in_ok-lost.ensures.read (omega arith) refl (λ o. refl) (λ f. absurd f) (λ contents h l. h))
    c.in_err-factors.ensures.read (omega arith) tt
    (λ contents h l. factors_fault account lost stash fault contents h
    (subst (λ b. TellsFactors account b stash (Err fault) contents) same l)))

pub returns-clause-read : goal.returns-clause-read
returns-clause-read g c =
    let account = c.args.account.now in
    let lost = is_some (g.S.Share.seen c.args.share.now).lost in
    let stash = c.in_ok-stash.stash in
    let rows = c.in_ok-factors.factors in
    let stored : Stored = record { stash = stash; factors = rows; files = c.args.files; lost = c.in_ok-lost.lost } in
    let same = c.is_some.ensures ∙ loss_is (g.S.Share.seen c.read_stash.new.share).lost c.in_ok-lost.lost c.in_ok-lost.ensures.value
    ∙ ap is_some c.in_ok-stash.ensures.read.runs.lost in
    reads_then_ok (g.S.Share.seen c.args.share.now) (g.S.Share.seen c.find_loss.new.share) (g.S.Share.seen c.read_factors.new.share)
    stored (Unit {0}) ⊥ _ _ 2 64 66 (TellsStash account (Ok stash)) (TellsFactors account c.is_some.result stash (Ok rows)) (TellsHome account lost (Ok stored))
    (reads_then (g.S.Share.seen c.args.share.now) (g.S.Share.seen c.read_stash.new.share) (g.S.Share.seen c.find_loss.new.share)
    _ _ _ _ (Unit {0}) ⊥ 1 1 2 (TellsStash account (Ok stash)) (λ contents. Unit {0}) (TellsStash account (Ok stash))
    c.in_ok-stash.ensures.read c.in_ok-lost.ensures.read (omega arith) refl (λ o. refl) (λ f. absurd f) (λ contents h l. h))
    c.in_ok-factors.ensures.read (omega arith) tt refl
    (λ contents h l. (h, subst (λ b. TellsFactors account b stash (Ok rows) contents) same l))
