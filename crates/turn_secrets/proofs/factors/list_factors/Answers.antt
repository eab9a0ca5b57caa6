use Rattle.std.proofs.Common.{Ok, Err, refl, inl, ap, arith}
use Rattle.std.specs.FinMap.{len, entries}
use Rattle.account_machine.specs.declared.answer.Answer.TheVariants as answers
use Rattle.stored_home.specs.declared.fault.StoreFault.{StoreFault}
use Rattle.user_state.specs.Fits.{is_lost}
use Rattle.turn_secrets.specs.Listing.{TellsLines, TellsList}
use Rattle.turn_secrets.proofs.Listed.{listed_given, fails_given, fails_looks, fails_after, fails_sound, fails_known, no_fault_lines}
use Rattle.turn_secrets.proofs.Looking.{looks_as}
use Rattle.turn_secrets.proofs.factors.list_factors.Goals as goal

-- the factors are listed
pub returns-in-Ok-clause-given : goal.returns-in-Ok-clause-given
returns-in-Ok-clause-given g c = λ account.
    listed_given c.args.state.now c.requires.ready account c.requires.due (g.S.Share.seen c.args.share.now)
    (g.S.Share.seen c.listed.new.share) c.in-Ok.lines _ (len c.args.state.now.stored.factors) c.in-Ok.ensures.looks

pub returns-in-Ok-clause-looks : goal.returns-in-Ok-clause-looks
returns-in-Ok-clause-looks g c =
    looks_as (g.S.Share.seen c.args.share.now) (g.S.Share.seen c.listed.new.share) _ _
    (len c.args.state.now.stored.factors) (len c.args.state.now.stored.factors)
    (TellsLines c.args.state.now.account (is_lost c.args.state.now) (entries c.args.state.now.stored.factors)
    (Ok c.in-Ok.lines))
    (TellsList c.args.state.now (answers.OkFactors c.in-Ok.lines)) c.in-Ok.ensures.looks (omega arith)
    (λ f. absurd (no_fault_lines c.in-Ok.lines f)) (λ contents are. are)

-- the looks have a fault
pub returns-in-Err-clause-given : goal.returns-in-Err-clause-given
returns-in-Err-clause-given g c = λ account.
    fails_given c.args.state.now c.requires.ready account c.requires.due (g.S.Share.seen c.args.share.now)
    (g.S.Share.seen c.listed.new.share) c.in-Err.fault _ (len c.args.state.now.stored.factors)
    (λ e. ap (λ (f : StoreFault). Err f) e) c.in-Err.ensures.looks c.fail.new.state c.fail.result c.fail.ensures

pub returns-in-Err-clause-looks : goal.returns-in-Err-clause-looks
returns-in-Err-clause-looks g c =
    fails_looks c.args.state.now c.requires.ready c.args.state.now.account c.requires.due
    (g.S.Share.seen c.args.share.now) (g.S.Share.seen c.listed.new.share) c.in-Err.fault _
    (len c.args.state.now.stored.factors) (λ e. ap (λ (f : StoreFault). Err f) e) c.in-Err.ensures.looks
    c.fail.new.state
    c.fail.result c.fail.ensures

pub returns-in-Err-clause-after : goal.returns-in-Err-clause-after
returns-in-Err-clause-after g c =
    fails_after c.args.state.now c.in-Err.fault c.fail.new.state c.fail.result c.fail.ensures

pub returns-in-Err-clause-sound : goal.returns-in-Err-clause-sound
returns-in-Err-clause-sound g c =
    fails_sound c.args.state.now c.requires.sound c.in-Err.fault c.fail.new.state c.fail.result c.fail.ensures

pub returns-in-Ok-clause-known : goal.returns-in-Ok-clause-known
returns-in-Ok-clause-known g c = inl (c.in-Ok.lines, refl)

pub returns-in-Err-clause-known : goal.returns-in-Err-clause-known
returns-in-Err-clause-known g c =
    fails_known c.args.state.now c.in-Err.fault c.fail.new.state c.fail.result c.fail.ensures
