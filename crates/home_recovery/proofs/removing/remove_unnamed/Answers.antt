use Rattle.std.proofs.Common.{[], sym, ap, ◌∙◌, is_some}
use Rattle.std.proofs.lemmas.Result.{err_from_is_err_and}
use Rattle.home_recovery.specs.Told.{lost_tree}
use Rattle.home_recovery.proofs.FileLemmas.{none_in}
use Rattle.home_recovery.proofs.SweepLemmas.{sweeps_none, sweep_room, sweep_serves, sweep_goes_on, sweep_ends, sweep_done}
use Rattle.home_recovery.proofs.removing.remove_unnamed.Goals as goal

pub loop-name-init : goal.loop-name-init
loop-name-init g c = record {
  sweeps = sweeps_none (is_some (g.S.Share.seen c.args.share.now).lost) c.args.account.now c.args.stored.now [] (g.S.Share.seen c.args.share.now) (Unit {0}) ⊥
      (λ f. f) (λ _ name h. absurd (none_in name h));
  goes = g.met.S.Share.goes_nowhere c.args.share.now;
}

pub remove_listed-requires-clause-spare : goal.remove_listed-requires-clause-spare
remove_listed-requires-clause-spare g c =
    sweep_room (is_some (g.S.Share.seen c.args.share.now).lost) c.args.account.now c.args.stored.now c.args.listed.now c.loop-name.name-index
    (g.S.Share.seen c.args.share.now) (g.S.Share.seen c.loop-name.share) (Unit {0}) ⊥ c.loop-name.invariant.sweeps c.loop-name-test.true c.requires.spare

pub remove_listed-requires-clause-serves : goal.remove_listed-requires-clause-serves
remove_listed-requires-clause-serves g c =
    sweep_serves (is_some (g.S.Share.seen c.args.share.now).lost) c.args.account.now c.args.stored.now c.args.listed.now c.loop-name.name-index
    (g.S.Share.seen c.args.share.now) (g.S.Share.seen c.loop-name.share) (Unit {0}) ⊥ c.loop-name.invariant.sweeps c.requires.serves

pub remove_listed-requires-clause-lost : goal.remove_listed-requires-clause-lost
remove_listed-requires-clause-lost g c = c.requires.lost ∙ ap lost_tree (sym c.loop-name.invariant.sweeps.tries.runs.lost)

-- a removal failed
pub returns-in_err-remove_listed-clause-sweeps : goal.returns-in_err-remove_listed-clause-sweeps
returns-in_err-remove_listed-clause-sweeps g c =
    let p = err_from_is_err_and c.from_residual.result c.from_residual.ensures.1 in
    rw (p.1, p.2) (sweep_ends c.args.account.now c.args.stored.now c.args.listed.now c.loop-name.name-index (g.S.Share.seen c.args.share.now)
    (g.S.Share.seen c.loop-name.share) (g.S.Share.seen c.remove_listed.new.share) c.loop-name.invariant.sweeps c.name-item.result
    c.in_err-remove_listed.field-0.0 c.loop-name-test.true c.in_err-remove_listed.ensures.sweeps)

pub loop-name-preserved : goal.loop-name-preserved
loop-name-preserved g c = record {
  sweeps = sweep_goes_on c.args.account.now c.args.stored.now c.args.listed.now c.loop-name.name-index (g.S.Share.seen c.args.share.now)
      (g.S.Share.seen c.loop-name.share) (g.S.Share.seen c.remove_listed.new.share) c.loop-name.invariant.sweeps c.name-item.result
      c.loop-name-test.true c.name-item.is c.in_ok-remove_listed.ensures.sweeps;
  goes = g.met.S.Share.goes_on c.args.share.now c.loop-name.share c.remove_listed.new.share c.loop-name.invariant.goes c.remove_listed.ensures.goes;
}

-- all names were gone through
pub returns-clause-sweeps : goal.returns-clause-sweeps
returns-clause-sweeps g c =
    sweep_done c.args.account.now c.args.stored.now c.args.listed.now c.loop-name.name-index (g.S.Share.seen c.args.share.now)
    (g.S.Share.seen c.loop-name.share) c.loop-name.invariant.sweeps c.loop-name-test.false
