use Rattle.std.proofs.Common.{IsOk, IsErr, [], ◌∷◌, ap, is_ok, is_err}
use Rattle.share_api.specs.declared.step.Write.TheVariants.{Put}
use Rattle.share_api.proofs.TryLaws.{tries_then, tries_failed}
use Rattle.home_edits.proofs.Edited.{err_not_ok}
use Rattle.home_edits.proofs.commit.put_both.Goals as goal

-- the first put failed
pub returns-in_err-put_one-clause-tried : goal.returns-in_err-put_one-clause-tried
returns-in_err-put_one-clause-tried g c =
    tries_failed (g.S.Share.seen c.args.share.now) (g.S.Share.seen c.put_one.new.share)
    (Put c.args.first.name c.args.first.bytes)
    (Put c.args.second.name c.args.second.bytes ∷ []) (IsOk c.put_one.result) (IsErr c.put_one.result)
    (IsOk c.from_residual.result) (IsErr c.from_residual.result)
    c.put_one.ensures.tried (ap is_err c.in_err-put_one.was) (err_not_ok c.from_residual.result
    c.from_residual.ensures.0)

-- the first put was done
pub returns-clause-tried : goal.returns-clause-tried
returns-clause-tried g c =
    tries_then (g.S.Share.seen c.args.share.now) (g.S.Share.seen c.put_one.new.share)
    (g.S.Share.seen c.put_one-2.new.share)
    (Put c.args.first.name c.args.first.bytes) (Put c.args.second.name c.args.second.bytes ∷ [])
    (IsOk c.put_one.result) (IsErr c.put_one.result) (IsOk c.put_one-2.result) (IsErr c.put_one-2.result)
    (IsOk c.put_one-2.result) (IsErr c.put_one-2.result)
    c.put_one.ensures.tried (ap is_ok c.in_ok-put_one.was) c.put_one-2.ensures.tried (λ h. h) (λ h. h)

pub returns-clause-goes : goal.returns-clause-goes
returns-clause-goes g c =
    g.met.S.Share.goes_on c.args.share.now c.put_one.new.share c.put_one-2.new.share c.put_one.ensures.goes
    c.put_one-2.ensures.goes
