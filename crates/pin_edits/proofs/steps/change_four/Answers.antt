use Rattle.std.proofs.Common.{IsOk, IsErr, [], ◌∷◌, ap, is_ok, is_err}
use Rattle.share_api.proofs.TryLaws.{tries_then, tries_failed}
use Rattle.home_edits.proofs.Edited.{err_not_ok}
use Rattle.pin_edits.proofs.steps.change_four.Goals as goal

-- the first change failed
pub returns-in_err-change-clause-tried : goal.returns-in_err-change-clause-tried
returns-in_err-change-clause-tried g c =
    tries_failed (g.S.Share.seen c.args.share.now) (g.S.Share.seen c.change.new.share) c.args.first
    (c.args.second ∷ c.args.third ∷ c.args.fourth ∷ []) (IsOk c.change.result) (IsErr c.change.result)
    (IsOk c.from_residual.result) (IsErr c.from_residual.result)
    c.change.ensures.tried (ap is_err c.in_err-change.was)
    (err_not_ok c.from_residual.result c.from_residual.ensures.0)

-- the first change was made
pub returns-clause-tried : goal.returns-clause-tried
returns-clause-tried g c =
    tries_then (g.S.Share.seen c.args.share.now) (g.S.Share.seen c.change.new.share)
    (g.S.Share.seen c.change_three.new.share) c.args.first (c.args.second ∷ c.args.third ∷ c.args.fourth ∷ [])
    (IsOk c.change.result) (IsErr c.change.result) (IsOk c.change_three.result) (IsErr c.change_three.result)
    (IsOk c.change_three.result) (IsErr c.change_three.result)
    c.change.ensures.tried (ap is_ok c.in_ok-change.was) c.change_three.ensures.tried (λ h. h) (λ h. h)
