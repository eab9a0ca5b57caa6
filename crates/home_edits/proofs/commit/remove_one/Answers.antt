use Rattle.std.proofs.Common.{sym, ap, is_ok, is_err, true≢false}
use Rattle.share_api.specs.declared.step.Write.TheVariants.{Remove}
use Rattle.share_api.proofs.TryLaws.{write_tries}
use Rattle.home_edits.proofs.commit.remove_one.Goals as goal

-- the removal was done
pub returns-in-Ok-clause-tried : goal.returns-in-Ok-clause-tried
returns-in-Ok-clause-tried g c =
    write_tries (g.S.Share.seen c.args.share.now) (g.S.Share.seen c.remove.new.self) 0 (Remove c.args.name.now) _ _
    c.remove.result (λ _. ap is_ok c.in-Ok.is) (λ h. absurd (true≢false (sym h))) c.remove.ensures.made
    c.remove.ensures.only

-- the removal failed
pub returns-in-Err-clause-tried : goal.returns-in-Err-clause-tried
returns-in-Err-clause-tried g c =
    write_tries (g.S.Share.seen c.args.share.now) (g.S.Share.seen c.remove.new.self) 0 (Remove c.args.name.now) _ _
    c.remove.result (λ h. absurd (true≢false (sym h))) (λ _. ap is_err c.in-Err.is) c.remove.ensures.made
    c.remove.ensures.only
