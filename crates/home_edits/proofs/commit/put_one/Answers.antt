use Rattle.std.proofs.Common.{sym, ap, is_ok, is_err, true≢false}
use Rattle.share_api.specs.declared.step.Write.TheVariants.{Put}
use Rattle.share_api.proofs.TryLaws.{write_tries}
use Rattle.home_edits.proofs.commit.put_one.Goals as goal

-- the put was done
pub returns-in-Ok-clause-tried : goal.returns-in-Ok-clause-tried
returns-in-Ok-clause-tried g c =
    write_tries (g.S.Share.seen c.args.share.now) (g.S.Share.seen c.put.new.self) 0
    (Put c.args.put.name c.args.put.bytes) _ _
    c.put.result (λ _. ap is_ok c.in-Ok.is) (λ h. absurd (true≢false (sym h))) c.put.ensures.made c.put.ensures.only

-- the put failed
pub returns-in-Err-clause-tried : goal.returns-in-Err-clause-tried
returns-in-Err-clause-tried g c =
    write_tries (g.S.Share.seen c.args.share.now) (g.S.Share.seen c.put.new.self) 0
    (Put c.args.put.name c.args.put.bytes) _ _
    c.put.result (λ h. absurd (true≢false (sym h))) (λ _. ap is_err c.in-Err.is) c.put.ensures.made c.put.ensures.only
