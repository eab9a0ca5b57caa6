use Rattle.std.proofs.Common.{Ok, None, sym, ◌∙◌, arith}
use Rattle.std.specs.Prelude.{IsErrOf}
use Rattle.stored_home.specs.declared.fault.StoreFault.TheVariants as faults
use Rattle.home_recovery.proofs.CallLemmas.{no_err}
use Rattle.turn_secrets.specs.Listing.{TellsLook, TellsCount}
use Rattle.turn_secrets.proofs.Counting.{counted_whole, none_there, count_looked, count_none}
use Rattle.turn_secrets.proofs.Looking.{looks_none, looks_as}
use Rattle.turn_secrets.proofs.factors.count_of.Goals as goal

-- the tree isn't lost where a leaf is looked at
pub look-requires-clause-whole : goal.look-requires-clause-whole
look-requires-clause-whole g c =
    none_there (g.S.Share.seen c.args.share.now).lost
    (sym c.requires.lost ∙ counted_whole c.args.row.now.kind c.args.lost c.args.row.now.leaf c.in-Some.label
    (sym c.counted_leaf.ensures ∙ c.in-Some.is))

pub returns-in-Some-clause-looks : goal.returns-in-Some-clause-looks
returns-in-Some-clause-looks g c =
    looks_as (g.S.Share.seen c.args.share.now) (g.S.Share.seen c.look.new.share)
    (IsErrOf c.look.result faults.Failed) (IsErrOf c.look.result faults.Failed) 1 1
    (TellsLook c.args.account.now c.in-Some.label c.look.result)
    (TellsCount c.args.account.now c.args.lost c.args.row.now c.look.result)
    c.look.ensures.looks (omega arith) (λ f. f)
    (λ contents told. count_looked c.args.account.now c.args.lost c.args.row.now contents c.in-Some.label
    (sym c.counted_leaf.ensures ∙ c.in-Some.is) c.look.result told)

-- no leaf has the count
pub returns-in-None-clause-looks : goal.returns-in-None-clause-looks
returns-in-None-clause-looks g c =
    looks_none (g.S.Share.seen c.args.share.now) _ 1
    (TellsCount c.args.account.now c.args.lost c.args.row.now (Ok None)) (λ f. absurd (no_err None faults.Failed f))
    (λ contents. count_none c.args.account.now c.args.lost c.args.row.now contents
    (sym c.counted_leaf.ensures ∙ c.in-None.is))
