use Rattle.std.proofs.Common.{[], ◌∷◌, IsOk, IsErr, sym, subst}
use Rattle.share_api.specs.Seen.{Tries}
use Rattle.share_api.specs.declared.step.Write.{Write}
use Rattle.share_api.specs.declared.step.Write.TheVariants.{Put, Remove, RemoveLeaf}
use Rattle.pin_edits.proofs.ChangeTries.{change_tries, leaf_failed}
use Rattle.pin_edits.proofs.steps.change.Goals as goal

-- the record was put, or the put failed
pub returns-in-Put-clause-tried : goal.returns-in-Put-clause-tried
returns-in-Put-clause-tried g c =
    subst (λ (w : Write). Tries (g.S.Share.seen c.args.share.now) (g.S.Share.seen c.put.new.self) (w ∷ [])
    (IsOk c.ended.result) (IsErr c.ended.result)) (sym c.in-Put.is)
    (change_tries (g.S.Share.seen c.args.share.now) (g.S.Share.seen c.put.new.self) 0
    (Put c.in-Put.name c.in-Put.bytes) c.put.result c.ended.result c.ended.ensures.value c.put.ensures.made
    c.put.ensures.only)

-- the record was removed, or the removal failed
pub returns-in-Remove-clause-tried : goal.returns-in-Remove-clause-tried
returns-in-Remove-clause-tried g c =
    subst (λ (w : Write). Tries (g.S.Share.seen c.args.share.now) (g.S.Share.seen c.remove.new.self) (w ∷ [])
    (IsOk c.ended-in-Remove.result) (IsErr c.ended-in-Remove.result)) (sym c.in-Remove.is)
    (change_tries (g.S.Share.seen c.args.share.now) (g.S.Share.seen c.remove.new.self) 0
    (Remove c.in-Remove.name) c.remove.result c.ended-in-Remove.result c.ended-in-Remove.ensures.value
    c.remove.ensures.made c.remove.ensures.only)

-- and so the leaf, where the tree isn't lost
pub returns-in-RemoveLeaf-clause-tried : goal.returns-in-RemoveLeaf-clause-tried
returns-in-RemoveLeaf-clause-tried g c =
    subst (λ (w : Write). Tries (g.S.Share.seen c.args.share.now) (g.S.Share.seen c.remove_leaf.new.self) (w ∷ [])
    (IsOk c.ended-in-RemoveLeaf.result) (IsErr c.ended-in-RemoveLeaf.result)) (sym c.in-RemoveLeaf.is)
    (change_tries (g.S.Share.seen c.args.share.now) (g.S.Share.seen c.remove_leaf.new.self) c.args.moment
    (RemoveLeaf c.in-RemoveLeaf.label) c.remove_leaf.result c.ended-in-RemoveLeaf.result
    c.ended-in-RemoveLeaf.ensures.value c.remove_leaf.ensures.made
    (leaf_failed (g.S.Share.seen c.args.share.now).lost c.remove_leaf.result c.requires.tree c.remove_leaf.ensures.only
    c.remove_leaf.ensures.lost))
