use Rattle.share_api.specs.declared.step.Op.TheVariants.{InsertLeaf}
use Rattle.pin_edits.proofs.ChangeTries.{inserted_makes}
use Rattle.pin_edits.proofs.steps.insert.Goals as goal

-- without a label it failed
pub returns-clause-made : goal.returns-clause-made
returns-clause-made g c =
    inserted_makes (g.S.Share.seen c.args.share.now) (g.S.Share.seen c.insert_leaf.new.self) c.args.moment
    (InsertLeaf c.args.leaf.now) c.insert_leaf.result c.inserted.result c.inserted.ensures.value c.requires.tree
    c.insert_leaf.ensures.only c.insert_leaf.ensures.lost c.insert_leaf.ensures.made
