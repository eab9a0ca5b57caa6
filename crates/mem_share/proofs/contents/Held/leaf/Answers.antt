use Rattle.std.proofs.Common.{sym, ◌∙◌}
use Rattle.std.specs.Ordering.{nat_cmp}
use Rattle.std.specs.Cmp.{nat_cmp_total}
use Rattle.std.specs.FinMap.{nat_cmp-IsAntisymmetric}
use Rattle.mem_share.proofs.MapLemmas.{get_lookup}
use Rattle.mem_share.proofs.contents.Held.leaf.Goals as goal

-- the tree's look-up is the map's
pub returns : goal.returns
returns c = record {
  value =
      c.copied.ensures
      ∙ c.get.ensures.value
      ∙ sym (get_lookup nat_cmp nat_cmp_total nat_cmp-IsAntisymmetric c.args.label c.args.self.now.leaves.entries);
}
