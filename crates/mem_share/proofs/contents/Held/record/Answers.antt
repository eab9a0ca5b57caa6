use Rattle.std.proofs.Common.{sym, ◌∙◌}
use Rattle.std.specs.Ordering.{nat_cmp}
use Rattle.std.specs.Cmp.Lexicographic.{slice_cmp, nat_list_cmp_total}
use Rattle.std.specs.FinMap.{nat_cmp-IsAntisymmetric, slice_cmp-IsAntisymmetric}
use Rattle.mem_share.proofs.MapLemmas.{get_lookup}
use Rattle.mem_share.proofs.contents.Held.record.Goals as goal

-- the tree's look-up is the map's
pub returns : goal.returns
returns c = record { value = c.get.ensures.value ∙ sym (get_lookup (slice_cmp nat_cmp) nat_list_cmp_total (slice_cmp-IsAntisymmetric nat_cmp-IsAntisymmetric) c.args.name.now c.args.self.now.records.entries) }
