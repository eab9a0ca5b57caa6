use Rattle.std.proofs.Common.{sym, ◌∙◌, ◌≡◌, map, rules}
use Rattle.std.specs.Ordering.{nat_cmp}
use Rattle.std.specs.Cmp.Lexicographic.{slice_cmp, nat_list_cmp_total}
use Rattle.std.specs.FinMap.{nat_cmp-IsAntisymmetric, slice_cmp-IsAntisymmetric}
use Rattle.mem_share.proofs.MapLemmas.{sorted_keys}
use Rattle.mem_share.proofs.contents.Held.names.Goals as goal

-- the tree's names are in order
pub returns : goal.returns
returns c =
    let tree = c.args.self.now.records.entries in
    let all : c.loop-name.names.items ≡ map (λ e. e.0) tree = search rules in
    record { value = all ∙ sym (sorted_keys (slice_cmp nat_cmp) nat_list_cmp_total (slice_cmp-IsAntisymmetric nat_cmp-IsAntisymmetric) tree c.keys-name-items.ensures.ordered) }
