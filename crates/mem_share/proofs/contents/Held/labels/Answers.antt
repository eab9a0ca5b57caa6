use Rattle.std.proofs.Common.{sym, ◌∙◌, ◌≡◌, map, rules}
use Rattle.std.specs.Ordering.{nat_cmp}
use Rattle.std.specs.Cmp.{nat_cmp_total}
use Rattle.std.specs.FinMap.{nat_cmp-IsAntisymmetric}
use Rattle.mem_share.proofs.MapLemmas.{sorted_keys}
use Rattle.mem_share.proofs.contents.Held.labels.Goals as goal

-- the tree's labels are in order
pub returns : goal.returns
returns c =
    let tree = c.args.self.now.leaves.entries in
    let all : c.loop-key.labels.items ≡ map (λ e. e.0) tree = search rules in
    record { value = all ∙ sym (sorted_keys nat_cmp nat_cmp_total nat_cmp-IsAntisymmetric tree c.keys-key-items.ensures.ordered) }
