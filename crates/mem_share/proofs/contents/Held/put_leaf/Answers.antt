use Rattle.std.proofs.Common.{ap, ◌∙◌}
use Rattle.std.specs.Ordering.{nat_cmp}
use Rattle.std.specs.Cmp.{nat_cmp_total}
use Rattle.std.specs.FinMap.{nat_cmp-IsAntisymmetric}
use Rattle.share_api.specs.Contents.{Contents, Leaves}
use Rattle.mem_share.specs.Held.{records_of}
use Rattle.mem_share.proofs.MapLemmas.{get_lookup, inserted, on_err}
use Rattle.mem_share.proofs.contents.Held.put_leaf.Goals as goal

pub returns-clause-ok : goal.returns-clause-ok
returns-clause-ok c =
    let held = c.args.self.now in
    let with : Leaves → Contents = λ m. record { records = records_of held; leaves = m; doubt = held.doubt } in
    ap with (inserted nat_cmp nat_cmp_total nat_cmp-IsAntisymmetric held.leaves c.insert.new.self c.args.label c.args.leaf c.in_ok-insert.ensures.updates)

-- only a leaf that isn't there may lack memory
pub returns-in_err-insert-clause-there : goal.returns-in_err-insert-clause-there
returns-in_err-insert-clause-there c =
    let held = c.args.self.now in
    on_err c.from_residual.result (get_lookup nat_cmp nat_cmp_total nat_cmp-IsAntisymmetric c.args.label held.leaves.entries ∙ c.in_err-insert.ensures.absent)
