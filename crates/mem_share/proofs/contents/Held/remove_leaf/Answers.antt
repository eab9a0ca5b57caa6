use Rattle.std.proofs.Common.{ap}
use Rattle.std.specs.Ordering.{nat_cmp}
use Rattle.std.specs.Cmp.{nat_cmp_total}
use Rattle.std.specs.FinMap.{nat_cmp-IsAntisymmetric}
use Rattle.share_api.specs.Contents.{Contents, Leaves}
use Rattle.mem_share.specs.Held.{records_of}
use Rattle.mem_share.proofs.MapLemmas.{removed}
use Rattle.mem_share.proofs.contents.Held.remove_leaf.Goals as goal

pub returns : goal.returns
returns c =
    let held = c.args.self.now in
    let with : Leaves → Contents = λ m. record { records = records_of held; leaves = m; doubt = held.doubt } in
    record { value = ap with (removed nat_cmp nat_cmp_total nat_cmp-IsAntisymmetric held.leaves c.remove.new.self c.args.label c.remove.ensures.updates) }
