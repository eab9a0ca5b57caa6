use Rattle.std.proofs.Common.{ap}
use Rattle.std.specs.Ordering.{nat_cmp}
use Rattle.std.specs.Cmp.Lexicographic.{slice_cmp, nat_list_cmp_total}
use Rattle.std.specs.FinMap.{nat_cmp-IsAntisymmetric, slice_cmp-IsAntisymmetric}
use Rattle.share_api.specs.Contents.{Contents, Records}
use Rattle.mem_share.specs.Held.{leaves_of}
use Rattle.mem_share.proofs.MapLemmas.{removed}
use Rattle.mem_share.proofs.contents.Held.remove.Goals as goal

pub returns : goal.returns
returns c =
    let held = c.args.self.now in
    let with : Records → Contents = λ m. record { records = m; leaves = leaves_of held; doubt = held.doubt } in
    record { value = ap with (removed (slice_cmp nat_cmp) nat_list_cmp_total (slice_cmp-IsAntisymmetric nat_cmp-IsAntisymmetric) held.records c.remove.new.self c.args.name.now c.remove.ensures.updates) }
