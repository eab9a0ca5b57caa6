use Rattle.std.proofs.Common.{ap, sym, ◌∙◌, ℕ, Option, None}
use Rattle.std.specs.Ordering.{nat_cmp}
use Rattle.std.specs.Cmp.{nat_cmp_total}
use Rattle.std.specs.FinMap.{nat_cmp-IsAntisymmetric}
use Rattle.share_api.specs.Contents.{Contents, Leaves, leaves_left}
use Rattle.mem_share.specs.Held.{leaves_of, records_of}
use Rattle.mem_share.proofs.MapLemmas.{removed}
use Rattle.mem_share.proofs.contents.Held.settle.Goals as goal

pub returns-in-Some : goal.returns-in-Some
returns-in-Some c =
    let held = c.args.self.now in
    let with : Leaves → Contents = λ m. record { records = records_of held; leaves = m; doubt = None } in
    record {
      value = ap with
          (removed nat_cmp nat_cmp_total nat_cmp-IsAntisymmetric held.leaves c.remove.new.self c.in-Some.label c.remove.ensures.updates
          ∙ ap (λ (d : Option ℕ). leaves_left d (leaves_of held)) (sym c.in-Some.is));
    }
