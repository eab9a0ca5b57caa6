use Rattle.std.proofs.Common.{length, sym, ◌∙◌, ap, arith}
use Rattle.std.specs.List.{remove}
use Rattle.name_map.proofs.RowLemmas.{place-inside, without-present, without-absent}
use Rattle.name_map.proofs.map.leave_out.Goals as goal

-- the row is there
pub remove-requires : goal.remove-requires
remove-requires g c =
    let there = rw c.deref.ensures.value at c.in-Ok.ensures.found in
    let inside = place-inside c.args.name.now c.args.rows.now.items there.1 in
    omega (arith, there.0, inside, c.deref.ensures.len, ap length c.deref.ensures.value)

pub returns-in-Ok : goal.returns-in-Ok
returns-in-Ok g c =
    let there = rw c.deref.ensures.value at c.in-Ok.ensures.found in
    c.remove.ensures.items ∙ ap (remove c.args.rows.now.items) there.0 ∙ sym (without-present c.args.name.now c.args.rows.now.items there.1)

-- the name has no row
pub returns-in_default : goal.returns-in_default
returns-in_default g c =
    let gap = rw c.deref.ensures.value at c.in_default.ensures.absent in
    sym (without-absent c.args.name.now c.args.rows.now.items gap.1)
