use Rattle.std.proofs.Common.{length, sym, ◌∙◌, ap, set, arith}
use Rattle.std.specs.List.{insert}
use Rattle.name_map.proofs.RowLemmas.{put-present, put-absent}
use Rattle.name_map.proofs.map.put.Goals as goal

-- the row is there
pub index_mut-requires : goal.index_mut-requires
index_mut-requires g c =
    let there = rw c.deref.ensures.value at c.in-Ok.ensures.found in
    let inside = put-present c.args.name c.args.value c.args.rows.now.items there.1 in
    omega (arith, there.0, inside.0, c.deref.ensures.len, ap length c.deref.ensures.value)

-- the gap is at most behind the last row
pub insert-requires : goal.insert-requires
insert-requires g c =
    let gap = rw c.deref.ensures.value at c.in-Err.ensures.absent in
    let inside = put-absent c.args.name c.args.value c.args.rows.now.items gap.1 in
    omega (arith, gap.0, inside.0, c.deref.ensures.len, ap length c.deref.ensures.value)

pub returns-in-Ok-clause-ok : goal.returns-in-Ok-clause-ok
returns-in-Ok-clause-ok g c =
    let there = rw c.deref.ensures.value at c.in-Ok.ensures.found in
    ap (λ at. set c.args.rows.now.items at (c.args.name, c.args.value)) there.0
    ∙ sym (put-present c.args.name c.args.value c.args.rows.now.items there.1).1

pub returns-in_ok-insert-in-Err-clause-ok : goal.returns-in_ok-insert-in-Err-clause-ok
returns-in_ok-insert-in-Err-clause-ok g c =
    let gap = rw c.deref.ensures.value at c.in-Err.ensures.absent in
    c.in_ok-insert-in-Err.ensures.items
    ∙ ap (λ at. insert c.args.rows.now.items at (c.args.name, c.args.value)) gap.0
    ∙ sym (put-absent c.args.name c.args.value c.args.rows.now.items gap.1).1
