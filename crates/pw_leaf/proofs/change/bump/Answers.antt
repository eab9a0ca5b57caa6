use Rattle.std.proofs.Common.{rules, ◌<◌, ◌+◌, ◌^◌, sym, ◌∙◌, ap, arith}
use Rattle.pw_leaf.specs.Contents.{bumped, contents_of}
use Rattle.pw_leaf.specs.LeafBytes.{leaf_bytes}
use Rattle.pw_leaf.proofs.ReadLemmas.{accepted_is_read, changed_bytes, count_fits}
use Rattle.pw_leaf.proofs.change.bump.Goals as goal

pub unreachable-requires : goal.unreachable-requires
unreachable-requires c =
    accepted_is_read c.args.keys.now c.args.bytes.now c.in_default.field-0 c.requires.accepted (sym c.check.ensures.value ∙ c.in_default.is)

pub overflow_add-bumped : goal.overflow_add-bumped
overflow_add-bumped c =
    let few = count_fits c.args.keys.now c.args.bytes.now c.in-Ok.leaf (sym c.check.ensures.value ∙ c.in-Ok.is) c.requires.room in
    let fits : c.in-Ok.leaf.wrong + 1 < 2 ^ 32 = omega arith in search rules

pub returns : goal.returns
returns c =
    changed_bytes c.args.keys.now c.args.bytes.now c.in-Ok.leaf (bumped c.args.now) c.written.result
    (sym c.check.ensures.value ∙ c.in-Ok.is)
    (c.written.ensures ∙ ap (λ iv. leaf_bytes c.args.keys.now (bumped c.args.now (contents_of c.in-Ok.leaf iv))) c.iv_in.ensures)
