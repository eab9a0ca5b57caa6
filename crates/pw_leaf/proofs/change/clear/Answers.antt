use Rattle.std.proofs.Common.{sym, ◌∙◌, ap}
use Rattle.pw_leaf.specs.Contents.{cleared, contents_of}
use Rattle.pw_leaf.specs.LeafBytes.{leaf_bytes}
use Rattle.pw_leaf.proofs.ReadLemmas.{accepted_is_read, changed_bytes}
use Rattle.pw_leaf.proofs.change.clear.Goals as goal

pub unreachable-requires : goal.unreachable-requires
unreachable-requires c =
    accepted_is_read c.args.keys.now c.args.bytes.now c.in_default.field-0 c.requires (sym c.check.ensures.value ∙ c.in_default.is)

pub returns : goal.returns
returns c =
    changed_bytes c.args.keys.now c.args.bytes.now c.in-Ok.leaf cleared c.written.result
    (sym c.check.ensures.value ∙ c.in-Ok.is)
    (c.written.ensures ∙ ap (λ iv. leaf_bytes c.args.keys.now (cleared (contents_of c.in-Ok.leaf iv))) c.iv_in.ensures)
