use Rattle.std.proofs.Common.{◌/◌, arith, ap, ◌∙◌}
use Rattle.std.proofs.lemmas.Nat.{and_mask}
use Rattle.aes_core.specs.Field.{s_box}
use Rattle.aes_core.proofs.ColumnLemmas.{last_column_from_bytes}
use Rattle.aes_core.proofs.columns.last_column.Goals as goal

pub returns : goal.returns
returns c =
    last_column_from_bytes c.s_box.result c.s_box-2.result c.s_box-3.result c.s_box-4.result
    c.args.a c.args.b c.args.c c.args.d c.args.key _
    (omega arith) (omega arith) (omega arith) (omega arith)
    (c.s_box.ensures ∙ ap s_box (omega arith))
    (c.s_box-2.ensures ∙ ap s_box (and_mask (c.args.b / 65536) 8))
    (c.s_box-3.ensures ∙ ap s_box (and_mask (c.args.c / 256) 8))
    (c.s_box-4.ensures ∙ ap s_box (and_mask c.args.d 8)) c.from_be_bytes-word.ensures
