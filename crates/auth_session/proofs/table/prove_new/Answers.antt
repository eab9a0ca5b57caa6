use Rattle.std.proofs.Common.{set, ap, sym, ◌∙◌}
use Rattle.auth_session.specs.Table.{first_proved_kept}
use Rattle.auth_session.proofs.TableLemmas.{edit_at-set}
use Rattle.auth_session.proofs.table.prove_new.Goals as goal

pub returns-clause-after : goal.returns-clause-after
returns-clause-after c =
    let kept = c.args.kept.now.items in
    let f = first_proved_kept c.args.main in
    ap (λ k. set kept c.args.at (f k)) c.index.ensures
    ∙ sym (edit_at-set f kept c.args.at c.index.result.now c.requires)
