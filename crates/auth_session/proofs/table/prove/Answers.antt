use Rattle.std.proofs.Common.{◌≡◌, true, Some, set, ap, sym, ◌∙◌, arith}
use Rattle.account_machine.specs.Effect.{proved_end}
use Rattle.auth_session.specs.Table.{proved_kept}
use Rattle.auth_session.proofs.TableLemmas.{edit_at-set}
use Rattle.auth_session.proofs.table.prove.Goals as goal

pub returns-clause-after : goal.returns-clause-after
returns-clause-after c =
    let kept = c.args.kept.now.items in
    let item = c.index.result.now in
    let f = proved_kept c.args.main c.args.moment in
    let ends_is : c.max-ends.result ≡ proved_end c.args.moment item.session = omega (arith, c.max-ends.ensures) in
    ap (λ e. set kept c.args.at (record { session = record item.session { ends = e; authenticated = true }; main = Some c.args.main })) ends_is
    ∙ ap (λ k. set kept c.args.at (f k)) c.index.ensures
    ∙ sym (edit_at-set f kept c.args.at item c.requires.inside)
