use Rattle.std.proofs.Common.{◌≡◌, set, ap, sym, ◌∙◌, arith}
use Rattle.account_machine.specs.Effect.{extended_end}
use Rattle.auth_session.specs.Table.{extended_kept}
use Rattle.auth_session.proofs.TableLemmas.{edit_at-set}
use Rattle.auth_session.proofs.table.extend.Goals as goal

-- the sum that stops at the top is cut by the end that is near
pub returns-clause-after : goal.returns-clause-after
returns-clause-after c =
    let kept = c.args.kept.now.items in
    let item = c.index.result.now in
    let f = extended_kept c.args.seconds c.args.moment in
    let ends_is : c.min-ends.result ≡ extended_end c.args.seconds c.args.moment item.session =
    omega (arith, c.min-ends.ensures, c.saturating_add.ensures, c.requires.moment) in
    ap (λ e. set kept c.args.at (record item { session = record item.session { ends = e } })) ends_is
    ∙ ap (λ k. set kept c.args.at (f k)) c.index.ensures
    ∙ sym (edit_at-set f kept c.args.at item c.requires.inside)
