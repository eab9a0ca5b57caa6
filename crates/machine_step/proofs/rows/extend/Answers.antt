use Rattle.std.proofs.Common.{◌≡◌, sym, arith}
use Rattle.account_machine.specs.declared.answer.Answer.TheVariants as answers
use Rattle.account_machine.specs.Effect.{extended_end}
use Rattle.machine_step.proofs.RowLaws.{extended-by}
use Rattle.machine_step.proofs.rows.extend.Goals as goal

-- the sum that stops at the top is cut by the end that is near
pub returns : goal.returns
returns c =
    let session = c.in_ok-session.session in
    let user = c.args.user.now in
    let ends_is : c.min-ends.result ≡ extended_end c.args.seconds user.last session = omega (arith, c.min-ends.ensures, c.saturating_add.ensures, c.requires) in (
      answers.OkEnds c.min-ends.result,
      extended-by user c.args.token.now session (sym c.in_ok-session.ensures) c.args.seconds c.min-ends.result c.replace.new.self ends_is c.replace.ensures,
      c.is_ends.ensures,
    )
