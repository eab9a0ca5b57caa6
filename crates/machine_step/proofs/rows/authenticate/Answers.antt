use Rattle.std.proofs.Common.{Some, ap, sym, ◌∙◌}
use Rattle.machine_step.proofs.RowLaws.{authenticated-by}
use Rattle.machine_step.proofs.rows.authenticate.Goals as goal

-- the try is of the session and the factor that are there
pub returns : goal.returns
returns c =
    let done = c.in_ok-try_pin-in-Pin.ensures in (
      done.0,
      authenticated-by c.args.era c.args.user.now c.args.token.now c.args.label.now c.args.secret.now c.in-Some.session c.in_ok-factor.factor _
          (sym c.in-Some.ensures) (sym c.in-Some-get.ensures ∙ ap Some (sym c.in_ok-factor.ensures.value)) c.in-Pin.is
          ∙ done.1,
      done.2,
    )
