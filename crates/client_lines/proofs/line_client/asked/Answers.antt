-- A request that is read from a line is in form.
use Rattle.client_lines.proofs.Forms.{let_in_formed}
use Rattle.client_lines.proofs.line_client.asked.Goals as goal

pub returns-in-Ok-clause-formed : goal.returns-in-Ok-clause-formed
returns-in-Ok-clause-formed c =
    let_in_formed c.args.pins c.in-Whole.bytes.now c.parse_line.result _ c.in-Ok.request c.parse_line.ensures.exact
    c.in-Ok.is c.let_in.ensures.exact
