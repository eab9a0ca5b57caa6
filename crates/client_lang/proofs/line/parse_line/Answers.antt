use Rattle.std.proofs.Common.{◌≡◌, ◌≤◌, length, sym, ◌∙◌, true, false, arith}
use Rattle.std.proofs.lemmas.Grind.{common_steps}
use Rattle.client_lang.proofs.Reading.{request_in-value, request_in-no_value}
use Rattle.client_lang.proofs.line.parse_line.Goals as goal

-- bytes that are no JSON value ask nothing
pub returns-in-Err-2 : goal.returns-in-Err-2
returns-in-Err-2 c =
    let short : length c.args.line.now ≤ 100000 = grind (arith, common_steps, c.if-line-gt-MOST_LINE.false) in
    record {
      exact = λ other. sym (request_in-no_value c.args.line.now short (c.in-Err.ensures.err (λ memory.
          let asked : c.is_memory.result ≡ true = c.is_memory.ensures.1 memory in
          let told : c.is_memory.result ≡ false = c.if-is_memory.false in
          cc)));
    }

-- the line asks what its value asks
pub returns : goal.returns
returns c =
    let short : length c.args.line.now ≤ 100000 = grind (arith, common_steps, c.if-line-gt-MOST_LINE.false) in
    let read = c.in-Ok.ensures.ok in
    record { exact = λ other. c.request_of.ensures.exact other ∙ sym (request_in-value c.args.line.now _ short read.0 read.1) }
