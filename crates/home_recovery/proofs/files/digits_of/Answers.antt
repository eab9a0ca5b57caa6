use Rattle.std.proofs.Common.{◌+◌, length, drop, refl, ap, ◌∙◌, arith}
use Rattle.std.proofs.lemmas.List.{take_rest}
use Rattle.home_recovery.proofs.FileLemmas.{digits_behind}
use Rattle.home_recovery.proofs.files.digits_of.Goals as goal

-- a vault file's name is longer
pub returns-then-start-bytes : goal.returns-then-start-bytes
returns-then-start-bytes c = λ file is.
    let long = (digits_behind c.args.account.now file (length c.args.account.now + 6) refl).1 in
    let sizes = ap length (c.as_bytes-bytes.ensures.value ∙ c.as_str.ensures.value ∙ is) in
    let short = c.if-start-bytes.true in
    absurd (omega (arith, long, sizes, short))

pub returns : goal.returns
returns c = λ file is.
    let start = length c.args.account.now + 6 in
    take_rest c.as_bytes-bytes.result.now start ∙ ap (drop start) (c.as_bytes-bytes.ensures.value ∙ c.as_str.ensures.value ∙ is)
    ∙ (digits_behind c.args.account.now file start refl).0
