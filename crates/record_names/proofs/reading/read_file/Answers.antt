use Rattle.std.proofs.Common.{arith, ap, sym, ◌∙◌, Some, true≢false}
use Rattle.record_names.specs.Names.{file_name}
use Rattle.record_names.proofs.NameLemmas.{length-hex}
use Rattle.record_names.proofs.reading.read_file.Goals as goal
use Rattle.record_names.proofs.reading.read_file.Goals.{then-size-lt1-via-then-size-lt1, then-size-lt1-via-else-size-lt1+then-size-gt-MAX_FILE_NAME}

-- such a name has 1 to 64 bytes
pub returns-then-size-lt1 : goal.returns-then-size-lt1
returns-then-size-lt1 c = λ name least most bytes text is.
    let size = length-hex c.args.digits.now name is in
    absurd (elim c.then-size-lt1.branch [
      | then-size-lt1-via-then-size-lt1 w ↦ omega (arith, size)
      | then-size-lt1-via-else-size-lt1+then-size-gt-MAX_FILE_NAME w ↦ omega (arith, size)
    ])

-- and its digits decode
pub returns-then-not-decode_text : goal.returns-then-not-decode_text
returns-then-not-decode_text c = λ name least most bytes text is.
    let found = c.decode_text.ensures.found name bytes text is in
    absurd (true≢false (sym found.0 ∙ c.if-not-decode_text.true))

pub returns : goal.returns
returns c = λ name least most bytes text is.
    let found = c.decode_text.ensures.found name bytes text is in
    ap Some (c.spell_file.ensures ∙ ap (file_name c.args.account.now) found.1)
