use Rattle.std.proofs.Common.{arith}
use Rattle.record_names.proofs.NameLemmas.{length-hex}
use Rattle.home_recovery.proofs.files.text_of.Goals as goal

-- such a name has at most 64 bytes
pub returns-then-size-gt-MAX_FILE_NAME : goal.returns-then-size-gt-MAX_FILE_NAME
returns-then-size-gt-MAX_FILE_NAME c = λ name few bytes text is.
    let hex = length-hex c.args.digits.now name is in
    let over = c.if-size-gt-MAX_FILE_NAME.true in
    absurd (omega (arith, hex, few, over))
