use Rattle.std.proofs.Common.{sym, subst, ◌∙◌, length, ◌≡◌, arith}
use Rattle.std.specs.Str.{IsUtf8}
use Rattle.record_names.proofs.NameLemmas.{decoded, ok_of_text, length-hex}
use Rattle.home_recovery.proofs.files.decode_text.Goals as goal

-- such digits decode
pub returns-in_default-clause-found : goal.returns-in_default-clause-found
returns-in_default-clause-found c = λ name bytes text is.
    let hex = length-hex c.args.digits.now name is in
    let size : length name ≡ length c.args.text.now = omega (arith, hex, c.requires) in
    let both = rw (decoded c.args.digits.now name (length c.args.text.now) size bytes is) at c.decode_to_slice.ensures.value in
    absurd (c.in_default.not-Ok tt both.0)

pub returns-clause-found : goal.returns-clause-found
returns-clause-found c = λ name bytes text is.
    let hex = length-hex c.args.digits.now name is in
    let size : length name ≡ length c.args.text.now = omega (arith, hex, c.requires) in
    let both = rw (decoded c.args.digits.now name (length c.args.text.now) size bytes is) at c.decode_to_slice.ensures.value in (
      c.is_ok.ensures.value ∙ ok_of_text c.from_utf8.result _ _ _ c.from_utf8.ensures.cases (subst IsUtf8 (sym both.1) text),
      both.1,
    )
