use Rattle.std.proofs.Common.{◌∙◌, ap, sym, subst}
use Rattle.std.specs.Result.{result_ok}
use Rattle.std.specs.Str.{IsUtf8}
use Rattle.std.specs.Fmt.{decimal}
use Rattle.std.proofs.lemmas.Fmt.{parse-decimal, IsAscii-decimal}
use Rattle.std.proofs.lemmas.Str.{IsUtf8-from_ascii}
use Rattle.record_names.proofs.reading.edition_of.Goals as goal

-- decimal digits are text
pub returns-in_default : goal.returns-in_default
returns-in_default c = λ edition fits is.
    absurd (c.in_default.ensures.cases.0 (subst IsUtf8 (sym is) (IsUtf8-from_ascii (decimal edition) (IsAscii-decimal edition fits))))

-- and are read as their number
pub returns : goal.returns
returns c = λ edition fits is. c.ok.ensures.value ∙ ap result_ok (parse-decimal 64 edition _ c.parse.result fits fits (c.in-Ok.ensures.cases.0 ∙ is) c.parse.ensures.value.0)
