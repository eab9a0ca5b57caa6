use Rattle.std.proofs.Common.{sym, subst, arith}
use Rattle.std.specs.Str.{IsUtf8}
use Rattle.record_names.specs.Names.{five_digits}
use Rattle.record_names.proofs.NameLemmas.{IsAscii-five_digits}
use Rattle.std.proofs.lemmas.Str.{IsUtf8-from_ascii}
use Rattle.record_names.proofs.reading.label_of.Goals as goal

-- decimal digits are text
pub returns-in_default : goal.returns-in_default
returns-in_default c = λ label within is.
    absurd (c.in_default.ensures.cases.0 (subst IsUtf8 (sym is) (IsUtf8-from_ascii (five_digits label) (IsAscii-five_digits label (omega (arith, within))))))
