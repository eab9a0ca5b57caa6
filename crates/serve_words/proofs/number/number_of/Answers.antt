use Rattle.std.proofs.Common.{◌∙◌, sym, subst, arith, rules}
use Rattle.std.specs.Str.Parse.{ParsesUnsigned}
use Rattle.serve_words.proofs.Numbers.{digits_are_text, number_is}
use Rattle.serve_words.proofs.number.number_of.Goals as goal

-- digits are text
pub returns-in_default : goal.returns-in_default
returns-in_default c =
    absurd (c.in_default.ensures.cases.0 (digits_are_text c.args.digits.now (sym c.if-not-are_digits.ensures)))

-- and are read as their number
pub returns : goal.returns
returns c =
    let some = c.if-is_empty.ensures in
    let few = c.if-digits-most.false in
    let parsed = subst (λ text. ParsesUnsigned 64 10 text c.parse.result) c.in-Ok.ensures.cases.0
    c.parse.ensures.value.0 in
    c.ok.ensures.value
    ∙ number_is c.args.most c.args.digits.now c.parse.result parsed (sym c.if-not-are_digits.ensures)
    (search (rules, some)) (omega (arith, few)) c.requires
