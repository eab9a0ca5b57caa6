use Rattle.std.proofs.Common.{◌≡◌, ℕ, ◌+◌, ◌/◌, ◌%◌, ◌≤◌, ◌<◌, ◌^◌, List, [], ◌∷◌, ◌++◌, length, sym, ap, ◌∙◌, append_assoc, arith, rules}
use Rattle.std.specs.Fmt.{decimal}
use Rattle.std.proofs.lemmas.List.{length-append}
use Rattle.std.proofs.lemmas.Fmt.{decimal_step}
use Rattle.run_ending.proofs.said.+say_number.Goals as goal

-- a number from 10 on has a digit more than a tenth of it
digits_more : (n : ℕ) → 10 ≤ n → n < 2 ^ 64 → length (decimal n) ≡ length (decimal (n / 10)) + 1
digits_more n many fits = ap length (decimal_step n many fits) ∙ length-append (decimal (n / 10)) _

-- the number has more digits than its tenth, which is less
pub say_number-requires : goal.say_number-requires
say_number-requires t c =
    let more = digits_more c.args.number c.if-number-lt10.false c.ranges.number.fits in
    (search rules, omega (arith, c.requires, more))

pub say_digit-requires-2-clause-room : goal.say_digit-requires-2-clause-room
say_digit-requires-2-clause-room t c =
    let more = digits_more c.args.number c.if-number-lt10.false c.ranges.number.fits in
    omega (arith, c.requires, more, c.say_number.ensures.len, c.say_number.ensures.room)

-- the digits of the tenth, and then the last digit
pub returns-clause-items : goal.returns-clause-items
returns-clause-items t c =
    c.say_digit-2.ensures.items
    ∙ (ap (λ (front : List ℕ). front ++ (48 + c.args.number % 10) ∷ []) c.say_number.ensures.items
    ∙ (append_assoc c.args.said.now.items (decimal (c.args.number / 10)) ((48 + c.args.number % 10) ∷ [])
    ∙ ap (λ (digits : List ℕ). c.args.said.now.items ++ digits)
    (sym (decimal_step c.args.number c.if-number-lt10.false c.ranges.number.fits))))

pub returns-clause-len : goal.returns-clause-len
returns-clause-len t c =
    let more = digits_more c.args.number c.if-number-lt10.false c.ranges.number.fits in
    omega (arith, more, c.say_number.ensures.len, c.say_digit-2.ensures.len)
