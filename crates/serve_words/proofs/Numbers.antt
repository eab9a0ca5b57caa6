-- Digits are text, and are read as their number.
use Rattle.std.proofs.Common.{◌≡◌, ℕ, ◌<◌, ◌≤◌, ◌^◌, true, List, length, Result, Ok, refl, rules, arith}
use Rattle.std.specs.Char.{is_ascii_digit}
use Rattle.std.specs.List.{list_all}
use Rattle.std.specs.Result.{result_ok}
use Rattle.std.specs.Str.{IsUtf8}
use Rattle.std.specs.Str.Parse.{digits_value, ParsesUnsigned}
use Rattle.std.proofs.lemmas.Bool.{le-leb}
use Rattle.std.proofs.lemmas.Str.{IsUtf8-from_ascii}
use Rattle.std.proofs.lemmas.Str.Parse.{IsNumeralModel, IsDigitsTest, numerals_by_value, digits_value_short, parse_gives}
use Rattle.std.proofs.lemmas.Fmt.{IsAscii-from_digits}
use Rattle.serve_words.specs.Words.{number_of}

abbrev AreDigits : List ℕ → Type 0
AreDigits digits = list_all is_ascii_digit digits ≡ true

tells : IsDigitsTest AreDigits
tells = search rules

numerals : IsNumeralModel AreDigits (digits_value 10)
numerals = numerals_by_value AreDigits tells

pub digits_are_text : (digits : List ℕ) → list_all is_ascii_digit digits ≡ true → IsUtf8 digits
digits_are_text digits are = IsUtf8-from_ascii digits (IsAscii-from_digits digits (numerals.to digits are))

pub digits_are_read : (most : ℕ) (digits : List ℕ) {E : Type 0} (r : Result ℕ E) → ParsesUnsigned 64 10 digits r
    → list_all is_ascii_digit digits ≡ true → 0 < length digits → length digits ≤ most → 10 ^ most < 2 ^ 64
    → r ≡ Ok (digits_value 10 digits)
digits_are_read most digits r parses are some few fits =
    let below = digits_value_short numerals digits most are few in
    parse_gives numerals 64 digits r parses are some (omega (arith, below, fits))

-- so the number is that of the grammar
pub number_is : (most : ℕ) (digits : List ℕ) {E : Type 0} (r : Result ℕ E) → ParsesUnsigned 64 10 digits r
    → list_all is_ascii_digit digits ≡ true → 0 < length digits → length digits ≤ most → 10 ^ most < 2 ^ 64
    → result_ok r ≡ number_of most digits
number_is most digits r parses are some few fits =
    let least = le-leb 1 (length digits) some in
    let greatest = le-leb (length digits) most few in
    rw (digits_are_read most digits r parses are some few fits, least, greatest, are) refl
