-- The bytes of names: how many there are, none is a full stop, all are ASCII.
use Rattle.std.proofs.Common.{◌≡◌, ℕ, ◌+◌, ◌/◌, ◌%◌, ◌<◌, ◌≤◌, [], ◌∷◌, ◌++◌, length, take, drop, get_or, refl, sym, ap, ◌∙◌, subst, Bool, true, false, ◌&&◌, nat_le, ◌==◌, IsTrue, codes, Result, Ok, Err, MatchResult, is_ok, Some, nat_lt, arith, rules, ◌-◌, ◌*◌}
use Rattle.std.proofs.lemmas.Bool.{lt-ltb}
use Rattle.std.proofs.lemmas.Bool.Decides.{nat_tests}
use Rattle.std.proofs.lemmas.Str.Parse.{IsNumeralModel, numerals_by_fold, parse_gives}
use Rattle.std.specs.Str.Parse.{ParsesUnsigned}
use Rattle.std.specs.Char.{is_ascii_digit}
use Rattle.std.specs.List.{list_all, position, position_or_len, before_first, after_first}
use Rattle.std.proofs.lemmas.List.{take_at, drop_at, append_assoc, append_cancel_left, length-append, take_rest}
use Rattle.std.specs.Str.{IsAscii, IsUtf8, all_ascii_digits, bytes_eq}
use Rattle.std.proofs.lemmas.Slice.Eq.{bytes_eq-Decides}
use Rattle.std.specs.Fmt.{decimal}
use Rattle.std.proofs.lemmas.Str.{IsAscii-append, IsUtf8-from_ascii}
use Rattle.std.proofs.lemmas.Str.Ascii.{IsAscii-nil, IsAscii-cons}
use Rattle.std.proofs.lemmas.Fmt.{IsAscii-decimal, decimal_injective}
use Rattle.hex.specs.Hex.{encode_lower, lower_digits, decode_of, decode_sized, IsBytes}
use Rattle.hex.specs.declared.error.FromHexError.{FromHexError}
use Rattle.hex.proofs.HexLemmas.{IsAscii-encode_with, decode_of-encode_lower, decode_sized-encode_lower, length-encode_with}
use Rattle.home_names.proofs.NameLemmas.{IsAscii-name_bytes}
use Rattle.record_names.specs.Names.{Bytes, is_name_byte, is_account_name, is_factor_label, five_digits, Parts, Stash, Factor, Leaf, File, AreParts, owner_of, end_of, name_of, account_of, tail_of, is_full_stop, stash_end, factor_end, leaf_end, file_end, IsRecordName}

and_first : (a b : Bool) → (a && b) ≡ true → a ≡ true
and_first true b e = refl
and_first false b e = cc

and_second : (a b : Bool) → (a && b) ≡ true → b ≡ true
and_second true b e = e
and_second false b e = cc

-- an account's name has at most 32 bytes, and all are name bytes
pub length-account : (account : Bytes) → IsTrue (is_account_name account) → length account ≤ 32
length-account account is =
    let within = and_second (nat_le 1 (length account)) (nat_le (length account) 32) (and_first (nat_le 1 (length account) && nat_le (length account) 32) (list_all is_name_byte account) is) in
    grind (arith, nat_tests)

pub bytes-account : (account : Bytes) → IsTrue (is_account_name account) → list_all is_name_byte account ≡ true
bytes-account account is = and_second (nat_le 1 (length account) && nat_le (length account) 32) (list_all is_name_byte account) is

-- a factor's label has at most 16 bytes, and all are name bytes
pub length-label : (label : Bytes) → IsTrue (is_factor_label label) → length label ≤ 16
length-label label is =
    let within = and_second (nat_le 1 (length label)) (nat_le (length label) 16) (and_first (nat_le 1 (length label) && nat_le (length label) 16) (list_all is_name_byte label) is) in
    grind (arith, nat_tests)

pub bytes-label : (label : Bytes) → IsTrue (is_factor_label label) → list_all is_name_byte label ≡ true
bytes-label label is = and_second (nat_le 1 (length label) && nat_le (length label) 16) (list_all is_name_byte label) is

pub no_full_stop : (byte : ℕ) → is_name_byte byte ≡ true → (byte == 46) ≡ false
no_full_stop byte is = grind (arith, nat_tests)

pub IsAscii-five_digits : (n : ℕ) → n < 100000 → IsAscii (five_digits n)
IsAscii-five_digits n h =
    let ones : Bytes = (48 + n % 10) ∷ [] in
    let tens : Bytes = (48 + n / 10 % 10) ∷ ones in
    let hundreds : Bytes = (48 + n / 100 % 10) ∷ tens in
    let thousands : Bytes = (48 + n / 1000 % 10) ∷ hundreds in
    IsAscii-cons (48 + n / 10000) thousands (omega arith)
    (IsAscii-cons (48 + n / 1000 % 10) hundreds (omega arith)
    (IsAscii-cons (48 + n / 100 % 10) tens (omega arith)
    (IsAscii-cons (48 + n / 10 % 10) ones (omega arith)
    (IsAscii-cons (48 + n % 10) [] (omega arith) IsAscii-nil))))

IsAscii-literal : (bytes : Bytes) → list_all (λ byte. nat_le byte 127) bytes ≡ true → IsAscii bytes
IsAscii-literal [] is = IsAscii-nil
IsAscii-literal (byte ∷ bytes) is =
    let first = and_first (nat_le byte 127) (list_all (λ b. nat_le b 127) bytes) is in
    IsAscii-cons byte bytes (grind (arith, nat_tests)) (IsAscii-literal bytes (and_second (nat_le byte 127) (list_all (λ b. nat_le b 127) bytes) is))

-- names are ASCII
IsAscii-name : (parts : Parts) → AreParts parts → IsAscii (name_of parts)
unfolding stash_end factor_end leaf_end file_end
IsAscii-name (Stash account) h = IsAscii-append account (codes ".stash") (IsAscii-name_bytes account (bytes-account account h)) (IsAscii-literal (codes ".stash") refl)
IsAscii-name (Factor account label edition) h =
    IsAscii-append account (codes ".fac." ++ (label ++ 46 ∷ decimal edition)) (IsAscii-name_bytes account (bytes-account account h.0))
    (IsAscii-append (codes ".fac.") (label ++ 46 ∷ decimal edition) (IsAscii-literal (codes ".fac.") refl)
    (IsAscii-append label (46 ∷ decimal edition) (IsAscii-name_bytes label (bytes-label label h.1)) (IsAscii-cons 46 (decimal edition) (omega arith) (IsAscii-decimal edition h.2))))
IsAscii-name (Leaf account label) h =
    IsAscii-append account (codes ".leaf." ++ five_digits label) (IsAscii-name_bytes account (bytes-account account h.0))
    (IsAscii-append (codes ".leaf.") (five_digits label) (IsAscii-literal (codes ".leaf.") refl) (IsAscii-five_digits label (omega (arith, h.1))))
IsAscii-name (File account name) h =
    IsAscii-append account (codes ".file." ++ encode_lower name) (IsAscii-name_bytes account (bytes-account account h.0))
    (IsAscii-append (codes ".file.") (encode_lower name) (IsAscii-literal (codes ".file.") refl) (IsAscii-encode_with lower_digits name (IsAscii-literal lower_digits refl)))

pub IsUtf8-name : (name : Bytes) → IsRecordName name → IsUtf8 name
IsUtf8-name name is = subst IsUtf8 (sym is.spelled) (IsUtf8-from_ascii (name_of is.parts) (IsAscii-name is.parts is.are))

-- ---- a name tells its parts

-- the first full stop stands behind bytes of names
pub first_full_stop : (front rest : Bytes) → list_all is_name_byte front ≡ true → position_or_len is_full_stop (front ++ 46 ∷ rest) ≡ length front
first_full_stop [] rest is = refl
first_full_stop (byte ∷ front) rest is =
    let here = no_full_stop byte (and_first (is_name_byte byte) (list_all is_name_byte front) is) in
    let there = first_full_stop front rest (and_second (is_name_byte byte) (list_all is_name_byte front) is) in
    rw here (rw there (omega arith))

pub before_full_stop : (front rest : Bytes) → list_all is_name_byte front ≡ true → before_first is_full_stop (front ++ 46 ∷ rest) ≡ front
before_full_stop front rest is =
    ap (λ (n : ℕ). take n (front ++ 46 ∷ rest)) (first_full_stop front rest is) ∙ take_at front (46 ∷ rest) (length front) refl

pub after_full_stop : (front rest : Bytes) → list_all is_name_byte front ≡ true → after_first is_full_stop (front ++ 46 ∷ rest) ≡ rest
after_full_stop front rest is =
    let whole : front ++ 46 ∷ rest ≡ (front ++ 46 ∷ []) ++ rest = sym (append_assoc front (46 ∷ []) rest) in
    let size : length (front ++ 46 ∷ []) ≡ position_or_len is_full_stop (front ++ 46 ∷ rest) + 1 = omega (arith, first_full_stop front rest is, length-append front (46 ∷ [])) in
    ap (drop (position_or_len is_full_stop (front ++ 46 ∷ rest) + 1)) whole ∙ drop_at (front ++ 46 ∷ []) rest (position_or_len is_full_stop (front ++ 46 ∷ rest) + 1) size

-- what follows the account begins with a full stop
pub tail_is : (parts : Parts) → end_of parts ≡ 46 ∷ tail_of parts
unfolding stash_end factor_end leaf_end file_end
tail_is (Stash account) = refl
tail_is (Factor account label edition) = refl
tail_is (Leaf account label) = refl
tail_is (File account name) = refl

pub bytes-owner : (parts : Parts) → AreParts parts → list_all is_name_byte (owner_of parts) ≡ true
bytes-owner (Stash account) h = bytes-account account h
bytes-owner (Factor account label edition) h = bytes-account account h.0
bytes-owner (Leaf account label) h = bytes-account account h.0
bytes-owner (File account name) h = bytes-account account h.0

-- the account of a name is that of its parts
pub account_of-name : (parts : Parts) → AreParts parts → account_of (name_of parts) ≡ owner_of parts
account_of-name parts h =
    ap (λ (rest : Bytes). account_of (owner_of parts ++ rest)) (tail_is parts) ∙ before_full_stop (owner_of parts) (tail_of parts) (bytes-owner parts h)

five_digits_tell : (m n : ℕ) → m < 100000 → n < 100000 → five_digits m ≡ five_digits n → m ≡ n
five_digits_tell m n h k e =
    let a : 48 + m / 10000 ≡ 48 + n / 10000 = ap (λ (ds : Bytes). get_or ds 0 0) e in
    let b : 48 + m / 1000 % 10 ≡ 48 + n / 1000 % 10 = ap (λ (ds : Bytes). get_or ds 1 0) e in
    let c : 48 + m / 100 % 10 ≡ 48 + n / 100 % 10 = ap (λ (ds : Bytes). get_or ds 2 0) e in
    let d : 48 + m / 10 % 10 ≡ 48 + n / 10 % 10 = ap (λ (ds : Bytes). get_or ds 3 0) e in
    let f : 48 + m % 10 ≡ 48 + n % 10 = ap (λ (ds : Bytes). get_or ds 4 0) e in
    omega arith

ok_tells : (a b : Bytes) → ◌≡◌ {A = Result Bytes FromHexError} (Ok a) (Ok b) → a ≡ b
ok_tells a b e = cc

hex_tells : (a b : Bytes) → IsBytes a → IsBytes b → encode_lower a ≡ encode_lower b → a ≡ b
hex_tells a b h k e = ok_tells a b (sym (decode_of-encode_lower a h) ∙ ap decode_of e ∙ decode_of-encode_lower b k)

abbrev byte_at : ℕ → Bytes → ℕ
byte_at n bytes = get_or bytes n 0

tails_tell : (one other : Parts) → AreParts one → AreParts other → owner_of one ≡ owner_of other → tail_of one ≡ tail_of other → one ≡ other
tails_tell (Stash a) (Stash b) h k e f = ap Stash e
tails_tell (Stash a) (Factor b l n) h k e f = let x : ◌≡◌ {A = ℕ} 115 102 = ap (byte_at 0) f in absurd (omega arith)
tails_tell (Stash a) (Leaf b n) h k e f = let x : ◌≡◌ {A = ℕ} 115 108 = ap (byte_at 0) f in absurd (omega arith)
tails_tell (Stash a) (File b n) h k e f = let x : ◌≡◌ {A = ℕ} 115 102 = ap (byte_at 0) f in absurd (omega arith)
tails_tell (Factor a l n) (Stash b) h k e f = let x : ◌≡◌ {A = ℕ} 102 115 = ap (byte_at 0) f in absurd (omega arith)
tails_tell (Factor a l n) (Factor b m p) h k e f =
    let rest = append_cancel_left (codes "fac.") (l ++ 46 ∷ decimal n) (m ++ 46 ∷ decimal p) f in
    let labels : l ≡ m = sym (before_full_stop l (decimal n) (bytes-label l h.1)) ∙ ap (before_first is_full_stop) rest ∙ before_full_stop m (decimal p) (bytes-label m k.1) in
    let digits : decimal n ≡ decimal p = sym (after_full_stop l (decimal n) (bytes-label l h.1)) ∙ ap (after_first is_full_stop) rest ∙ after_full_stop m (decimal p) (bytes-label m k.1) in
    let editions = decimal_injective n p h.2 k.2 digits in
    λ i. Factor (e i) (labels i) (editions i)
tails_tell (Factor a l n) (Leaf b m) h k e f = let x : ◌≡◌ {A = ℕ} 102 108 = ap (byte_at 0) f in absurd (omega arith)
tails_tell (Factor a l n) (File b m) h k e f = let x : ◌≡◌ {A = ℕ} 97 105 = ap (byte_at 1) f in absurd (omega arith)
tails_tell (Leaf a n) (Stash b) h k e f = let x : ◌≡◌ {A = ℕ} 108 115 = ap (byte_at 0) f in absurd (omega arith)
tails_tell (Leaf a n) (Factor b l m) h k e f = let x : ◌≡◌ {A = ℕ} 108 102 = ap (byte_at 0) f in absurd (omega arith)
tails_tell (Leaf a n) (Leaf b m) h k e f =
    let digits = append_cancel_left (codes "leaf.") (five_digits n) (five_digits m) f in
    let labels = five_digits_tell n m (omega (arith, h.1)) (omega (arith, k.1)) digits in
    λ i. Leaf (e i) (labels i)
tails_tell (Leaf a n) (File b m) h k e f = let x : ◌≡◌ {A = ℕ} 108 102 = ap (byte_at 0) f in absurd (omega arith)
tails_tell (File a n) (Stash b) h k e f = let x : ◌≡◌ {A = ℕ} 102 115 = ap (byte_at 0) f in absurd (omega arith)
tails_tell (File a n) (Factor b l m) h k e f = let x : ◌≡◌ {A = ℕ} 105 97 = ap (byte_at 1) f in absurd (omega arith)
tails_tell (File a n) (Leaf b m) h k e f = let x : ◌≡◌ {A = ℕ} 102 108 = ap (byte_at 0) f in absurd (omega arith)
tails_tell (File a n) (File b m) h k e f =
    let digits = append_cancel_left (codes "file.") (encode_lower n) (encode_lower m) f in
    let names = hex_tells n m h.3 k.3 digits in
    λ i. File (e i) (names i)

-- names differ where any part differs
pub names_tell : (one other : Parts) → AreParts one → AreParts other → name_of one ≡ name_of other → one ≡ other
names_tell one other h k e =
    let a : owner_of one ++ 46 ∷ tail_of one ≡ owner_of other ++ 46 ∷ tail_of other =
    ap (λ (rest : Bytes). owner_of one ++ rest) (sym (tail_is one)) ∙ e ∙ ap (λ (rest : Bytes). owner_of other ++ rest) (tail_is other) in
    let owners = sym (before_full_stop (owner_of one) (tail_of one) (bytes-owner one h)) ∙ ap (before_first is_full_stop) a ∙ before_full_stop (owner_of other) (tail_of other) (bytes-owner other k) in
    let tails = sym (after_full_stop (owner_of one) (tail_of one) (bytes-owner one h)) ∙ ap (after_first is_full_stop) a ∙ after_full_stop (owner_of other) (tail_of other) (bytes-owner other k) in
    tails_tell one other h k owners tails

-- ---- what is read of a name

pub position_full_stop : (front rest : Bytes) → list_all is_name_byte front ≡ true → position is_full_stop (front ++ 46 ∷ rest) ≡ Some (length front)
position_full_stop front rest is =
    let at = first_full_stop front rest is in
    let within : nat_lt (length front) (length (front ++ 46 ∷ rest)) ≡ true = lt-ltb (length front) (length (front ++ 46 ∷ rest)) (omega (arith, length-append front (46 ∷ rest))) in
    rw at (rw within refl)

pub IsUtf8-account : (account : Bytes) → IsTrue (is_account_name account) → IsUtf8 account
IsUtf8-account account is = IsUtf8-from_ascii account (IsAscii-name_bytes account (bytes-account account is))

-- each name has its first full stop behind the account
pub full_stop_inside : (name : Bytes) → IsRecordName name → position_or_len is_full_stop name < length name
full_stop_inside name is =
    let parts = is.parts in
    let whole : name ≡ owner_of parts ++ 46 ∷ tail_of parts = is.spelled ∙ ap (λ (rest : Bytes). owner_of parts ++ rest) (tail_is parts) in
    let at = first_full_stop (owner_of parts) (tail_of parts) (bytes-owner parts is.are) in
    rw whole (rw at (omega (arith, length-append (owner_of parts) (46 ∷ tail_of parts))))

pub owner_is_account : (parts : Parts) → AreParts parts → IsTrue (is_account_name (owner_of parts))
owner_is_account (Stash account) h = h
owner_is_account (Factor account label edition) h = h.0
owner_is_account (Leaf account label) h = h.0
owner_is_account (File account name) h = h.0

-- the account of a name is an account's name
pub account_of-record : (name : Bytes) → IsRecordName name → IsTrue (is_account_name (account_of name))
account_of-record name is =
    ap is_account_name (ap account_of is.spelled ∙ account_of-name is.parts is.are) ∙ owner_is_account is.parts is.are

-- the two parts round a full stop, as slices of the whole
pub split_parts : (bytes front rest : Bytes) (at : ℕ) → bytes ≡ front ++ 46 ∷ rest → at ≡ length front
    → (take at bytes ≡ front) × (take (length bytes - (at + 1)) (drop (at + 1) bytes) ≡ rest)
split_parts bytes front rest at is e = (
  ap (take at) is ∙ take_at front (46 ∷ rest) at (sym e),
  let whole : bytes ≡ (front ++ 46 ∷ []) ++ rest = is ∙ sym (append_assoc front (46 ∷ []) rest) in
      let size : length (front ++ 46 ∷ []) ≡ at + 1 = omega (arith, length-append front (46 ∷ [])) in
      take_rest bytes (at + 1) ∙ ap (drop (at + 1)) whole ∙ drop_at (front ++ 46 ∷ []) rest (at + 1) size,
)

-- the number of decimal digits, from the left
abbrev read_on : ℕ → Bytes → ℕ
read_on n [] = n
read_on n (digit ∷ digits) = read_on (10 * n + (digit - 48)) digits

numerals : IsNumeralModel (λ digits. all_ascii_digits digits ≡ true) (read_on 0)
numerals = numerals_by_fold _ (search rules) read_on (search rules)

digit_is_digit : (d : ℕ) → d < 10 → is_ascii_digit (48 + d) ≡ true
digit_is_digit d h = grind (arith, nat_tests)

five_are_digits : (n : ℕ) → n < 100000 → all_ascii_digits (five_digits n) ≡ true
five_are_digits n h =
    rw (digit_is_digit (n / 10000) (omega arith), digit_is_digit (n / 1000 % 10) (omega arith), digit_is_digit (n / 100 % 10) (omega arith), digit_is_digit (n / 10 % 10) (omega arith), digit_is_digit (n % 10) (omega arith)) refl

five_are_read : (n : ℕ) → n < 100000 → read_on 0 (five_digits n) ≡ n
five_are_read n h = omega arith

-- five digits are read as their number
pub parse-five_digits : {E : Type 0} (n : ℕ) (bytes : Bytes) (r : Result ℕ E) → n < 16384 → bytes ≡ five_digits n → ParsesUnsigned 16 10 bytes r → r ≡ Ok n
parse-five_digits n bytes r h is parses =
    let digits : all_ascii_digits bytes ≡ true = ap all_ascii_digits is ∙ five_are_digits n (omega arith) in
    let value : read_on 0 bytes ≡ n = ap (read_on 0) is ∙ five_are_read n (omega arith) in
    let some : 0 < length bytes = omega (arith, ap length is) in
    parse_gives numerals 16 bytes r parses digits some (omega (arith, value)) ∙ ap Ok value

-- hex digits decode into room for their bytes
pub decoded : (digits name : Bytes) (n : ℕ) → length name ≡ n → IsBytes name → digits ≡ encode_lower name → decode_sized digits n ≡ Ok name
decoded digits name n size bytes is = ap (λ (d : Bytes). decode_sized d n) is ∙ decode_sized-encode_lower name n size bytes

-- what is text is read as text
pub ok_of_text : {A E : Type 0} (r : Result A E) (P : A → Type 0) (U : Type 0) (Q : E → Type 0) → MatchResult r P (λ e. (U → ⊥) × Q e) → U → is_ok r ≡ true
ok_of_text (Ok x) P U Q h u = refl
ok_of_text (Err e) P U Q h u = absurd (h.0 u)

-- the number of hex digits
pub length-hex : (digits name : Bytes) → digits ≡ encode_lower name → length digits ≡ 2 * length name
length-hex digits name is = ap length is ∙ length-encode_with lower_digits name

-- a name is its account, a full stop and the rest
pub name_parts : (text : Bytes) (parts : Parts) → text ≡ name_of parts → text ≡ owner_of parts ++ 46 ∷ tail_of parts
name_parts text parts is = is ∙ ap (λ (rest : Bytes). owner_of parts ++ rest) (tail_is parts)

-- equal bytes are found equal
pub bytes_eq_same : (xs ys : Bytes) → xs ≡ ys → bytes_eq xs ys ≡ true
bytes_eq_same xs ys same = (bytes_eq-Decides xs ys).1 same
