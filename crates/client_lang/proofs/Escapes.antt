-- What stands in JSON strings: nothing of a plain name is escaped.
use Rattle.std.proofs.Common.{◌≡◌, ℕ, zero, suc, ◌<◌, ◌≤◌, Bool, true, ◌&&◌, ◌||◌, ◌==◌, not, List, [], ◌∷◌, ◌++◌, refl, ap, sym, ◌∙◌, inl, inr, arith}
use Rattle.std.specs.Prelude.{flat_map, bytes_eq, nat_le}
use Rattle.std.specs.List.{list_all}
use Rattle.std.proofs.lemmas.Bool.{and_parts, or_cases, cases_lt, leb-true, eqb-true}
use Rattle.std.proofs.lemmas.Slice.Eq.{bytes_eq-Decides}
use Rattle.std.proofs.lemmas.Bool.Decides.{nat_tests}
use Rattle.serde_json.specs.Data.{string}
use Rattle.serde_json.specs.Written.{compact_text}
use Rattle.serde_json.proofs.OnLiterals.{serde_json_on_literals}
use Rattle.hex.specs.Hex.{encode_with}
use Rattle.home_names.specs.Names.{is_name_byte}
use Rattle.client_lang.specs.Replies.{escaped, quoted, is_plain_name}

-- a test passes at each number below n
unfoldable pub all_below : (ℕ → Bool) → ℕ → Bool
all_below p zero = true
all_below p (suc n) = p n && all_below p n

pub all_below_at : (p : ℕ → Bool) (n k : ℕ) → all_below p n ≡ true → k < n → p k ≡ true
unfolding all_below
all_below_at p zero k h lt = absurd (omega arith)
all_below_at p (suc n) k h lt =
    let parts = and_parts (p n) (all_below p n) h in
    elim (cases_lt k n) [
      | inl below ↦ all_below_at p n k parts.1 below
      | inr top ↦
          let e : k ≡ n = omega arith in
          rw e parts.0
    ]

-- ---- a plain byte stands for itself

abbrev is_plain : ℕ → Bool
is_plain byte = is_name_byte byte || byte == 46

is_plain_small : (byte : ℕ) → is_plain byte ≡ true → byte < 128
is_plain_small byte is =
    elim (or_cases (is_name_byte byte) (byte == 46) is) [
      | inl name ↦
          elim (or_cases (nat_le 97 byte && nat_le byte 122) (nat_le 48 byte && nat_le byte 57) name) [
            | inl letter ↦ omega (arith, leb-true byte 122 (and_parts (nat_le 97 byte) (nat_le byte 122) letter).1)
            | inr digit ↦ omega (arith, leb-true byte 57 (and_parts (nat_le 48 byte) (nat_le byte 57) digit).1)
          ]
      | inr stop ↦ omega (arith, eqb-true byte 46 stop)
    ]

plain_test : ℕ → Bool
plain_test byte = not (is_plain byte) || bytes_eq (escaped byte) (byte ∷ [])

plain_tests : all_below plain_test 128 ≡ true
unfolding all_below plain_test
plain_tests = refl

escaped-plain : (byte : ℕ) → is_plain byte ≡ true → escaped byte ≡ byte ∷ []
unfolding plain_test
escaped-plain byte is =
    let test : (not (is_plain byte) || bytes_eq (escaped byte) (byte ∷ [])) ≡ true = all_below_at plain_test 128 byte plain_tests (is_plain_small byte is) in
    let same : bytes_eq (escaped byte) (byte ∷ []) ≡ true = rw is at test in
    (bytes_eq-Decides (escaped byte) (byte ∷ [])).0 same

pub escaped_all-plain : (name : List ℕ) → list_all is_plain name ≡ true → flat_map escaped name ≡ name
escaped_all-plain [] all = refl
escaped_all-plain (byte ∷ name) all =
    let parts = and_parts (is_plain byte) (list_all is_plain name) all in
    ap (λ front. front ++ flat_map escaped name) (escaped-plain byte parts.0) ∙ ap (λ rest. byte ∷ rest) (escaped_all-plain name parts.1)

-- so its string is the name between two quotes
pub quoted-plain : (name : List ℕ) → is_plain_name name ≡ true → quoted name ≡ 34 ∷ (name ++ 34 ∷ [])
quoted-plain name is =
    ap (λ inner. 34 ∷ (inner ++ 34 ∷ [])) (escaped_all-plain name (and_parts _ _ is).1)

-- ---- the strings are those of serde_json

-- byte after byte
by_bytes : (f : ℕ → List ℕ) → ((byte : ℕ) → f byte ≡ escaped byte) → (text : List ℕ) → flat_map f text ≡ flat_map escaped text
by_bytes f same [] = refl
by_bytes f same (byte ∷ text) = ap (λ front. front ++ flat_map f text) (same byte) ∙ ap (λ rest. escaped byte ++ rest) (by_bytes f same text)

-- from a test of the bytes that may be escaped, and a proof for the others
agrees : (f : ℕ → List ℕ) → all_below (λ byte. bytes_eq (f byte) (escaped byte)) 93 ≡ true → ((byte : ℕ) → 93 ≤ byte → f byte ≡ byte ∷ []) → (byte : ℕ) → f byte ≡ escaped byte
agrees f tests above byte =
    elim (cases_lt byte 93) [
      | inl below ↦ (bytes_eq-Decides (f byte) (escaped byte)).0 (all_below_at (λ b. bytes_eq (f b) (escaped b)) 93 byte tests below)
      | inr over ↦
          let own : escaped byte ≡ byte ∷ [] = grind (arith, nat_tests) in
          above byte over ∙ sym own
    ]

quoted_by : (f : ℕ → List ℕ) → ((byte : ℕ) → f byte ≡ escaped byte) → (text : List ℕ) → 34 ∷ (flat_map f text ++ 34 ∷ []) ≡ quoted text
quoted_by f same text = ap (λ inner. 34 ∷ (inner ++ 34 ∷ [])) (by_bytes f same text)

pub quoted-compact : (text : List ℕ) → compact_text (string text) ≡ quoted text
unfolding serde_json_on_literals all_below encode_with
quoted-compact text = quoted_by _ (agrees _ refl (λ byte over. grind (arith, nat_tests))) text
