-- What reading gives where a field stands in front, and what stood in front where reading gave a field.
use Rattle.std.proofs.Common.{◌≡◌, ℕ, ◌+◌, ◌<◌, ◌≤◌, ◌^◌, List, [], ◌∷◌, ◌++◌, length, take, drop, get_or, Result, Ok, Err, refl, sym, ◌∙◌, ap, arith, inl, inr}
use Rattle.std.specs.Prelude.{slice_index, nat_le, nat_eq, true, false}
use Rattle.std.specs.Int.{w16, w32, w64, to_be_bytes, from_be_bytes}
use Rattle.std.proofs.lemmas.Bool.{cases_lt, cases_eq, le-leb, lt-leb, ne_eqb}
use Rattle.std.proofs.lemmas.List.{take_at, drop_at, drop-drop, length-append, length-drop, take-append-drop, length-take-le, get_or_append_left, get_or_past, drop_more, nil_from_length, get_or-append-add}
use Rattle.std.proofs.lemmas.Nat.{from_be_bytes-to_be_bytes_2, from_be_bytes-to_be_bytes_4, from_be_bytes-to_be_bytes_8, be_bytes_2, be_bytes_4, be_bytes_8}
use Rattle.ct_bytes.specs.declared.fault.ByteFault.{ByteFault}
use Rattle.ct_bytes.specs.declared.fault.ByteFault.TheVariants.{Short}
use Rattle.ct_bytes.specs.Fields.{field8}
use Rattle.ct_bytes.specs.Reading.{Unread, past, bytes_at, u8_at, u16_at, u32_at, u64_at, field8_at, end_at, ◌>>=◌}

-- ---- what stands in front is read

-- so many bytes
pub bytes_at-front : (n place : ℕ) (front rest : List ℕ) → length front ≡ n
    → bytes_at n (record { place = place; left = front ++ rest }) ≡ Ok (front, record { place = place + n; left = rest })
unfolding bytes_at
bytes_at-front n place front rest size =
    let fits : nat_le n (length (front ++ rest)) ≡ true = le-leb n (length (front ++ rest)) (omega (arith, length-append front rest)) in
    rw fits (λ i. Ok (take_at front rest n size i, record { place = place + n; left = drop_at front rest n size i }))

-- a byte
pub u8_at-front : (place byte : ℕ) (rest : List ℕ)
    → u8_at (record { place = place; left = byte ∷ rest }) ≡ Ok (byte, record { place = place + 1; left = rest })
unfolding u8_at
u8_at-front place byte rest = rw (le-leb 1 (length (byte ∷ rest)) (omega arith)) refl

-- a number in two bytes
pub u16_at-front : (place number : ℕ) (rest : List ℕ) → number < 2 ^ 16
    → u16_at (record { place = place; left = to_be_bytes w16 number ++ rest }) ≡ Ok (number, record { place = place + 2; left = rest })
unfolding u16_at
u16_at-front place number rest fits =
    rw (bytes_at-front 2 place (to_be_bytes w16 number) rest refl)
    (ap (λ n. Ok (n, record { place = place + 2; left = rest })) (from_be_bytes-to_be_bytes_2 number fits))

-- a number in four bytes
pub u32_at-front : (place number : ℕ) (rest : List ℕ) → number < 2 ^ 32
    → u32_at (record { place = place; left = to_be_bytes w32 number ++ rest }) ≡ Ok (number, record { place = place + 4; left = rest })
unfolding u32_at
u32_at-front place number rest fits =
    rw (bytes_at-front 4 place (to_be_bytes w32 number) rest refl)
    (ap (λ n. Ok (n, record { place = place + 4; left = rest })) (from_be_bytes-to_be_bytes_4 number fits))

-- a number in eight bytes
pub u64_at-front : (place number : ℕ) (rest : List ℕ) → number < 2 ^ 64
    → u64_at (record { place = place; left = to_be_bytes w64 number ++ rest }) ≡ Ok (number, record { place = place + 8; left = rest })
unfolding u64_at
u64_at-front place number rest fits =
    rw (bytes_at-front 8 place (to_be_bytes w64 number) rest refl)
    (ap (λ n. Ok (n, record { place = place + 8; left = rest })) (from_be_bytes-to_be_bytes_8 number fits))

-- a field with its length byte
pub field8_at-front : (place : ℕ) (field rest : List ℕ)
    → field8_at (record { place = place; left = field8 field ++ rest })
    ≡ Ok (field, record { place = place + 1 + length field; left = rest })
unfolding field8_at
field8_at-front place field rest =
    rw (u8_at-front place (length field) (field ++ rest)) (bytes_at-front (length field) (place + 1) field rest refl)

-- the end
pub end_at-none : (place : ℕ) → end_at (record { place = place; left = [] }) ≡ Ok tt
unfolding end_at
end_at-none place = refl

-- ---- what was read stood in front

-- these bytes were passed
pub record Passed (bytes : List ℕ) (at rest : Unread) : Type 0 where
  pub left : at.left ≡ bytes ++ rest.left
  pub place : rest.place ≡ at.place + length bytes

abbrev pair : {A : Type 0} → A → Unread → A × Unread
pair x rest = (x, rest)

passed_by_count : (n : ℕ) (at rest : Unread) (field : List ℕ) → n ≤ length at.left → take n at.left ≡ field → past n at ≡ rest
    → Passed field at rest
passed_by_count n at rest field fits front after =
    let size : length field ≡ n = ap length (sym front) ∙ length-take-le n at.left fits in
    record {
      left = sym (take-append-drop n at.left) ∙ (λ i. front i ++ (after i).left);
      place = ap (λ r. r.place) (sym after) ∙ ap (λ k. at.place + k) (sym size);
    }

-- so many bytes
pub bytes_at-passed : (n : ℕ) (at rest : Unread) (field : List ℕ) → bytes_at n at ≡ Ok (field, rest) → Passed field at rest
unfolding bytes_at
bytes_at-passed n at rest field is =
    elim (cases_lt (length at.left) n) [
      | inl under ↦ (let no : nat_le n (length at.left) ≡ false = lt-leb n (length at.left) under in absurd (let e = rw no at is in cc))
      | inr fits ↦ (let yes : nat_le n (length at.left) ≡ true = le-leb n (length at.left) fits in
          let e = rw yes at is in
          let same : pair (take n at.left) (past n at) ≡ pair field rest = cc in
          passed_by_count n at rest field fits (ap (λ p. p.0) same) (ap (λ p. p.1) same))
    ]

pub bytes_at-size : (n : ℕ) (at rest : Unread) (field : List ℕ) → bytes_at n at ≡ Ok (field, rest) → length field ≡ n
unfolding bytes_at
bytes_at-size n at rest field is =
    elim (cases_lt (length at.left) n) [
      | inl under ↦ (let no : nat_le n (length at.left) ≡ false = lt-leb n (length at.left) under in absurd (let e = rw no at is in cc))
      | inr fits ↦ (let yes : nat_le n (length at.left) ≡ true = le-leb n (length at.left) fits in
          let e = rw yes at is in
          let same : pair (take n at.left) (past n at) ≡ pair field rest = cc in
          ap length (sym (ap (λ p. p.0) same)) ∙ length-take-le n at.left fits)
    ]

-- a byte
pub u8_at-passed : (at rest : Unread) (byte : ℕ) → u8_at at ≡ Ok (byte, rest) → Passed (byte ∷ []) at rest
unfolding u8_at
u8_at-passed at rest byte is =
    elim (cases_lt (length at.left) 1) [
      | inl under ↦ (let no : nat_le 1 (length at.left) ≡ false = lt-leb 1 (length at.left) under in absurd (let e = rw no at is in cc))
      | inr fits ↦ (let yes : nat_le 1 (length at.left) ≡ true = le-leb 1 (length at.left) fits in
          let e = rw yes at is in
          let same : pair (slice_index at.left 0) (past 1 at) ≡ pair byte rest = cc in
          let first : at.left ≡ slice_index at.left 0 ∷ drop 1 at.left = drop_more at.left 0 0 fits in
          let front : take 1 at.left ≡ byte ∷ [] = ap (take 1) first ∙ ap (λ b. b ∷ []) (ap (λ p. p.0) same) in
          passed_by_count 1 at rest (byte ∷ []) fits front (ap (λ p. p.1) same))
    ]

-- bytes are numbers below 256
pub record AreBytes (bytes : List ℕ) : Type 0 where
  pub each : (i : ℕ) → get_or bytes i 0 < 256

are_bytes-take : (n : ℕ) (bytes field rest : List ℕ) → bytes ≡ field ++ rest → length field ≡ n → AreBytes bytes → (i : ℕ) → get_or field i 0 < 256
are_bytes-take n bytes field rest is size all i =
    elim (cases_lt i (length field)) [
      | inl inside ↦ (let e : get_or bytes i 0 ≡ get_or field i 0 = ap (λ b. get_or b i 0) is ∙ get_or_append_left field rest 0 i inside in let h = all.each i in omega arith)
      | inr past_end ↦ (let e = get_or_past field i 0 past_end in omega arith)
    ]

-- the number in the bytes that were read
abbrev numbered : (List ℕ → ℕ) → List ℕ × Unread → Result (ℕ × Unread) ByteFault
numbered of field = Ok (of field.0, field.1)

module _ (n : ℕ) (at rest : Unread) (number : ℕ) (of : List ℕ → ℕ) (spelled : ℕ → List ℕ) where
  -- where a number read is spelled by the bytes that it was read from
  passed_by_number : ((bytes : List ℕ) (m : ℕ) → length bytes ≡ n → ((i : ℕ) → get_or bytes i 0 < 256) → m ≡ of bytes → spelled m ≡ bytes)
      → AreBytes at.left → (read : Result (List ℕ × Unread) ByteFault) → bytes_at n at ≡ read → (read >>= numbered of) ≡ Ok (number, rest)
      → Passed (spelled number) at rest
  passed_by_number back all (Err fault) read is = absurd (cc)
  passed_by_number back all (Ok field) read is =
      let same : pair (of field.0) field.1 ≡ pair number rest = cc in
      let passed = bytes_at-passed n at field.1 field.0 read in
      let size = bytes_at-size n at field.1 field.0 read in
      let bytes = back field.0 number size (are_bytes-take n at.left field.0 field.1.left passed.left size all) (sym (ap (λ p. p.0) same)) in
      record {
        left = passed.left ∙ (λ i. sym bytes i ++ (same i).1.left);
        place = ap (λ p. p.1.place) (sym same) ∙ passed.place ∙ ap (λ b. at.place + length b) (sym bytes);
      }

-- what is left of bytes are bytes
pub are_bytes-passed : (bytes : List ℕ) (at rest : Unread) → Passed bytes at rest → AreBytes at.left → AreBytes rest.left
are_bytes-passed bytes at rest passed all = record {
  each = λ i.
      let e : get_or at.left (length bytes + i) 0 ≡ get_or rest.left i 0 =
      ap (λ b. get_or b (length bytes + i) 0) passed.left ∙ get_or-append-add bytes rest.left i 0 in
      let h = all.each (length bytes + i) in omega arith;
}

-- a number in two bytes
pub u16_at-passed : (at rest : Unread) (number : ℕ) → AreBytes at.left → u16_at at ≡ Ok (number, rest) → Passed (to_be_bytes w16 number) at rest
unfolding u16_at
u16_at-passed at rest number all is = passed_by_number 2 at rest number (from_be_bytes w16) (to_be_bytes w16) be_bytes_2 all (bytes_at 2 at) refl is

-- a number in four bytes
pub u32_at-passed : (at rest : Unread) (number : ℕ) → AreBytes at.left → u32_at at ≡ Ok (number, rest) → Passed (to_be_bytes w32 number) at rest
unfolding u32_at
u32_at-passed at rest number all is = passed_by_number 4 at rest number (from_be_bytes w32) (to_be_bytes w32) be_bytes_4 all (bytes_at 4 at) refl is

-- a number in eight bytes
pub u64_at-passed : (at rest : Unread) (number : ℕ) → AreBytes at.left → u64_at at ≡ Ok (number, rest) → Passed (to_be_bytes w64 number) at rest
unfolding u64_at
u64_at-passed at rest number all is = passed_by_number 8 at rest number (from_be_bytes w64) (to_be_bytes w64) be_bytes_8 all (bytes_at 8 at) refl is

field_passed : (at rest : Unread) (field : List ℕ) (read : Result (ℕ × Unread) ByteFault) → u8_at at ≡ read
    → (read >>= λ (size : ℕ × Unread). bytes_at size.0 size.1) ≡ Ok (field, rest) → Passed (field8 field) at rest
field_passed at rest field (Err fault) first is = absurd (cc)
field_passed at rest field (Ok size) first is =
    let byte = u8_at-passed at size.1 size.0 first in
    let bytes = bytes_at-passed size.0 size.1 rest field is in
    let count = bytes_at-size size.0 size.1 rest field is in
    let length_byte : size.0 ≡ length field = sym count in
    record {
      left = byte.left ∙ (λ i. length_byte i ∷ bytes.left i);
      place = bytes.place ∙ ap (λ k. k + length field) byte.place ∙ omega arith;
    }

-- a field with its length byte
pub field8_at-passed : (at rest : Unread) (field : List ℕ) → field8_at at ≡ Ok (field, rest) → Passed (field8 field) at rest
unfolding field8_at
field8_at-passed at rest field is = field_passed at rest field (u8_at at) refl is

-- the end
pub end_at-passed : (at : Unread) → end_at at ≡ Ok tt → at.left ≡ []
unfolding end_at
end_at-passed at is =
    elim (cases_eq (length at.left) 0) [
      | inl none ↦ nil_from_length at.left none
      | inr some ↦ (let no : nat_eq (length at.left) 0 ≡ false = ne_eqb (length at.left) 0 some in absurd (let e = rw no at is in cc))
    ]

-- ---- faults

-- a fault is that of the missing piece
pub bytes_at-short : (n : ℕ) (at : Unread) → length at.left < n → bytes_at n at ≡ Err (Short at.place)
unfolding bytes_at
bytes_at-short n at short = rw (lt-leb n (length at.left) short) refl

pub u8_at-short : (at : Unread) → at.left ≡ [] → u8_at at ≡ Err (Short at.place)
unfolding u8_at
u8_at-short at none = rw (lt-leb 1 (length at.left) (omega (arith, ap length none))) refl

-- a reading of bytes at a place of a whole, where pieces have fixed places
pub bytes_at-whole : (n place : ℕ) (bytes : List ℕ) → place + n ≤ length bytes
    → bytes_at n (record { place = place; left = drop place bytes })
    ≡ Ok (take n (drop place bytes), record { place = place + n; left = drop (place + n) bytes })
unfolding bytes_at
bytes_at-whole n place bytes fits =
    let inside : n ≤ length (drop place bytes) = omega (arith, length-drop place bytes) in
    rw (le-leb n (length (drop place bytes)) inside)
    (ap (λ rest. Ok (take n (drop place bytes), record { place = place + n; left = rest })) (drop-drop n place bytes))
