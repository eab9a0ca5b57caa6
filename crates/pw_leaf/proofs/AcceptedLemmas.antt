-- Bytes that are accepted are the record of what they hold.
use Rattle.std.proofs.Common.{◌≡◌, ℕ, zero, suc, ◌+◌, ◌-◌, ◌*◌, ◌<◌, ◌≤◌, ◌^◌, Bool, true, false, cond, eqb, ltb, leb, ◌&&◌, ◌||◌, Option, Some, None, Ok, List, [], ◌∷◌, ◌++◌, length, take, drop, replicate, get_or, All, inl, inr, take-add, refl, sym, ◌∙◌, ap, subst, arith}
use Rattle.std.specs.Prelude.{slice_index}
use Rattle.std.specs.List.{list_all}
use Rattle.std.specs.Int.{w16, w32, w64, to_be_bytes, from_be_bytes}
use Rattle.std.proofs.lemmas.Bool.{and_parts, and_cases, or_parts, eqb-true, eqb-false, ltb-false, leb-false, cases_lt}
use Rattle.std.proofs.lemmas.List.{take_more, take-append-drop, length-drop, length-take-le, drop-drop, get_or_past}
use Rattle.std.proofs.lemmas.List.Elements.{All-take, All-drop}
use Rattle.std.proofs.lemmas.Nat.{be_bytes_2, be_bytes_4, be_bytes_8}
use Rattle.aes_core.specs.Counter.{gctr}
use Rattle.aes_core.proofs.StreamLemmas.{length-gctr, gctr-gctr}
use Rattle.hmac_sha.specs.Hmac.{hmac}
use Rattle.pw_types.specs.Schedule.{limit_of}
use Rattle.pw_leaf.specs.declared.keys.ChipKeys.{ChipKeys}
use Rattle.pw_leaf.specs.Contents.{Contents, IsContents}
use Rattle.pw_leaf.specs.LeafBytes.{pairs_bytes, pairs_field, open_part, secret_part, leaf_text, leaf_mac, leaf_bytes}
use Rattle.pw_leaf.specs.Reading.{pairs_of, label_in, count_in, pairs_in, unused_in, wrong_in, last_in, iv_in, secrets_in, mac_of, text_of, contents_in, has_schedule, shape_fault, check_at}
use Rattle.pw_leaf.proofs.ReadLemmas.{check_at-is, has_schedule-from_shape, IsSchedule-from_shape}

-- ---- the rules that are kept where no fault is named

pub record KeepsShape (bytes : List ℕ) : Type 0 where
  pub label : label_in bytes < 16384
  pub few : count_in bytes ≤ 16
  pub wrong : wrong_in bytes ≤ limit_of (pairs_in bytes)
  pub moment : (last_in bytes).at < 2 ^ 40
  pub fresh : wrong_in bytes ≡ 0 → ((last_in bytes).boot ≡ 0) × ((last_in bytes).at ≡ 0)

-- a test that names a fault failed
passed : (b : Bool) (n : ℕ) (rest : Option ℕ) → cond b (Some n) rest ≡ None → (b ≡ false) × (rest ≡ None)
passed true n rest e = cc e
passed false n rest e = (refl, e)

-- a test that names a fault where it fails held
held : (b : Bool) (n : ℕ) (rest : Option ℕ) → cond b rest (Some n) ≡ None → (b ≡ true) × (rest ≡ None)
held true n rest e = (refl, e)
held false n rest e = cc e

blank : (wrong m : ℕ) → (eqb wrong 0 && ltb 0 m) ≡ false → wrong ≡ 0 → m ≡ 0
blank wrong m e none =
    elim (and_cases (eqb wrong 0) (ltb 0 m) e) [
      | inl some ↦ absurd (eqb-false wrong 0 some none)
      | inr least ↦ omega (arith, ltb-false 0 m least)
    ]

pub KeepsShape-from_shape : (bytes : List ℕ) → shape_fault bytes ≡ None → KeepsShape bytes
unfolding shape_fault
KeepsShape-from_shape bytes e =
    let wrong = wrong_in bytes in
    let last = last_in bytes in
    let label = passed (leb 16384 (label_in bytes)) 1 _ e in
    let count = passed (eqb (count_in bytes) 0 || ltb 16 (count_in bytes)) 3 _ label.1 in
    let schedule = held (has_schedule bytes) 4 _ count.1 in
    let tries = passed (ltb (limit_of (pairs_in bytes)) wrong) 132 _ schedule.1 in
    let boot = passed (eqb wrong 0 && ltb 0 last.boot) 136 _ tries.1 in
    let moment = passed (leb (2 ^ 40) last.at || (eqb wrong 0 && ltb 0 last.at)) 144 None boot.1 in
    let at = or_parts (leb (2 ^ 40) last.at) (eqb wrong 0 && ltb 0 last.at) moment.0 in
    record {
      label = leb-false 16384 (label_in bytes) label.0;
      few = ltb-false 16 (count_in bytes) (or_parts (eqb (count_in bytes) 0) (ltb 16 (count_in bytes)) count.0).1;
      wrong = ltb-false (limit_of (pairs_in bytes)) wrong tries.0;
      moment = leb-false (2 ^ 40) last.at at.0;
      fresh = λ none. (blank wrong last.boot boot.0 none, blank wrong last.at at.1 none);
    }

-- ---- numbers

-- all are bytes
abbrev pub AreBytes : List ℕ → Type 0
AreBytes bytes = All (λ byte. byte < 256) bytes

-- also past the end, where 0 is read
pub byte_fits : (bytes : List ℕ) → AreBytes bytes → (i : ℕ) → get_or bytes i 0 < 256
byte_fits bytes fit i =
    elim (cases_lt i (length bytes)) [
      | inl inside ↦ fit i 0 inside
      | inr past ↦ rw (get_or_past bytes i 0 past) (omega arith)
    ]

-- a field inside has its length
pub length_field : (bytes : List ℕ) (at n : ℕ) → at + n ≤ length bytes → length (take n (drop at bytes)) ≡ n
length_field bytes at n inside = length-take-le n (drop at bytes) (let l = length-drop at bytes in omega arith)

-- a field is of bytes
pub field_fits : (bytes : List ℕ) (at n : ℕ) → AreBytes bytes → (i : ℕ) → get_or (take n (drop at bytes)) i 0 < 256
field_fits bytes at n fit =
    byte_fits (take n (drop at bytes)) (All-take (λ byte. byte < 256) n (drop at bytes) (All-drop (λ byte. byte < 256) at bytes fit))

-- a number that was read, written again
pub number_2 : (bytes : List ℕ) (at : ℕ) → AreBytes bytes → at + 2 ≤ length bytes → to_be_bytes w16 (from_be_bytes w16 (take 2 (drop at bytes))) ≡ take 2 (drop at bytes)
number_2 bytes at fit inside = be_bytes_2 (take 2 (drop at bytes)) _ (length_field bytes at 2 inside) (field_fits bytes at 2 fit) refl

pub number_4 : (bytes : List ℕ) (at : ℕ) → AreBytes bytes → at + 4 ≤ length bytes → to_be_bytes w32 (from_be_bytes w32 (take 4 (drop at bytes))) ≡ take 4 (drop at bytes)
number_4 bytes at fit inside = be_bytes_4 (take 4 (drop at bytes)) _ (length_field bytes at 4 inside) (field_fits bytes at 4 fit) refl

pub number_8 : (bytes : List ℕ) (at : ℕ) → AreBytes bytes → at + 8 ≤ length bytes → to_be_bytes w64 (from_be_bytes w64 (take 8 (drop at bytes))) ≡ take 8 (drop at bytes)
number_8 bytes at fit inside = be_bytes_8 (take 8 (drop at bytes)) _ (length_field bytes at 8 inside) (field_fits bytes at 8 fit) refl

-- eight bytes as a number
eight_fit : (a b c d e f g h : ℕ) → a < 256 → b < 256 → c < 256 → d < 256 → e < 256 → f < 256 → g < 256 → h < 256
    → a * 256 ^ 7 + b * 256 ^ 6 + c * 256 ^ 5 + d * 256 ^ 4 + e * 256 ^ 3 + f * 256 ^ 2 + g * 256 ^ 1 + h < 2 ^ 64
eight_fit a b c d e f g h a' b' c' d' e' f' g' h' = omega arith

-- what eight bytes hold is below 2^64
pub number_fits : (bytes : List ℕ) → ((i : ℕ) → get_or bytes i 0 < 256) → from_be_bytes w64 bytes < 2 ^ 64
number_fits bytes fit =
    eight_fit (get_or bytes 0 0) (get_or bytes 1 0) (get_or bytes 2 0) (get_or bytes 3 0) (get_or bytes 4 0) (get_or bytes 5 0) (get_or bytes 6 0) (get_or bytes 7 0)
    (fit 0) (fit 1) (fit 2) (fit 3) (fit 4) (fit 5) (fit 6) (fit 7)

-- ---- pairs

length-pairs_of : (n : ℕ) (bytes : List ℕ) → length (pairs_of n bytes) ≡ n
unfolding pairs_of
length-pairs_of zero bytes = refl
length-pairs_of (suc n) bytes = ap suc (length-pairs_of n (drop 8 bytes))

-- eight bytes and what follows them
eight_and_more : (n : ℕ) (bytes : List ℕ) → take 4 bytes ++ (take 4 (drop 4 bytes) ++ take (8 * n) (drop 8 bytes)) ≡ take (8 * suc n) bytes
eight_and_more n bytes =
    let at8 : drop 4 (drop 4 bytes) ≡ drop 8 bytes = drop-drop 4 4 bytes in
    let more : 4 + (4 + 8 * n) ≡ 8 * suc n = omega arith in
    sym (ap (λ k. take k bytes) (sym more) ∙ take-add 4 (4 + 8 * n) bytes
    ∙ ap (λ z. take 4 bytes ++ z) (take-add 4 (8 * n) (drop 4 bytes) ∙ ap (λ z. take 4 (drop 4 bytes) ++ take (8 * n) z) at8))

-- pairs that were read, written again
pairs_bytes-pairs_of : (n : ℕ) (bytes : List ℕ) → AreBytes bytes → 8 * n ≤ length bytes → pairs_bytes (pairs_of n bytes) ≡ take (8 * n) bytes
unfolding pairs_bytes pairs_of
pairs_bytes-pairs_of zero bytes fit inside = refl
pairs_bytes-pairs_of (suc n) bytes fit inside =
    let first = number_4 bytes 0 fit (omega arith) in
    let second = number_4 bytes 4 fit (omega arith) in
    let l = length-drop 8 bytes in
    let rest = pairs_bytes-pairs_of n (drop 8 bytes) (All-drop (λ byte. byte < 256) 8 bytes fit) (omega arith) in
    (λ i. first i ++ (second i ++ rest i)) ∙ eight_and_more n bytes

zeros : (bytes : List ℕ) → list_all (λ byte. eqb byte 0) bytes ≡ true → bytes ≡ replicate (length bytes) 0
zeros [] all = refl
zeros (byte ∷ bytes) all =
    let parts = and_parts (eqb byte 0) (list_all (λ b. eqb b 0) bytes) all in
    let first = eqb-true byte 0 parts.0 in
    let rest = zeros bytes parts.1 in
    λ i. first i ∷ rest i

-- the room of 16 pairs
pairs_field-pairs_in : (bytes : List ℕ) → length bytes ≡ 296 → AreBytes bytes → count_in bytes ≤ 16 → has_schedule bytes ≡ true → pairs_field (pairs_in bytes) ≡ take 128 (drop 4 bytes)
unfolding pairs_field has_schedule
pairs_field-pairs_in bytes long fit few schedule =
    let n = count_in bytes in
    let size = length-pairs_of n (drop 4 bytes) in
    let l = length-drop 4 bytes in
    let used = pairs_bytes-pairs_of n (drop 4 bytes) (All-drop (λ byte. byte < 256) 4 bytes fit) (omega arith) in
    let room : 132 - (4 + 8 * n) ≡ 128 - 8 * length (pairs_in bytes) = ap (λ k. 132 - (4 + 8 * k)) (sym size) ∙ omega arith in
    let unused : unused_in bytes ≡ replicate (128 - 8 * length (pairs_in bytes)) 0 =
    zeros (unused_in bytes) (and_parts _ (list_all (λ byte. eqb byte 0) (unused_in bytes)) schedule).1
    ∙ ap (λ k. replicate k 0) (length_field bytes (4 + 8 * n) (132 - (4 + 8 * n)) (omega arith) ∙ room) in
    let behind : unused_in bytes ≡ take (132 - (4 + 8 * n)) (drop (8 * n) (drop 4 bytes)) = ap (take (132 - (4 + 8 * n))) (sym (drop-drop (8 * n) 4 bytes)) in
    let whole : 8 * n + (132 - (4 + 8 * n)) ≡ 128 = omega arith in
    (λ i. used i ++ sym unused i) ∙ ap (λ z. take (8 * n) (drop 4 bytes) ++ z) behind
    ∙ sym (take-add (8 * n) (132 - (4 + 8 * n)) (drop 4 bytes)) ∙ ap (λ k. take k (drop 4 bytes)) whole

-- ---- secrets

length-secrets_in : (keys : ChipKeys) (bytes : List ℕ) → length bytes ≡ 296 → length (secrets_in keys bytes) ≡ 96
length-secrets_in keys bytes long = length-gctr 8 14 keys.enc (iv_in bytes) (take 96 (drop 168 bytes)) ∙ length_field bytes 168 96 (omega arith)

joined : (s : List ℕ) → take 32 s ++ take 32 (drop 32 s) ++ drop 64 s ≡ s
joined s = ap (λ z. z ++ drop 64 s) (sym (take-add 32 32 s)) ∙ take-append-drop 64 s

-- secrets that were shown, hidden again
secret_part-contents_in : (keys : ChipKeys) (bytes : List ℕ) → secret_part keys (contents_in keys bytes) ≡ take 96 (drop 168 bytes)
unfolding secret_part
secret_part-contents_in keys bytes =
    ap (gctr 8 14 keys.enc (iv_in bytes)) (joined (secrets_in keys bytes)) ∙ gctr-gctr 8 14 keys.enc (iv_in bytes) (take 96 (drop 168 bytes))

-- ---- the whole record

IsContents-contents_in : (keys : ChipKeys) (bytes : List ℕ) → length bytes ≡ 296 → AreBytes bytes → shape_fault bytes ≡ None → IsContents (contents_in keys bytes)
IsContents-contents_in keys bytes long fit right =
    let keeps = KeepsShape-from_shape bytes right in
    let s = secrets_in keys bytes in
    let size : length s ≡ 96 = length-secrets_in keys bytes long in
    let past = length-drop 32 s in
    record {
      label = keeps.label;
      schedule = IsSchedule-from_shape bytes right;
      wrong = keeps.wrong;
      boot = number_fits (take 8 (drop 136 bytes)) (field_fits bytes 136 8 fit);
      moment = keeps.moment;
      fresh = keeps.fresh;
      les = length-take-le 32 s (omega arith);
      hes = length-take-le 32 (drop 32 s) (omega arith);
      reset = length-drop 64 s ∙ omega arith;
      iv = length_field bytes 152 16 (omega arith);
    }

-- the bytes up to the end of one more field
pub one_more : (at n to : ℕ) (bytes front field : List ℕ) → at + n ≡ to → take at bytes ≡ front → field ≡ take n (drop at bytes) → take to bytes ≡ front ++ field
one_more at n to bytes front field ends so_far same = ap (λ k. take k bytes) (sym ends) ∙ take-add at n bytes ∙ (λ i. so_far i ++ sym same i)

-- bytes 0 to 131
abbrev pub front_part : Contents → List ℕ
front_part x = (1 ∷ []) ++ to_be_bytes w16 x.label ++ (length x.schedule ∷ []) ++ pairs_field x.schedule

front_read : (keys : ChipKeys) (bytes : List ℕ) → length bytes ≡ 296 → AreBytes bytes → slice_index bytes 0 ≡ 1 → shape_fault bytes ≡ None → take 132 bytes ≡ front_part (contents_in keys bytes)
front_read keys bytes long fit version right =
    let keeps = KeepsShape-from_shape bytes right in
    let f1 : take 1 bytes ≡ 1 ∷ [] = take_more bytes 0 0 (omega arith) ∙ ap (λ v. v ∷ []) version in
    let f3 = one_more 1 2 3 bytes _ (to_be_bytes w16 (label_in bytes)) refl f1 (number_2 bytes 1 fit (omega arith)) in
    let f4 : take 4 bytes ≡ (1 ∷ []) ++ to_be_bytes w16 (label_in bytes) ++ (length (pairs_in bytes) ∷ []) =
    take_more bytes 3 0 (omega arith) ∙ (λ i. f3 i ++ sym (length-pairs_of (count_in bytes) (drop 4 bytes)) i ∷ []) in
    one_more 4 128 132 bytes _ (pairs_field (pairs_in bytes)) refl f4 (pairs_field-pairs_in bytes long fit keeps.few (has_schedule-from_shape bytes right))

open_read : (keys : ChipKeys) (bytes : List ℕ) → length bytes ≡ 296 → AreBytes bytes → slice_index bytes 0 ≡ 1 → shape_fault bytes ≡ None → take 168 bytes ≡ open_part (contents_in keys bytes)
unfolding open_part
open_read keys bytes long fit version right =
    let f132 = front_read keys bytes long fit version right in
    let f136 = one_more 132 4 136 bytes _ (to_be_bytes w32 (wrong_in bytes)) refl f132 (number_4 bytes 132 fit (omega arith)) in
    let f144 = one_more 136 8 144 bytes _ (to_be_bytes w64 (last_in bytes).boot) refl f136 (number_8 bytes 136 fit (omega arith)) in
    let f152 = one_more 144 8 152 bytes _ (to_be_bytes w64 (last_in bytes).at) refl f144 (number_8 bytes 144 fit (omega arith)) in
    one_more 152 16 168 bytes _ (iv_in bytes) refl f152 refl

-- bytes that are accepted, in the parts that they are written in
pub record IsWritten (keys : ChipKeys) (bytes : List ℕ) (x : Contents) : Type 0 where
  pub contents : IsContents x
  pub front : take 132 bytes ≡ front_part x
  pub iv : take 16 (drop 152 bytes) ≡ x.iv
  pub secrets : take 96 (drop 168 bytes) ≡ secret_part keys x
  pub whole : bytes ≡ leaf_bytes keys x

whole_read : (keys : ChipKeys) (bytes : List ℕ) (x : Contents) → take 168 bytes ≡ open_part x → take 96 (drop 168 bytes) ≡ secret_part keys x → mac_of bytes ≡ hmac keys.mac (text_of bytes) → bytes ≡ leaf_bytes keys x
unfolding leaf_bytes leaf_text leaf_mac
whole_read keys bytes x front secrets mac =
    let text : take 264 bytes ≡ leaf_text keys x = one_more 168 96 264 bytes (open_part x) (secret_part keys x) refl front (sym secrets) in
    let signed : drop 264 bytes ≡ leaf_mac keys x = mac ∙ ap (hmac keys.mac) text in
    sym (take-append-drop 264 bytes) ∙ (λ i. text i ++ signed i)

written_again : (keys : ChipKeys) (bytes : List ℕ) → length bytes ≡ 296 → AreBytes bytes → slice_index bytes 0 ≡ 1 → shape_fault bytes ≡ None → mac_of bytes ≡ hmac keys.mac (text_of bytes) → IsWritten keys bytes (contents_in keys bytes)
written_again keys bytes long fit version right mac =
    let x = contents_in keys bytes in
    let secrets : take 96 (drop 168 bytes) ≡ secret_part keys x = sym (secret_part-contents_in keys bytes) in
    record {
      contents = IsContents-contents_in keys bytes long fit right;
      front = front_read keys bytes long fit version right;
      iv = refl;
      secrets = secrets;
      whole = whole_read keys bytes x (open_read keys bytes long fit version right) secrets mac;
    }

-- what is accepted is written so
pub IsWritten-accepted : (keys : ChipKeys) (bytes : List ℕ) (x : Contents) → AreBytes bytes → check_at keys bytes ≡ Ok x → IsWritten keys bytes x
IsWritten-accepted keys bytes x fit ok =
    let is = check_at-is keys bytes x ok in
    subst (IsWritten keys bytes) (sym is.same) (written_again keys bytes is.long fit is.version is.right is.mac)
