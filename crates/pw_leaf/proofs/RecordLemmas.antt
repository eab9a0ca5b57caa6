-- A record that is written is read as what was written.
use Rattle.std.proofs.Common.{◌≡◌, ℕ, zero, suc, ◌+◌, ◌-◌, ◌*◌, ◌<◌, ◌≤◌, ◌^◌, ◌⊎◌, inl, inr, true, cond, eqb, None, Ok, Err, List, [], ◌∷◌, ◌++◌, length, take, drop, replicate, get_or-drop, refl, sym, ◌∙◌, ap, arith}
use Rattle.std.specs.Prelude.{slice_index}
use Rattle.std.specs.List.{list_all}
use Rattle.std.specs.Int.{w16, w32, w64, to_be_bytes, from_be_bytes}
use Rattle.std.proofs.lemmas.Bool.{cases_eq, and_from}
use Rattle.std.proofs.lemmas.Slice.Eq.{bytes_eq-Decides}
use Rattle.std.proofs.lemmas.List.{take_at, drop_at, length-append, length-drop, length-replicate, append_assoc}
use Rattle.std.proofs.lemmas.Nat.{from_be_bytes-to_be_bytes_2, from_be_bytes-to_be_bytes_4, from_be_bytes-to_be_bytes_8}
use Rattle.ct_bytes.proofs.FieldLemmas.{drop_past, take_there}
use Rattle.aes_core.specs.Counter.{gctr}
use Rattle.aes_core.proofs.StreamLemmas.{length-gctr, gctr-gctr}
use Rattle.hmac_sha.specs.Hmac.{hmac}
use Rattle.hmac_sha.proofs.BlockLemmas.{length-hmac}
use Rattle.pw_types.specs.Schedule.{pair_at, IsSchedule, is_schedule}
use Rattle.pw_types.proofs.ScheduleLemmas.{is_schedule-Decides, seconds_at_most_locked}
use Rattle.pw_leaf.specs.declared.keys.ChipKeys.{ChipKeys}
use Rattle.pw_leaf.specs.declared.fault.LeafFault.TheVariants.{BadMac}
use Rattle.pw_leaf.specs.Contents.{Contents, IsContents}
use Rattle.pw_leaf.specs.LeafBytes.{pairs_bytes, pairs_field, open_part, secret_part, leaf_text, leaf_mac, leaf_bytes}
use Rattle.pw_leaf.specs.Reading.{pairs_of, count_in, pairs_in, unused_in, iv_in, secrets_in, mac_of, text_of, shown_in, contents_in, has_schedule, shape_fault, look_at, signed_by, check_at}
use Rattle.pw_leaf.proofs.FieldLemmas.{length-pairs_bytes}
use Rattle.pw_leaf.proofs.ReadLemmas.{shape_fault-none}

pub length-leaf_mac : (keys : ChipKeys) (x : Contents) → length (leaf_mac keys x) ≡ 32
unfolding leaf_mac
length-leaf_mac keys x = length-hmac keys.mac (leaf_text keys x)

-- ---- where each field stands

record Laid (keys : ChipKeys) (x : Contents) (b : List ℕ) : Type 0 where
  version : slice_index b 0 ≡ 1
  count : count_in b ≡ length x.schedule
  label : take 2 (drop 1 b) ≡ to_be_bytes w16 x.label
  pairs : drop 4 b ≡ pairs_bytes x.schedule ++ (replicate (128 - 8 * length x.schedule) 0 ++ drop 132 b)
  wrong : take 4 (drop 132 b) ≡ to_be_bytes w32 x.wrong
  boot : take 8 (drop 136 b) ≡ to_be_bytes w64 x.last.boot
  moment : take 8 (drop 144 b) ≡ to_be_bytes w64 x.last.at
  iv : iv_in b ≡ x.iv
  secrets : take 96 (drop 168 b) ≡ secret_part keys x
  mac : mac_of b ≡ leaf_mac keys x
  whole : length b ≡ 296

layout_of : (v n : ℕ) (label pairs zeros wrong boot at iv secrets mac : List ℕ)
    → (((v ∷ []) ++ label ++ (n ∷ []) ++ (pairs ++ zeros) ++ wrong ++ boot ++ at ++ iv) ++ secrets) ++ mac
    ≡ v ∷ (label ++ (n ∷ (pairs ++ (zeros ++ (wrong ++ (boot ++ (at ++ (iv ++ (secrets ++ mac)))))))))
layout_of v n label pairs zeros wrong boot at iv secrets mac =
    simp append_assoc (ap (λ z. v ∷ z) (append_assoc label (n ∷ []) (pairs ++ (zeros ++ (wrong ++ (boot ++ (at ++ (iv ++ (secrets ++ mac)))))))))

length-secret_part : (keys : ChipKeys) (x : Contents) → IsContents x → length (secret_part keys x) ≡ 96
unfolding secret_part
length-secret_part keys x h =
    length-gctr 8 14 keys.enc x.iv (x.les ++ x.hes ++ x.reset)
    ∙ (let e = length-append (x.les ++ x.hes) x.reset in let f = length-append x.les x.hes in let l = h.les in let m = h.hes in let n = h.reset in omega arith)

laid_by : (keys : ChipKeys) (x : Contents) (b label pairs zeros wrong boot at iv secrets mac : List ℕ) (n : ℕ)
    → b ≡ 1 ∷ (label ++ (n ∷ (pairs ++ (zeros ++ (wrong ++ (boot ++ (at ++ (iv ++ (secrets ++ mac)))))))))
    → n ≡ length x.schedule → length x.schedule ≤ 16
    → label ≡ to_be_bytes w16 x.label → pairs ≡ pairs_bytes x.schedule → zeros ≡ replicate (128 - 8 * length x.schedule) 0
    → wrong ≡ to_be_bytes w32 x.wrong → boot ≡ to_be_bytes w64 x.last.boot → at ≡ to_be_bytes w64 x.last.at → iv ≡ x.iv → secrets ≡ secret_part keys x → mac ≡ leaf_mac keys x
    → length label ≡ 2 → length wrong ≡ 4 → length boot ≡ 8 → length at ≡ 8 → length iv ≡ 16 → length secrets ≡ 96
    → Laid keys x b
laid_by keys x b label pairs zeros wrong boot at iv secrets mac n e en few el ep ez ew eb ea ei es em ll lw lb la li ls =
    let d1 : drop 1 b ≡ label ++ (n ∷ (pairs ++ (zeros ++ (wrong ++ (boot ++ (at ++ (iv ++ (secrets ++ mac)))))))) = ap (drop 1) e in
    let d3 = drop_past 1 2 3 b label (n ∷ (pairs ++ (zeros ++ (wrong ++ (boot ++ (at ++ (iv ++ (secrets ++ mac)))))))) refl d1 ll in
    let d4 = drop_past 3 1 4 b (n ∷ []) (pairs ++ (zeros ++ (wrong ++ (boot ++ (at ++ (iv ++ (secrets ++ mac))))))) refl d3 refl in
    let lp : length pairs ≡ 8 * length x.schedule = ap length ep ∙ length-pairs_bytes x.schedule in
    let lz : length zeros ≡ 128 - 8 * length x.schedule = ap length ez ∙ length-replicate (128 - 8 * length x.schedule) 0 in
    let dz = drop_past 4 (8 * length x.schedule) (4 + 8 * length x.schedule) b pairs (zeros ++ (wrong ++ (boot ++ (at ++ (iv ++ (secrets ++ mac)))))) refl d4 lp in
    let d132 = drop_past (4 + 8 * length x.schedule) (128 - 8 * length x.schedule) 132 b zeros (wrong ++ (boot ++ (at ++ (iv ++ (secrets ++ mac))))) (omega arith) dz lz in
    let d136 = drop_past 132 4 136 b wrong (boot ++ (at ++ (iv ++ (secrets ++ mac)))) refl d132 lw in
    let d144 = drop_past 136 8 144 b boot (at ++ (iv ++ (secrets ++ mac))) refl d136 lb in
    let d152 = drop_past 144 8 152 b at (iv ++ (secrets ++ mac)) refl d144 la in
    let d168 = drop_past 152 16 168 b iv (secrets ++ mac) refl d152 li in
    let d264 = drop_past 168 96 264 b secrets mac refl d168 ls in
    let lm : length mac ≡ 32 = ap length em ∙ length-leaf_mac keys x in
    record {
      version = ap (λ l. slice_index l 0) e;
      count = sym (get_or-drop 3 b 0 0) ∙ ap (λ l. slice_index l 0) d3 ∙ en;
      label = take_there 1 2 b label (n ∷ (pairs ++ (zeros ++ (wrong ++ (boot ++ (at ++ (iv ++ (secrets ++ mac)))))))) d1 ll ∙ el;
      pairs = d4 ∙ (λ i. ep i ++ (ez i ++ sym d132 i));
      wrong = take_there 132 4 b wrong (boot ++ (at ++ (iv ++ (secrets ++ mac)))) d132 lw ∙ ew;
      boot = take_there 136 8 b boot (at ++ (iv ++ (secrets ++ mac))) d136 lb ∙ eb;
      moment = take_there 144 8 b at (iv ++ (secrets ++ mac)) d144 la ∙ ea;
      iv = take_there 152 16 b iv (secrets ++ mac) d152 li ∙ ei;
      secrets = take_there 168 96 b secrets mac d168 ls ∙ es;
      mac = d264 ∙ em;
      whole = let q : length (drop 264 b) ≡ 32 = ap length d264 ∙ lm in let l = length-drop 264 b in omega arith;
    }

laid : (keys : ChipKeys) (x : Contents) → IsContents x → Laid keys x (leaf_bytes keys x)
unfolding leaf_bytes leaf_text open_part pairs_field
laid keys x h =
    laid_by keys x (leaf_bytes keys x) (to_be_bytes w16 x.label) (pairs_bytes x.schedule) (replicate (128 - 8 * length x.schedule) 0) (to_be_bytes w32 x.wrong) (to_be_bytes w64 x.last.boot) (to_be_bytes w64 x.last.at) x.iv (secret_part keys x) (leaf_mac keys x) (length x.schedule)
    (layout_of 1 (length x.schedule) (to_be_bytes w16 x.label) (pairs_bytes x.schedule) (replicate (128 - 8 * length x.schedule) 0) (to_be_bytes w32 x.wrong) (to_be_bytes w64 x.last.boot) (to_be_bytes w64 x.last.at) x.iv (secret_part keys x) (leaf_mac keys x))
    refl (IsSchedule.few (IsContents.schedule h)) refl refl refl refl refl refl refl refl refl refl refl refl refl h.iv (length-secret_part keys x h)

-- ---- the fields are read

-- the numbers of each pair fit four bytes
unfoldable pub PairsFit : List (ℕ × ℕ) → Type 0
PairsFit [] = Unit {0}
PairsFit (pair ∷ pairs) = (pair.0 < 2 ^ 32) × ((pair.1 < 2 ^ 32) × PairsFit pairs)

PairsFit-each : (pairs : List (ℕ × ℕ)) → ((k : ℕ) → k < length pairs → ((pair_at pairs k).0 < 2 ^ 32) × ((pair_at pairs k).1 < 2 ^ 32)) → PairsFit pairs
unfolding PairsFit
PairsFit-each [] f = tt
PairsFit-each (pair ∷ pairs) f =
    let here = f 0 (omega arith) in
    (here.0, (here.1, PairsFit-each pairs (λ k l. f (suc k) (omega arith))))

PairsFit-schedule : (pairs : List (ℕ × ℕ)) → IsSchedule pairs → PairsFit pairs
PairsFit-schedule pairs s =
    PairsFit-each pairs (λ k l. let rules = s.rules k l in (omega (arith, rules.most), omega (arith, seconds_at_most_locked pairs k s l)))

pairs_read : (pairs : List (ℕ × ℕ)) (rest : List ℕ) → PairsFit pairs → pairs_of (length pairs) (pairs_bytes pairs ++ rest) ≡ pairs
unfolding pairs_of pairs_bytes PairsFit
pairs_read [] rest fits = refl
pairs_read (pair ∷ pairs) rest fits =
    let e0 = from_be_bytes-to_be_bytes_4 pair.0 fits.0 in
    let e1 = from_be_bytes-to_be_bytes_4 pair.1 fits.1.0 in
    let e2 = pairs_read pairs rest fits.1.1 in
    λ i. (e0 i, e1 i) ∷ e2 i

count_small : (x : Contents) → IsContents x → x.wrong < 2 ^ 32
count_small x h =
    let s = h.schedule in
    let last = s.rules (length x.schedule - 1) (omega (arith, s.some)) in
    omega (arith, last.most, h.wrong)

secrets_read : (keys : ChipKeys) (x : Contents) → gctr 8 14 keys.enc x.iv (secret_part keys x) ≡ x.les ++ x.hes ++ x.reset
unfolding secret_part
secrets_read keys x = gctr-gctr 8 14 keys.enc x.iv (x.les ++ x.hes ++ x.reset)

contents_of_laid : (keys : ChipKeys) (x : Contents) (b : List ℕ) → IsContents x → Laid keys x b → contents_in keys b ≡ x
contents_of_laid keys x b h l =
    let secrets : secrets_in keys b ≡ x.les ++ (x.hes ++ x.reset) = (λ i. gctr 8 14 keys.enc (l.iv i) (l.secrets i)) ∙ secrets_read keys x ∙ append_assoc x.les x.hes x.reset in
    let label = ap (from_be_bytes w16) l.label ∙ from_be_bytes-to_be_bytes_2 x.label (let t = h.label in omega arith) in
    let schedule : pairs_in b ≡ x.schedule = (λ i. pairs_of (l.count i) (l.pairs i)) ∙ pairs_read x.schedule (replicate (128 - 8 * length x.schedule) 0 ++ drop 132 b) (PairsFit-schedule x.schedule h.schedule) in
    let wrong = ap (from_be_bytes w32) l.wrong ∙ from_be_bytes-to_be_bytes_4 x.wrong (count_small x h) in
    let boot = ap (from_be_bytes w64) l.boot ∙ from_be_bytes-to_be_bytes_8 x.last.boot h.boot in
    let moment = ap (from_be_bytes w64) l.moment ∙ from_be_bytes-to_be_bytes_8 x.last.at (let t = h.moment in omega arith) in
    let les = ap (take 32) secrets ∙ take_at x.les (x.hes ++ x.reset) 32 h.les in
    let past : drop 32 (secrets_in keys b) ≡ x.hes ++ x.reset = ap (drop 32) secrets ∙ drop_at x.les (x.hes ++ x.reset) 32 h.les in
    let hes = ap (take 32) past ∙ take_at x.hes x.reset 32 h.hes in
    let reset = drop_past 32 32 64 (secrets_in keys b) x.hes x.reset refl past h.hes in
    λ i. record { label = label i; schedule = schedule i; wrong = wrong i; last = record { boot = boot i; at = moment i }; les = les i; hes = hes i; reset = reset i; iv = l.iv i }

-- ---- no rule is broken

all_zero : (n : ℕ) → list_all (λ byte. eqb byte 0) (replicate n 0) ≡ true
all_zero zero = refl
all_zero (suc n) = all_zero n

blank_or_not : (wrong m : ℕ) → (wrong ≡ 0 → m ≡ 0) → ((wrong ≡ 0) × (m ≤ 0)) ⊎ (wrong ≡ 0 → ⊥)
blank_or_not wrong m f =
    elim (cases_eq wrong 0) [
      | inl z ↦ inl (z, let e = f z in omega arith)
      | inr ne ↦ inr ne
    ]

has_schedule-laid : (keys : ChipKeys) (x : Contents) (b : List ℕ) → IsContents x → Laid keys x b → pairs_in b ≡ x.schedule → has_schedule b ≡ true
unfolding has_schedule
has_schedule-laid keys x b h l same =
    let n = length x.schedule in
    let schedule = h.schedule in
    let few : n ≤ 16 = schedule.few in
    let behind = drop_past 4 (8 * n) (4 + 8 * n) b (pairs_bytes x.schedule) (replicate (128 - 8 * n) 0 ++ drop 132 b) refl l.pairs (length-pairs_bytes x.schedule) in
    let room : 132 - (4 + 8 * n) ≡ 128 - 8 * n = omega arith in
    let zeros : unused_in b ≡ replicate (128 - 8 * n) 0 =
    (λ i. take (132 - (4 + 8 * l.count i)) (drop (4 + 8 * l.count i) b)) ∙ ap (λ m. take m (drop (4 + 8 * n) b)) room
    ∙ take_there (4 + 8 * n) (128 - 8 * n) b (replicate (128 - 8 * n) 0) (drop 132 b) behind (length-replicate (128 - 8 * n) 0) in
    let decides = is_schedule-Decides x.schedule in
    and_from (is_schedule (pairs_in b)) (list_all (λ byte. eqb byte 0) (unused_in b))
    (ap is_schedule same ∙ decides.1 schedule) (ap (list_all (λ byte. eqb byte 0)) zeros ∙ all_zero (128 - 8 * n))

shape_right : (keys : ChipKeys) (x : Contents) (b : List ℕ) → IsContents x → Laid keys x b → contents_in keys b ≡ x → shape_fault b ≡ None
shape_right keys x b h l same =
    let schedule = h.schedule in
    let label = ap (λ (y : Contents). y.label) same in
    let pairs = ap (λ (y : Contents). y.schedule) same in
    let wrong = ap (λ (y : Contents). y.wrong) same in
    let boot = ap (λ (y : Contents). y.last.boot) same in
    let moment = ap (λ (y : Contents). y.last.at) same in
    shape_fault-none b (rw label h.label) (λ e. omega (arith, l.count, schedule.some)) (omega (arith, l.count, schedule.few))
    (has_schedule-laid keys x b h l pairs) (rw (wrong, pairs) h.wrong)
    (rw (wrong, boot) (blank_or_not x.wrong x.last.boot (λ z. (h.fresh z).0)))
    (rw moment h.moment)
    (rw (wrong, moment) (blank_or_not x.wrong x.last.at (λ z. (h.fresh z).1)))

-- ---- the MAC is right

pub length-leaf_text : (keys : ChipKeys) (x : Contents) → IsContents x → length (leaf_text keys x) ≡ 264
unfolding leaf_bytes
length-leaf_text keys x h =
    let l = (laid keys x h).whole in let m = length-leaf_mac keys x in let e = length-append (leaf_text keys x) (leaf_mac keys x) in omega arith

mac_right : (keys : ChipKeys) (x : Contents) → IsContents x → mac_of (leaf_bytes keys x) ≡ hmac keys.mac (text_of (leaf_bytes keys x))
unfolding leaf_bytes leaf_mac
mac_right keys x h =
    let n = length-leaf_text keys x h in
    drop_at (leaf_text keys x) (leaf_mac keys x) 264 n ∙ ap (hmac keys.mac) (sym (take_at (leaf_text keys x) (leaf_mac keys x) 264 n))

look_by : (b : List ℕ) → length b ≡ 296 → slice_index b 0 ≡ 1 → shape_fault b ≡ None → look_at b ≡ Ok (shown_in b)
unfolding look_at
look_by b long version right = rw long (rw version (rw right refl))

check_by : (keys : ChipKeys) (b : List ℕ) (y : Contents) → look_at b ≡ Ok (shown_in b) → contents_in keys b ≡ y → mac_of b ≡ hmac keys.mac (text_of b) → check_at keys b ≡ Ok y
unfolding check_at
check_by keys b y looked same mac =
    ap (signed_by keys b) looked ∙ ap (λ t. cond t (Ok (contents_in keys b)) (Err BadMac)) ((bytes_eq-Decides (mac_of b) (hmac keys.mac (text_of b))).1 mac) ∙ ap (λ (z : Contents). Ok z) same

-- what a leaf record holds is read from it
pub check_at-leaf_bytes : (keys : ChipKeys) (x : Contents) → IsContents x → check_at keys (leaf_bytes keys x) ≡ Ok x
check_at-leaf_bytes keys x h =
    let l = laid keys x h in
    let b = leaf_bytes keys x in
    let same = contents_of_laid keys x b h l in
    check_by keys b x (look_by b l.whole l.version (shape_right keys x b h l same)) same (mac_right keys x h)

pub length-leaf_bytes : (keys : ChipKeys) (x : Contents) → IsContents x → length (leaf_bytes keys x) ≡ 296
length-leaf_bytes keys x h = (laid keys x h).whole
