-- What a record that is read has.
use Rattle.std.proofs.Common.{◌≡◌, ℕ, ◌+◌, ◌<◌, ◌≤◌, Bool, true, false, cond, eqb, ltb, leb, ◌&&◌, ◌||◌, ◌⊎◌, inl, inr, Option, Some, None, Result, Ok, Err, IsOk, IfOk, IfErr, List, length, take, drop, refl, sym, ◌∙◌, ap, subst, arith}
use Rattle.std.specs.Prelude.{bytes_eq, slice_index, ◌*◌, ◌-◌, ◌^◌}
use Rattle.std.specs.List.{list_all}
use Rattle.std.proofs.lemmas.Bool.{eqb-true, and_parts, and_left, and_right, or_from, ne_eqb, lt-leb, le-ltb}
use Rattle.std.proofs.lemmas.Slice.Eq.{bytes_eq-Decides}
use Rattle.hmac_sha.specs.Hmac.{hmac}
use Rattle.pw_types.specs.Schedule.{IsSchedule, limit_of, is_schedule}
use Rattle.pw_types.proofs.ScheduleLemmas.{is_schedule-Decides}
use Rattle.pw_leaf.specs.declared.keys.ChipKeys.{ChipKeys}
use Rattle.pw_leaf.specs.declared.leaf.Leaf.{Leaf}
use Rattle.pw_leaf.specs.declared.leaf.PublicLeaf.{PublicLeaf}
use Rattle.pw_leaf.specs.declared.fault.LeafFault.{LeafFault}
use Rattle.pw_leaf.specs.declared.fault.LeafFault.TheVariants.{BadLength, BadVersion, BadMac}
use Rattle.pw_leaf.specs.Contents.{Contents, contents_of, leaf_of}
use Rattle.pw_leaf.specs.LeafBytes.{leaf_bytes}
use Rattle.pw_leaf.specs.Reading.{label_in, count_in, pairs_in, unused_in, wrong_in, last_in, iv_in, mac_of, text_of, shown_in, contents_in, has_schedule, shape_fault, shaped, look_at, signed_by, check_at, with_mac, leaf_at}
use Rattle.pw_leaf.proofs.Cases.{on_cond}

-- ---- the public part

-- the public part that is read, of 296 bytes of version 1 in the right shape
pub record IsShown (bytes : List ℕ) (shown : PublicLeaf) : Type 0 where
  pub long : length bytes ≡ 296
  pub version : slice_index bytes 0 ≡ 1
  pub same : shown ≡ shown_in bytes
  pub right : shape_fault bytes ≡ None

shown_shape : (bytes : List ℕ) (shown : PublicLeaf) (o : Option ℕ) → length bytes ≡ 296 → slice_index bytes 0 ≡ 1 → shape_fault bytes ≡ o → shaped bytes o ≡ Ok shown → IsShown bytes shown
shown_shape bytes shown (Some place) n v f e = cc
shown_shape bytes shown None n v f e = let same : shown_in bytes ≡ shown = cc e in record { long = n; version = v; same = sym same; right = f }

pub look_at-is : (bytes : List ℕ) (shown : PublicLeaf) → look_at bytes ≡ Ok shown → IsShown bytes shown
unfolding look_at
look_at-is bytes shown e =
    on_cond (λ r. r ≡ Ok shown → IsShown bytes shown) (eqb (length bytes) 296)
    (cond (eqb (slice_index bytes 0) 1) (shaped bytes (shape_fault bytes)) (Err (BadVersion (slice_index bytes 0)))) (Err (BadLength (length bytes)))
    (λ t q. on_cond (λ r. r ≡ Ok shown → IsShown bytes shown) (eqb (slice_index bytes 0) 1)
    (shaped bytes (shape_fault bytes)) (Err (BadVersion (slice_index bytes 0)))
    (λ t1 q1. shown_shape bytes shown (shape_fault bytes) (eqb-true (length bytes) 296 t) (eqb-true (slice_index bytes 0) 1 t1) refl q1) (λ _ q1. cc q1) q)
    (λ _ q. cc q) e

-- the right shape has a schedule
pub has_schedule-from_shape : (bytes : List ℕ) → shape_fault bytes ≡ None → has_schedule bytes ≡ true
unfolding shape_fault
has_schedule-from_shape bytes e =
    on_cond (λ (o : Option ℕ). o ≡ None → has_schedule bytes ≡ true) (leb 16384 (label_in bytes)) (Some 1) _ (λ _ q. cc q)
    (λ _ q. on_cond (λ (o : Option ℕ). o ≡ None → has_schedule bytes ≡ true) (eqb (count_in bytes) 0 || ltb 16 (count_in bytes)) (Some 3) _ (λ _ q1. cc q1)
    (λ _ q1. on_cond (λ (o : Option ℕ). o ≡ None → has_schedule bytes ≡ true) (has_schedule bytes) _ (Some 4) (λ t _. t) (λ _ q2. cc q2) q1) q) e

pub has_schedule-by : (bytes : List ℕ) (count : ℕ) (b zero_behind : Bool) → count ≡ count_in bytes → is_schedule (pairs_in bytes) ≡ b
    → list_all (λ byte. eqb byte 0) (take (132 - (4 + 8 * count)) (drop (4 + 8 * count) bytes)) ≡ zero_behind → has_schedule bytes ≡ (b && zero_behind)
unfolding has_schedule
has_schedule-by bytes count b zero_behind n e z =
    λ i. e i && (ap (λ k. list_all (λ byte. eqb byte 0) (take (132 - (4 + 8 * k)) (drop (4 + 8 * k) bytes))) (sym n) ∙ z) i

pub IsSchedule-from_shape : (bytes : List ℕ) → shape_fault bytes ≡ None → IsSchedule (pairs_in bytes)
unfolding has_schedule
IsSchedule-from_shape bytes e =
    let parts = and_parts (is_schedule (pairs_in bytes)) (list_all (λ byte. eqb byte 0) (unused_in bytes)) (has_schedule-from_shape bytes e) in
    let decides = is_schedule-Decides (pairs_in bytes) in
    decides.0 parts.0

-- facts about the fields that break no rule
blank_when : (wrong m : ℕ) → ((wrong ≡ 0) × (m ≤ 0)) ⊎ (wrong ≡ 0 → ⊥) → (eqb wrong 0 && ltb 0 m) ≡ false
blank_when wrong m (inl z) = let e : m ≡ 0 = omega arith in rw e (and_right (eqb wrong 0) false refl)
blank_when wrong m (inr ne) = and_left (eqb wrong 0) (ltb 0 m) (ne_eqb wrong 0 ne)

pub shape_fault-none : (bytes : List ℕ) → label_in bytes < 16384 → (count_in bytes ≡ 0 → ⊥) → count_in bytes ≤ 16 → has_schedule bytes ≡ true
    → wrong_in bytes ≤ limit_of (pairs_in bytes)
    → ((wrong_in bytes ≡ 0) × ((last_in bytes).boot ≤ 0)) ⊎ (wrong_in bytes ≡ 0 → ⊥)
    → (last_in bytes).at < 2 ^ 40
    → ((wrong_in bytes ≡ 0) × ((last_in bytes).at ≤ 0)) ⊎ (wrong_in bytes ≡ 0 → ⊥)
    → shape_fault bytes ≡ None
unfolding shape_fault
shape_fault-none bytes label some few schedule wrong boot moment at =
    rw (lt-leb 16384 (label_in bytes) label) (rw (or_from (eqb (count_in bytes) 0) (ltb 16 (count_in bytes)) (ne_eqb (count_in bytes) 0 some) (le-ltb 16 (count_in bytes) few))
    (rw schedule (rw (le-ltb (limit_of (pairs_in bytes)) (wrong_in bytes) wrong) (rw (blank_when (wrong_in bytes) (last_in bytes).boot boot)
    (rw (or_from (leb (2 ^ 40) (last_in bytes).at) (eqb (wrong_in bytes) 0 && ltb 0 (last_in bytes).at) (lt-leb (2 ^ 40) (last_in bytes).at moment) (blank_when (wrong_in bytes) (last_in bytes).at at)) refl)))))

pub shaped-none : (bytes : List ℕ) (shown : PublicLeaf) → shape_fault bytes ≡ None → shown ≡ shown_in bytes → Ok shown ≡ shaped bytes (shape_fault bytes)
shaped-none bytes shown f e = ap (λ (s : PublicLeaf). Ok s) e ∙ sym (ap (shaped bytes) f)

-- ---- the whole record

-- the contents that are read, with a right MAC
pub record IsChecked (keys : ChipKeys) (bytes : List ℕ) (x : Contents) : Type 0 where
  pub long : length bytes ≡ 296
  pub version : slice_index bytes 0 ≡ 1
  pub same : x ≡ contents_in keys bytes
  pub right : shape_fault bytes ≡ None
  pub mac : mac_of bytes ≡ hmac keys.mac (text_of bytes)

checked_shown : (keys : ChipKeys) (bytes : List ℕ) (x : Contents) (r : Result PublicLeaf LeafFault) → look_at bytes ≡ r → signed_by keys bytes r ≡ Ok x → IsChecked keys bytes x
checked_shown keys bytes x (Err fault) l e = cc e
checked_shown keys bytes x (Ok shown) l e =
    let is = look_at-is bytes shown l in
    on_cond (λ r. r ≡ Ok x → IsChecked keys bytes x) (bytes_eq (mac_of bytes) (hmac keys.mac (text_of bytes))) (Ok (contents_in keys bytes)) (Err BadMac)
    (λ t q. let same : contents_in keys bytes ≡ x = cc q in record { long = is.long; version = is.version; same = sym same; right = is.right; mac = (bytes_eq-Decides (mac_of bytes) (hmac keys.mac (text_of bytes))).0 t })
    (λ _ q. cc q) e

pub check_at-is : (keys : ChipKeys) (bytes : List ℕ) (x : Contents) → check_at keys bytes ≡ Ok x → IsChecked keys bytes x
unfolding check_at
check_at-is keys bytes x e = checked_shown keys bytes x (look_at bytes) refl e

-- ---- what `check` answers

pub leaf_at-fault : (keys : ChipKeys) (bytes : List ℕ) (fault : LeafFault) → look_at bytes ≡ Err fault → leaf_at keys bytes ≡ Err fault
unfolding leaf_at check_at
leaf_at-fault keys bytes fault e = ap (λ r. with_mac bytes (signed_by keys bytes r)) e

pub leaf_at-unsigned : (keys : ChipKeys) (bytes : List ℕ) (shown : PublicLeaf) → look_at bytes ≡ Ok shown → bytes_eq (mac_of bytes) (hmac keys.mac (text_of bytes)) ≡ false → leaf_at keys bytes ≡ Err BadMac
unfolding leaf_at check_at
leaf_at-unsigned keys bytes shown e t =
    ap (λ r. with_mac bytes (signed_by keys bytes r)) e ∙ ap (λ b. with_mac bytes (cond b (Ok (contents_in keys bytes)) (Err BadMac))) t

pub leaf_at-signed : (keys : ChipKeys) (bytes : List ℕ) (shown : PublicLeaf) → look_at bytes ≡ Ok shown → bytes_eq (mac_of bytes) (hmac keys.mac (text_of bytes)) ≡ true
    → leaf_at keys bytes ≡ Ok (leaf_of (contents_in keys bytes) (mac_of bytes))
unfolding leaf_at check_at
leaf_at-signed keys bytes shown e t =
    ap (λ r. with_mac bytes (signed_by keys bytes r)) e ∙ ap (λ b. with_mac bytes (cond b (Ok (contents_in keys bytes)) (Err BadMac))) t

-- ---- a leaf that is written again

-- what is accepted isn't refused
with_mac-ok : (bytes : List ℕ) (r : Result Contents LeafFault) (fault : LeafFault) → IsOk r → with_mac bytes r ≡ Err fault → ⊥
with_mac-ok bytes (Ok x) fault ok e = cc e
with_mac-ok bytes (Err f) fault ok e = cc ok

pub accepted_is_read : (keys : ChipKeys) (bytes : List ℕ) (fault : LeafFault) → IsOk (check_at keys bytes) → leaf_at keys bytes ≡ Err fault → ⊥
unfolding leaf_at
accepted_is_read keys bytes fault ok e = with_mac-ok bytes (check_at keys bytes) fault ok e

-- contents with another count, under the same block
changed_of : (keys : ChipKeys) (bytes : List ℕ) (leaf : Leaf) (f : Contents → Contents) (written : List ℕ) (r : Result Contents LeafFault)
    → check_at keys bytes ≡ r → with_mac bytes r ≡ Ok leaf → written ≡ leaf_bytes keys (f (contents_of leaf (iv_in bytes))) → IfOk r (λ x. written ≡ leaf_bytes keys (f x))
changed_of keys bytes leaf f written (Err fault) c e w = tt
changed_of keys bytes leaf f written (Ok x) c e w =
    let is = check_at-is keys bytes x c in
    let same : leaf_of x (mac_of bytes) ≡ leaf = cc e in
    w ∙ ap (λ l. leaf_bytes keys (f (contents_of l (iv_in bytes)))) (sym same)
    ∙ ap (λ iv. leaf_bytes keys (f (contents_of (leaf_of x (mac_of bytes)) iv))) (sym (ap (λ (y : Contents). y.iv) is.same))

pub changed_bytes : (keys : ChipKeys) (bytes : List ℕ) (leaf : Leaf) (f : Contents → Contents) (written : List ℕ)
    → leaf_at keys bytes ≡ Ok leaf → written ≡ leaf_bytes keys (f (contents_of leaf (iv_in bytes))) → IfOk (check_at keys bytes) (λ x. written ≡ leaf_bytes keys (f x))
unfolding leaf_at
changed_bytes keys bytes leaf f written e w = changed_of keys bytes leaf f written (check_at keys bytes) refl e w

-- the count of a leaf that has tries left fits
room_of : (keys : ChipKeys) (bytes : List ℕ) (leaf : Leaf) (r : Result Contents LeafFault) → check_at keys bytes ≡ r → with_mac bytes r ≡ Ok leaf
    → IfOk r (λ x. x.wrong < limit_of x.schedule) → leaf.wrong < 1000
room_of keys bytes leaf (Err fault) c e room = cc e
room_of keys bytes leaf (Ok x) c e room =
    let is = check_at-is keys bytes x c in
    let same : leaf_of x (mac_of bytes) ≡ leaf = cc e in
    let schedule : IsSchedule x.schedule = subst (λ (y : Contents). IsSchedule y.schedule) (sym is.same) (IsSchedule-from_shape bytes is.right) in
    let last = schedule.rules (length x.schedule - 1) (omega (arith, schedule.some)) in
    omega (arith, last.most, room, ap (λ (l : Leaf). l.wrong) same)

pub count_fits : (keys : ChipKeys) (bytes : List ℕ) (leaf : Leaf) → leaf_at keys bytes ≡ Ok leaf → IfOk (check_at keys bytes) (λ x. x.wrong < limit_of x.schedule) → leaf.wrong < 1000
unfolding leaf_at
count_fits keys bytes leaf e room = room_of keys bytes leaf (check_at keys bytes) refl e room

-- ---- what `check` tells of the contents

told_ok : (keys : ChipKeys) (bytes : List ℕ) (leaf : Leaf) (r : Result Contents LeafFault) → check_at keys bytes ≡ r → with_mac bytes r ≡ Ok leaf → check_at keys bytes ≡ Ok (contents_of leaf (iv_in bytes))
told_ok keys bytes leaf (Err fault) c e = cc e
told_ok keys bytes leaf (Ok x) c e =
    let is = check_at-is keys bytes x c in
    let same : leaf_of x (mac_of bytes) ≡ leaf = cc e in
    c ∙ ap (λ iv. Ok (contents_of (leaf_of x (mac_of bytes)) iv)) (ap (λ (y : Contents). y.iv) is.same) ∙ ap (λ l. Ok (contents_of l (iv_in bytes))) same

told_err : (keys : ChipKeys) (bytes : List ℕ) (fault : LeafFault) (r : Result Contents LeafFault) → check_at keys bytes ≡ r → with_mac bytes r ≡ Err fault → check_at keys bytes ≡ Err fault
told_err keys bytes fault (Ok x) c e = cc e
told_err keys bytes fault (Err f) c e = let same : f ≡ fault = cc e in c ∙ ap (λ (g : LeafFault). Err g) same

-- the contents are those of the leaf, and the fault is the same
pub record IsTold (keys : ChipKeys) (bytes : List ℕ) (r : Result Leaf LeafFault) : Type 0 where
  pub contents : IfOk r (λ leaf. check_at keys bytes ≡ Ok (contents_of leaf (iv_in bytes)))
  pub fault : IfErr r (λ fault. check_at keys bytes ≡ Err fault)

pub told : (keys : ChipKeys) (bytes : List ℕ) (r : Result Leaf LeafFault) → r ≡ leaf_at keys bytes → IsTold keys bytes r
unfolding leaf_at
told keys bytes (Ok leaf) e = record { contents = told_ok keys bytes leaf (check_at keys bytes) refl (sym e); fault = tt }
told keys bytes (Err fault) e = record { contents = tt; fault = told_err keys bytes fault (check_at keys bytes) refl (sym e) }
