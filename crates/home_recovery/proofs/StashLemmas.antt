-- What is known of a stash that is read, and how long a payload is that is read.
use Rattle.std.proofs.Common.{◌≡◌, ℕ, zero, suc, ◌+◌, ◌*◌, ◌≤◌, List, [], length, take, Option, None, Some, Result, Ok, Err, Bool, true, false, refl, sym, ap, ◌∙◌, subst, ⊎_elim, true≢false, arith}
use Rattle.std.proofs.lemmas.Bool.{leb-true, eqb-true, and_parts}
use Rattle.std.proofs.lemmas.List.{length-take-le, length-drop}
use Rattle.std.specs.Prelude.{IsSome, ◌==◌, ◌&&◌, nat_le, if◌then◌else◌, slice_index}
use Rattle.std.specs.Result.{result_ok}
use Rattle.std.specs.Int.{w64, from_be_bytes}
use Rattle.std.specs.FinMap.{get, insert, empty, len}
use Rattle.aes_core.specs.Counter.{inc32}
use Rattle.aes_core.proofs.StreamLemmas.{length-gctr}
use Rattle.gcm_seal.specs.Gcm.{first_block, decrypted}
use Rattle.ct_bytes.specs.declared.fault.ByteFault.{ByteFault}
use Rattle.ct_bytes.specs.declared.fault.ByteFault.TheVariants.{Short, Trailing}
use Rattle.ct_bytes.specs.Reading.{Unread, start, past, bytes_at, u8_at, u64_at, field8_at, end_at, rule, or_fault, ◌>>=◌, ◌>>◌}
use Rattle.ct_bytes.proofs.StepLemmas.{bind-ok, step-ok, done-ok, rule_then-ok, or_fault-ok}
use Rattle.home_names.specs.Names.{is_factor_label}
use Rattle.record_names.proofs.NameLemmas.{length-label}
use Rattle.record_fields.specs.Names.{label_at, bad_here}
use Rattle.sealed_text.specs.declared.sealed.Sealed.{Sealed}
use Rattle.sealed_text.specs.OpeningSealed.{Opens}
use Rattle.stash_format.specs.declared.fault.RecordFault.{RecordFault}
use Rattle.stash_format.specs.declared.fault.RecordFault.TheVariants.{BadStash}
use Rattle.stash_format.specs.declared.block.Block.{Block}
use Rattle.stash_format.specs.declared.contents.Contents.{Contents as Stash}
use Rattle.stash_format.specs.declared.payload.Payload.{Payload}
use Rattle.stash_format.specs.Faults.{bad_at, bad_field}
use Rattle.stash_format.specs.Fields.{Head, part_at, head_at, block_count_at, most_blocks, block_at}
use Rattle.stash_format.specs.Blocks.{Blocks, rises, row_at, blocks_at}
use Rattle.stash_format.specs.Held.{sealed_at, held_at}
use Rattle.stash_format.specs.Resets.{Resets, reset_count_at, reset_row_at, resets_at}
use Rattle.stash_format.specs.Record.{stash_read, stash_at}
use Rattle.stash_format.specs.Payloads.{payload_read, payload_at}
use Rattle.stash_format.specs.Kept.{HasBoth}
use Rattle.stored_home.proofs.MapLemmas.{same_or_apart, put_at, put_other, from_some, not_None, some_is}
use Rattle.home_recovery.proofs.RowLemmas.{get_place}

ok_is : {A E : Type 0} (x y : A) → ◌≡◌ {A = Result A E} (Ok x) (Ok y) → x ≡ y
ok_is x y e = cc

no_fault : {A E : Type 0} (fault : E) (x : A) → ◌≡◌ {A = Result A E} (Err fault) (Ok x) → ⊥
no_fault fault x e = cc

-- what a reading gave that gave something
read_ok : {A E : Type 0} (r : Result A E) (x : A) → result_ok r ≡ Some x → r ≡ Ok x
read_ok (Ok y) x e = ap Ok (from_some y x e)
read_ok (Err fault) x e = absurd (not_None x (sym e))

-- ---- blocks

-- a row that is read puts a block to those before
row_put : (version next : ℕ) (last : List ℕ) (blocks : Blocks) (at : Unread) (x : (List ℕ × Blocks) × Unread)
    → row_at version next last blocks at ≡ Ok x → (block : Block) × (x.0.1 ≡ insert blocks x.0.0 block)
unfolding row_at
row_put version next last blocks at x is =
    let a = step-ok bad_field (label_at at) (λ label. rule (rises last label.0) (BadStash at.place) >> (block_at version next label.1 >>= λ block. Ok ((label.0, insert blocks label.0 block.0), block.1))) x is in
    let b = rule_then-ok (rises last a.0.0) (BadStash at.place) (block_at version next a.0.1 >>= λ block. Ok ((a.0.0, insert blocks a.0.0 block.0), block.1)) x a.2 in
    let d = bind-ok (block_at version next a.0.1) (λ block. Ok ((a.0.0, insert blocks a.0.0 block.0), block.1)) x b.1 in
    let made : (List ℕ × Blocks) × Unread = ((a.0.0, insert blocks a.0.0 d.0.0), d.0.1) in
    let same : made ≡ x = ok_is made x d.2 in
    (d.0.0, subst (λ (y : (List ℕ × Blocks) × Unread). y.0.1 ≡ insert blocks y.0.0 d.0.0) same refl)

-- a label that has a block keeps one
still_there : (blocks : Blocks) (label : List ℕ) (block : Block) (q : List ℕ) → IsSome (get blocks q) → IsSome (get (insert blocks label block) q)
still_there blocks label block q some = ⊎_elim
    (λ e. subst (λ (l : List ℕ). IsSome (get (insert blocks label block) l)) (sym e) (subst IsSome (sym (put_at blocks label block)) refl))
    (λ away. subst IsSome (sym (put_other blocks label block q away)) some)
    (same_or_apart q label)

blocks_keep : (count version next : ℕ) (last : List ℕ) (blocks : Blocks) (at : Unread) (x : Blocks × Unread)
    → blocks_at count version next last blocks at ≡ Ok x → (q : List ℕ) → IsSome (get blocks q) → IsSome (get x.0 q)
unfolding blocks_at
blocks_keep zero version next last blocks at x is q some =
    subst (λ (y : Blocks × Unread). IsSome (get y.0 q)) (ok_is (blocks, at) x is) some
blocks_keep (suc count) version next last blocks at x is q some =
    let a = bind-ok (row_at version next last blocks at) (λ row. blocks_at count version next row.0.0 row.0.1 row.1) x is in
    let r = row_put version next last blocks at a.0 a.1 in
    blocks_keep count version next a.0.0.0 a.0.0.1 a.0.1 x a.2 q
    (subst (λ (m : Blocks). IsSome (get m q)) (sym r.1) (still_there blocks a.0.0.0 r.0 q some))

some_there : (m : Blocks) (q : List ℕ) → IsSome (get m q) → 1 ≤ len m
some_there m q there =
    let x = some_is (get m q) there in
    let place = get_place m q x.0 x.1 in
    let within = place.1 in
    omega (arith, within)

-- where one is to be read, one is there
blocks_some : (count version next : ℕ) (last : List ℕ) (blocks : Blocks) (at : Unread) (x : Blocks × Unread)
    → 1 ≤ count → blocks_at count version next last blocks at ≡ Ok x → 1 ≤ len x.0
unfolding blocks_at
blocks_some zero version next last blocks at x few is = absurd (omega (arith, few))
blocks_some (suc count) version next last blocks at x few is =
    let a = bind-ok (row_at version next last blocks at) (λ row. blocks_at count version next row.0.0 row.0.1 row.1) x is in
    let r = row_put version next last blocks at a.0 a.1 in
    some_there x.0 a.0.0.0 (blocks_keep count version next a.0.0.0 a.0.0.1 a.0.1 x a.2 a.0.0.0
    (subst (λ (m : Blocks). IsSome (get m a.0.0.0)) (sym r.1) (subst IsSome (sym (put_at blocks a.0.0.0 r.0)) refl)))

count_some : (version : ℕ) (at : Unread) (x : ℕ × Unread) → block_count_at version at ≡ Ok x → 1 ≤ x.0
unfolding block_count_at
count_some version at x is =
    let a = step-ok bad_at (u8_at at) (λ number. rule (nat_le 1 number.0 && nat_le number.0 (most_blocks version)) (BadStash at.place) >> Ok number) x is in
    let b = rule_then-ok (nat_le 1 a.0.0 && nat_le a.0.0 (most_blocks version)) (BadStash at.place) (Ok a.0) x a.2 in
    subst (λ (y : ℕ × Unread). 1 ≤ y.0) (ok_is a.0 x b.1) (leb-true 1 a.0.0 (and_parts (nat_le 1 a.0.0) (nat_le a.0.0 (most_blocks version)) b.0).0)

-- payload and blocks are there together
abbrev Both : Option Sealed × Blocks → Type 0
Both held = (held.0 ≡ None → held.1 ≡ empty) × (IsSome held.0 → 1 ≤ len held.1)

-- what a record of a home with factors has behind its head
abbrev blocks_held : Head → Unread → Result ((Option Sealed × Blocks) × Unread) RecordFault
blocks_held head at = sealed_at at >>= λ payload. block_count_at head.version payload.1 >>= λ count.
    blocks_at count.0 head.version head.next [] empty count.1 >>= λ blocks. Ok ((Some payload.0, blocks.0), blocks.1)

held_by : (head : Head) (at : Unread) (x : (Option Sealed × Blocks) × Unread) (b : Bool)
    → (if b then Ok ((None, empty), at) else blocks_held head at) ≡ Ok x → Both x.0
held_by head at x true e =
    let made : (Option Sealed × Blocks) × Unread = ((None, empty), at) in
    let bare : Both (None, empty) = (λ _. refl, λ some. absurd (true≢false (sym some))) in
    subst (λ (y : (Option Sealed × Blocks) × Unread). Both y.0) (ok_is made x e) bare
held_by head at x false e =
    let a = bind-ok (sealed_at at) (λ payload. block_count_at head.version payload.1 >>= λ count.
    blocks_at count.0 head.version head.next [] empty count.1 >>= λ blocks. Ok ((Some payload.0, blocks.0), blocks.1)) x e in
    let b = bind-ok (block_count_at head.version a.0.1) (λ count.
    blocks_at count.0 head.version head.next [] empty count.1 >>= λ blocks. Ok ((Some a.0.0, blocks.0), blocks.1)) x a.2 in
    let d = bind-ok (blocks_at b.0.0 head.version head.next [] empty b.0.1) (λ blocks. Ok ((Some a.0.0, blocks.0), blocks.1)) x b.2 in
    let made : (Option Sealed × Blocks) × Unread = ((Some a.0.0, d.0.0), d.0.1) in
    let few = blocks_some b.0.0 head.version head.next [] empty b.0.1 d.0 (count_some head.version a.0.1 b.0 b.1) d.1 in
    let full : Both (Some a.0.0, d.0.0) = (λ none. absurd (not_None a.0.0 none), λ _. few) in
    subst (λ (y : (Option Sealed × Blocks) × Unread). Both y.0) (ok_is made x d.2) full

held_both : (head : Head) (at : Unread) (x : (Option Sealed × Blocks) × Unread) → held_at head at ≡ Ok x → Both x.0
unfolding held_at
held_both head at x is = held_by head at x (head.state == 0) is

-- a stash that is read has payload and blocks together, or neither
pub both_read : (bytes : List ℕ) (stash : Stash) → stash_at bytes ≡ Some stash → HasBoth stash
unfolding stash_read
both_read bytes stash is =
    let a = bind-ok (head_at (start bytes)) (λ head. held_at head.0 head.1 >>= λ held. or_fault bad_at (end_at held.1) >>
    Ok (record { account = head.0.account; next = head.0.next; payload = held.0.0; blocks = held.0.1 })) stash (read_ok (stash_read bytes) stash is) in
    let b = bind-ok (held_at a.0.0 a.0.1) (λ held. or_fault bad_at (end_at held.1) >>
    Ok (record { account = a.0.0.account; next = a.0.0.next; payload = held.0.0; blocks = held.0.1 })) stash a.2 in
    let d = done-ok bad_at (end_at b.0.1)
    (Ok (record { account = a.0.0.account; next = a.0.0.next; payload = b.0.0.0; blocks = b.0.0.1 })) stash b.2 in
    let made : Stash = record { account = a.0.0.account; next = a.0.0.next; payload = b.0.0.0; blocks = b.0.0.1 } in
    let both = held_both a.0.0 a.0.1 b.0 b.1 in
    subst HasBoth (ok_is made stash d.1) (record { none = both.0; some = both.1 })

-- ---- how long a payload is

bytes_left : (count : ℕ) (at : Unread) (x : List ℕ × Unread) → bytes_at count at ≡ Ok x
    → (length x.0 ≡ count) × (length at.left ≡ count + length x.1.left)
unfolding bytes_at
bytes_left count at x is = by_size (nat_le count (length at.left)) refl is
  where
    by_size : (b : Bool) → nat_le count (length at.left) ≡ b
        → (if b then Ok (take count at.left, past count at) else Err (Short at.place)) ≡ Ok x
        → (length x.0 ≡ count) × (length at.left ≡ count + length x.1.left)
    by_size true fits e =
        let within = leb-true count (length at.left) fits in
        let rest = length-drop count at.left in
        let made : List ℕ × Unread = (take count at.left, past count at) in
        let here : (length made.0 ≡ count) × (length at.left ≡ count + length made.1.left) =
        (length-take-le count at.left within, omega (arith, within, rest)) in
        subst (λ (y : List ℕ × Unread). (length y.0 ≡ count) × (length at.left ≡ count + length y.1.left)) (ok_is made x e) here
    by_size false fits e = absurd (no_fault (Short at.place) x e)

u8_left : (at : Unread) (x : ℕ × Unread) → u8_at at ≡ Ok x → length at.left ≡ 1 + length x.1.left
unfolding u8_at
u8_left at x is = by_size (nat_le 1 (length at.left)) refl is
  where
    by_size : (b : Bool) → nat_le 1 (length at.left) ≡ b
        → (if b then Ok (slice_index at.left 0, past 1 at) else Err (Short at.place)) ≡ Ok x
        → length at.left ≡ 1 + length x.1.left
    by_size true fits e =
        let within = leb-true 1 (length at.left) fits in
        let rest = length-drop 1 at.left in
        let made : ℕ × Unread = (slice_index at.left 0, past 1 at) in
        let here : length at.left ≡ 1 + length made.1.left = omega (arith, within, rest) in
        subst (λ (y : ℕ × Unread). length at.left ≡ 1 + length y.1.left) (ok_is made x e) here
    by_size false fits e = absurd (no_fault (Short at.place) x e)

u64_left : (at : Unread) (x : ℕ × Unread) → u64_at at ≡ Ok x → length at.left ≡ 8 + length x.1.left
unfolding u64_at
u64_left at x is =
    let a = bind-ok (bytes_at 8 at) (λ field. Ok (from_be_bytes w64 field.0, field.1)) x is in
    let made : ℕ × Unread = (from_be_bytes w64 a.0.0, a.0.1) in
    subst (λ (y : ℕ × Unread). length at.left ≡ 8 + length y.1.left) (ok_is made x a.2) (bytes_left 8 at a.0 a.1).1

part_left : (count : ℕ) (at : Unread) (x : List ℕ × Unread) → part_at count at ≡ Ok x → length at.left ≡ count + length x.1.left
part_left count at x is = (bytes_left count at x (or_fault-ok bad_at (bytes_at count at) x is)).1

field_left : (at : Unread) (x : List ℕ × Unread) → field8_at at ≡ Ok x → length at.left ≡ 1 + length x.0 + length x.1.left
unfolding field8_at
field_left at x is =
    let a = bind-ok (u8_at at) (λ size. bytes_at size.0 size.1) x is in
    let one = u8_left at a.0 a.1 in
    let more = bytes_left a.0.0 a.0.1 x a.2 in
    let size = more.0 in
    let rest = more.1 in
    omega (arith, one, size, rest)

label_left : (at : Unread) (x : List ℕ × Unread) → label_at at ≡ Ok x → length at.left ≤ 17 + length x.1.left
unfolding label_at
label_left at x is =
    let a = step-ok (λ (fault : ByteFault). bad_here at) (field8_at at) (λ name. rule (is_factor_label name.0) (bad_here at) >> Ok name) x is in
    let b = rule_then-ok (is_factor_label a.0.0) (bad_here at) (Ok a.0) x a.2 in
    let short = length-label a.0.0 b.0 in
    let all = field_left at a.0 a.1 in
    let here : length at.left ≤ 17 + length a.0.1.left = omega (arith, short, all) in
    subst (λ (y : List ℕ × Unread). length at.left ≤ 17 + length y.1.left) (ok_is a.0 x b.1) here

reset_left : (last : List ℕ) (resets : Resets) (at : Unread) (x : (List ℕ × Resets) × Unread) → reset_row_at last resets at ≡ Ok x
    → length at.left ≤ 57 + length x.1.left
unfolding reset_row_at
reset_left last resets at x is =
    let a = step-ok bad_field (label_at at) (λ label. rule (rises last label.0) (BadStash at.place) >> (or_fault bad_at (u64_at label.1) >>= λ edition. part_at 32 edition.1 >>= λ secret.
    Ok ((label.0, insert resets label.0 (record { edition = edition.0; secret = secret.0 })), secret.1))) x is in
    let b = rule_then-ok (rises last a.0.0) (BadStash at.place) (or_fault bad_at (u64_at a.0.1) >>= λ edition. part_at 32 edition.1 >>= λ secret.
    Ok ((a.0.0, insert resets a.0.0 (record { edition = edition.0; secret = secret.0 })), secret.1)) x a.2 in
    let d = step-ok bad_at (u64_at a.0.1) (λ edition. part_at 32 edition.1 >>= λ secret.
    Ok ((a.0.0, insert resets a.0.0 (record { edition = edition.0; secret = secret.0 })), secret.1)) x b.1 in
    let f = bind-ok (part_at 32 d.0.1) (λ secret.
    Ok ((a.0.0, insert resets a.0.0 (record { edition = d.0.0; secret = secret.0 })), secret.1)) x d.2 in
    let made : (List ℕ × Resets) × Unread = ((a.0.0, insert resets a.0.0 (record { edition = d.0.0; secret = f.0.0 })), f.0.1) in
    let one = label_left at a.0 a.1 in
    let two = u64_left a.0.1 d.0 d.1 in
    let three = part_left 32 d.0.1 f.0 f.1 in
    let here : length at.left ≤ 57 + length made.1.left = omega (arith, one, two, three) in
    subst (λ (y : (List ℕ × Resets) × Unread). length at.left ≤ 57 + length y.1.left) (ok_is made x f.2) here

resets_left : (count : ℕ) (last : List ℕ) (resets : Resets) (at : Unread) (x : Resets × Unread) → resets_at count last resets at ≡ Ok x
    → length at.left ≤ 57 * count + length x.1.left
unfolding resets_at
resets_left zero last resets at x is =
    let here : length at.left ≤ 57 * 0 + length at.left = omega arith in
    subst (λ (y : Resets × Unread). length at.left ≤ 57 * 0 + length y.1.left) (ok_is (resets, at) x is) here
resets_left (suc count) last resets at x is =
    let a = bind-ok (reset_row_at last resets at) (λ row. resets_at count row.0.0 row.0.1 row.1) x is in
    let one = reset_left last resets at a.0 a.1 in
    let rest = resets_left count a.0.0.0 a.0.0.1 a.0.1 x a.2 in
    omega (arith, one, rest)

reset_count_left : (at : Unread) (x : ℕ × Unread) → reset_count_at at ≡ Ok x → (x.0 ≤ 16) × (length at.left ≡ 1 + length x.1.left)
unfolding reset_count_at
reset_count_left at x is =
    let a = step-ok bad_at (u8_at at) (λ number. rule (nat_le number.0 16) (BadStash at.place) >> Ok number) x is in
    let b = rule_then-ok (nat_le a.0.0 16) (BadStash at.place) (Ok a.0) x a.2 in
    subst (λ (y : ℕ × Unread). (y.0 ≤ 16) × (length at.left ≡ 1 + length y.1.left)) (ok_is a.0 x b.1)
    (leb-true a.0.0 16 b.0, u8_left at a.0 a.1)

end_left : (at : Unread) → end_at at ≡ Ok tt → length at.left ≡ 0
unfolding end_at
end_left at is = by_size (length at.left == 0) refl is
  where
    by_size : (b : Bool) → (length at.left == 0) ≡ b → ◌≡◌ {A = Result (Unit {0}) ByteFault} (if b then Ok tt else Err (Trailing at.place)) (Ok tt) → length at.left ≡ 0
    by_size true same e = eqb-true (length at.left) 0 same
    by_size false same e = absurd (no_fault (Trailing at.place) tt e)

-- a payload's text that is read has at most 945 bytes
pub payload_short : (text : List ℕ) (payload : Payload) → payload_at text ≡ Some payload → length text ≤ 945
unfolding payload_read
payload_short text payload is =
    let a = bind-ok (part_at 32 (start text)) (λ vault. reset_count_at vault.1 >>= λ count. resets_at count.0 [] empty count.1 >>= λ resets. or_fault bad_at (end_at resets.1) >>
    Ok (record { vault = vault.0; resets = resets.0 })) payload (read_ok (payload_read text) payload is) in
    let b = bind-ok (reset_count_at a.0.1) (λ count. resets_at count.0 [] empty count.1 >>= λ resets. or_fault bad_at (end_at resets.1) >>
    Ok (record { vault = a.0.0; resets = resets.0 })) payload a.2 in
    let d = bind-ok (resets_at b.0.0 [] empty b.0.1) (λ resets. or_fault bad_at (end_at resets.1) >>
    Ok (record { vault = a.0.0; resets = resets.0 })) payload b.2 in
    let f = done-ok bad_at (end_at d.0.1) (Ok (record { vault = a.0.0; resets = d.0.0 })) payload d.2 in
    let one = part_left 32 (start text) a.0 a.1 in
    let count = reset_count_left a.0.1 b.0 b.1 in
    let few = count.0 in
    let two = count.1 in
    let three = resets_left b.0.0 [] empty b.0.1 d.0 d.1 in
    let four = end_left d.0.1 f.0 in
    omega (arith, one, few, two, three, four)

-- what opens is as long as what it opens to
pub opened_length : (key extra : List ℕ) (sealed : Sealed) (text : List ℕ) → Opens key extra sealed text → length sealed.text ≡ length text
unfolding decrypted
opened_length key extra sealed text opens =
    sym (length-gctr 8 14 key (inc32 (first_block sealed.iv)) sealed.text) ∙ ap length opens.text
