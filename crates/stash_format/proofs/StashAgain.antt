-- A whole record, and a whole payload.
use Rattle.std.proofs.Common.{◌≡◌, ℕ, suc, ◌+◌, ◌<◌, ◌≤◌, ◌^◌, true, List, [], ◌∷◌, ◌++◌, length, Some, None, Ok, refl, sym, ap, subst, ◌∙◌, append_assoc}
use Rattle.std.specs.Prelude.{nat_le, IsTrue, All}
use Rattle.std.specs.Int.{w64, to_be_bytes}
use Rattle.std.specs.List.{flat_map, AllByRecursion}
use Rattle.std.specs.Ordering.{is_lt}
use Rattle.std.specs.FinMap.{FinMap, empty, entries, insert}
use Rattle.std.specs.FinMap.Entries.{below_all}
use Rattle.std.proofs.lemmas.Bool.{and_parts, and_from, le-leb}
use Rattle.std.proofs.lemmas.List.{append-nil}
use Rattle.std.proofs.lemmas.List.Elements.{recursion_from_All}
use Rattle.std.proofs.lemmas.List.Concat.{flat_map-cons}
use Rattle.name_map.proofs.Maps.{IsRows-entries}
use Rattle.ct_bytes.specs.Fields.{field8}
use Rattle.ct_bytes.proofs.ReadLemmas.{u8_at-front, u64_at-front, bytes_at-front, end_at-none}
use Rattle.home_names.specs.Names.{is_factor_label}
use Rattle.record_fields.proofs.NameLemmas.{label_at-front}
use Rattle.sealed_text.specs.declared.sealed.Sealed.{Sealed}
use Rattle.stash_format.specs.declared.block.Block.{Block}
use Rattle.stash_format.specs.declared.reset.Reset.{Reset}
use Rattle.stash_format.specs.declared.contents.Contents.{Contents}
use Rattle.stash_format.specs.Fields.{block_count_at}
use Rattle.stash_format.specs.Blocks.{Blocks}
use Rattle.stash_format.specs.Held.{held_at}
use Rattle.stash_format.specs.Record.{stash_read}
use Rattle.stash_format.specs.Resets.{Resets, reset_count_at, reset_row_at, resets_at}
use Rattle.stash_format.specs.Payloads.{payload_read}
use Rattle.stash_format.specs.Spelling.{row_bytes, sealed_bytes, stash_bytes, reset_bytes, payload_bytes}
use Rattle.stash_format.specs.Spelled.{IsRow, HasSpelling, HasBlockSizes, HasSizes, HasResetSizes, HasResetSpelling}
use Rattle.stash_format.specs.Live.{inserted_all}
use Rattle.stash_format.proofs.Rising.{order, rising, rising-sorted, inserted_all-entries, empty_of_none}
use Rattle.stash_format.proofs.ReadAgain.{unread, blocks_at-front, sealed_at-front, head_at-front}

-- a label has bytes, so it is above the empty one
above_empty : (label : List ℕ) → is_factor_label label ≡ true → is_lt (order [] label) ≡ true
above_empty [] is = absurd cc
above_empty (b ∷ bytes) is = refl

all_above_empty : {X : Type 0} (rows : List (List ℕ × X)) → AllByRecursion (λ (row : List ℕ × X). IsTrue (is_factor_label row.0)) rows → below_all order [] rows ≡ true
all_above_empty [] are = refl
all_above_empty (row ∷ rows) are = and_from _ _ (above_empty row.0 are.0) (all_above_empty rows are.1)

-- the labels of a map's entries rise
rising-entries : {X : Type 0} (m : FinMap order X) → AllByRecursion (λ (row : List ℕ × X). IsTrue (is_factor_label row.0)) (entries m) → rising [] (entries m) ≡ true
rising-entries m are = rising-sorted [] (entries m) (all_above_empty (entries m) are) (IsRows-entries m)

labels_of : (next : ℕ) (rows : List (List ℕ × Block)) → AllByRecursion (IsRow next) rows → AllByRecursion (λ (row : List ℕ × Block). IsTrue (is_factor_label row.0)) rows
labels_of next [] are = tt
labels_of next (row ∷ rows) are = (are.0.label, labels_of next rows are.1)

-- the number of blocks
count_at-front : (place count : ℕ) (rest : List ℕ) → 1 ≤ count → count ≤ 32 → block_count_at 2 (unread place (count ∷ rest)) ≡ Ok (count, unread (place + 1) rest)
unfolding block_count_at
count_at-front place count rest some few =
    let least : nat_le 1 count ≡ true = le-leb _ _ some in
    let most : nat_le count 32 ≡ true = le-leb _ _ few in
    rw (u8_at-front place count rest, least, most) refl

-- a home without factors
bare_again : (account : List ℕ) (next : ℕ) (blocks : Blocks) → HasSpelling (record { account = account; next = next; payload = None; blocks = blocks }) → next < 2 ^ 64
    → stash_read (stash_bytes (record { account = account; next = next; payload = None; blocks = blocks })) ≡ Ok (record { account = account; next = next; payload = None; blocks = blocks })
unfolding stash_read stash_bytes held_at
bare_again account next blocks is fits =
    let none : blocks ≡ empty = empty_of_none blocks (is.none refl) in
    rw (head_at-front account next 0 [] is.account is.next fits refl, end_at-none (0 + 1 + 1 + length account + 8 + 1), none) refl

-- a home with factors
full_again : (account : List ℕ) (next : ℕ) (sealed : Sealed) (blocks : Blocks) → HasSpelling (record { account = account; next = next; payload = Some sealed; blocks = blocks })
    → HasSizes (record { account = account; next = next; payload = Some sealed; blocks = blocks })
    → stash_read (stash_bytes (record { account = account; next = next; payload = Some sealed; blocks = blocks }))
    ≡ Ok (record { account = account; next = next; payload = Some sealed; blocks = blocks })
unfolding stash_read stash_bytes held_at
full_again account next sealed blocks is sizes =
    let rows : List (List ℕ × Block) = entries blocks in
    let are = recursion_from_All (IsRow next) rows is.rows in
    let place : ℕ = 0 + 1 + 1 + length account + 8 + 1 in
    let after : ℕ = place + 12 + 2 + length sealed.text + 16 in
    let read = blocks_at-front next (after + 1) [] empty rows [] (rising-entries blocks (labels_of next rows are)) are
    (recursion_from_All (λ (row : List ℕ × Block). HasBlockSizes row.1) rows sizes.rows) in
    let all = ap (λ left. unread (after + 1) left) (sym (append-nil (flat_map row_bytes rows))) in
    let whole : inserted_all empty rows ≡ blocks = inserted_all-entries blocks in
    rw (
      head_at-front account next 1 (sealed_bytes sealed ++ (length rows ∷ flat_map row_bytes rows)) is.account is.next sizes.next refl,
      sealed_at-front place sealed (length rows ∷ flat_map row_bytes rows) is.text sizes.payload,
      count_at-front after (length rows) (flat_map row_bytes rows) (is.some refl) is.few,
      all,
      read.1,
      end_at-none read.0,
      whole,
    ) refl

-- what a record was written with is read from it
pub stash_again : (contents : Contents) → HasSpelling contents → HasSizes contents → stash_read (stash_bytes contents) ≡ Ok contents
stash_again contents is sizes =
    elim contents.payload as (λ payload. payload ≡ contents.payload → stash_read (stash_bytes contents) ≡ Ok contents) [
      | None ↦ λ same. subst (λ (c : Contents). HasSpelling c → HasSizes c → stash_read (stash_bytes c) ≡ Ok c)
          (λ i. record { account = contents.account; next = contents.next; payload = same i; blocks = contents.blocks })
          (λ spelled fits. bare_again contents.account contents.next contents.blocks spelled fits.next) is sizes
      | Some sealed ↦ λ same. subst (λ (c : Contents). HasSpelling c → HasSizes c → stash_read (stash_bytes c) ≡ Ok c)
          (λ i. record { account = contents.account; next = contents.next; payload = same i; blocks = contents.blocks })
          (λ spelled fits. full_again contents.account contents.next sealed contents.blocks spelled fits) is sizes
    ] refl

-- a label and its reset secret
reset_at-front : (place : ℕ) (last : List ℕ) (resets : Resets) (row : List ℕ × Reset) (rest : List ℕ)
    → is_lt (order last row.0) ≡ true → IsTrue (is_factor_label row.0) → HasResetSizes row.1
    → (end : ℕ) × (reset_row_at last resets (unread place (reset_bytes row ++ rest)) ≡ Ok ((row.0, insert resets row.0 row.1), unread end rest))
unfolding reset_row_at
reset_at-front place last resets row rest higher label sizes =
    let edition : List ℕ = to_be_bytes w64 row.1.edition in
    let regrouped : (field8 row.0 ++ (edition ++ row.1.secret)) ++ rest ≡ field8 row.0 ++ (edition ++ (row.1.secret ++ rest)) = simp append_assoc in (
      place + 1 + length row.0 + 8 + 32,
      ap (λ left. reset_row_at last resets (unread place left)) regrouped
          ∙ rw (
            label_at-front place row.0 (edition ++ (row.1.secret ++ rest)) label,
            higher,
            u64_at-front (place + 1 + length row.0) row.1.edition (row.1.secret ++ rest) sizes.edition,
            bytes_at-front 32 (place + 1 + length row.0 + 8) row.1.secret rest sizes.secret,
          ) refl,
    )

resets_at-front : (place : ℕ) (last : List ℕ) (resets : Resets) (rows : List (List ℕ × Reset)) (rest : List ℕ)
    → rising last rows ≡ true → AllByRecursion (λ (row : List ℕ × Reset). IsTrue (is_factor_label row.0)) rows → AllByRecursion (λ (row : List ℕ × Reset). HasResetSizes row.1) rows
    → (end : ℕ) × (resets_at (length rows) last resets (unread place (flat_map reset_bytes rows ++ rest)) ≡ Ok (inserted_all resets rows, unread end rest))
unfolding resets_at
resets_at-front place last resets [] rest above are sizes = (place, refl)
resets_at-front place last resets (row ∷ rows) rest above are sizes =
    let parts = and_parts _ _ above in
    let first = reset_at-front place last resets row (flat_map reset_bytes rows ++ rest) parts.0 are.0 sizes.0 in
    let others = resets_at-front first.0 row.0 (insert resets row.0 row.1) rows rest parts.1 are.1 sizes.1 in
    let regrouped : flat_map reset_bytes (row ∷ rows) ++ rest ≡ reset_bytes row ++ (flat_map reset_bytes rows ++ rest) =
    ap (λ w. w ++ rest) (flat_map-cons reset_bytes row rows) ∙ append_assoc (reset_bytes row) (flat_map reset_bytes rows) rest in
    (others.0, ap (λ left. resets_at (suc (length rows)) last resets (unread place left)) regrouped ∙ rw (first.1, others.1) refl)

-- what a payload was written with is read from it
pub payload_again : (vault : List ℕ) (resets : Resets) → length vault ≡ 32 → HasResetSpelling resets → All (λ (row : List ℕ × Reset). HasResetSizes row.1) (entries resets)
    → payload_read (payload_bytes vault resets) ≡ Ok (record { vault = vault; resets = resets })
unfolding payload_read payload_bytes reset_count_at
payload_again vault resets size is sizes =
    let rows : List (List ℕ × Reset) = entries resets in
    let are = recursion_from_All (λ (row : List ℕ × Reset). IsTrue (is_factor_label row.0)) rows is.labels in
    let read = resets_at-front (0 + 32 + 1) [] empty rows [] (rising-entries resets are) are
    (recursion_from_All (λ (row : List ℕ × Reset). HasResetSizes row.1) rows sizes) in
    let all = ap (λ left. unread (0 + 32 + 1) left) (sym (append-nil (flat_map reset_bytes rows))) in
    let few : nat_le (length rows) 16 ≡ true = le-leb _ _ is.few in
    let whole : inserted_all empty rows ≡ resets = inserted_all-entries resets in
    rw (
      bytes_at-front 32 0 vault (length rows ∷ flat_map reset_bytes rows) size,
      u8_at-front (0 + 32) (length rows) (flat_map reset_bytes rows),
      few,
      all,
      read.1,
      end_at-none read.0,
      whole,
    ) refl
