-- What a record was written with is read from it.
use Rattle.std.proofs.Common.{◌≡◌, ℕ, suc, ◌+◌, ◌<◌, ◌≤◌, ◌^◌, true, List, [], ◌∷◌, ◌++◌, length, Ok, refl, ap, ◌∙◌, append_assoc}
use Rattle.std.specs.Prelude.{nat_le, nat_lt}
use Rattle.std.specs.Int.{w16, w64, to_be_bytes}
use Rattle.std.specs.List.{flat_map, AllByRecursion}
use Rattle.std.specs.FinMap.{insert}
use Rattle.std.specs.Ordering.{is_lt}
use Rattle.std.proofs.lemmas.Bool.{and_parts, and_from, le-leb, lt-ltb}
use Rattle.std.proofs.lemmas.List.Concat.{flat_map-cons}
use Rattle.home_names.specs.Names.{is_account_name}
use Rattle.ct_bytes.specs.Fields.{field8}
use Rattle.ct_bytes.specs.Reading.{Unread}
use Rattle.ct_bytes.proofs.ReadLemmas.{u8_at-front, u16_at-front, u64_at-front, bytes_at-front}
use Rattle.record_fields.proofs.NameLemmas.{account_at-front, label_at-front}
use Rattle.sealed_text.specs.declared.sealed.Sealed.{Sealed}
use Rattle.stash_format.specs.declared.block.Form.{Form}
use Rattle.stash_format.specs.declared.block.Form.TheVariants.{Plain, Bound}
use Rattle.stash_format.specs.declared.block.Block.{Block}
use Rattle.stash_format.specs.Forms.{form_number}
use Rattle.stash_format.specs.Fields.{version_at, next_at, state_at, head_at, edition_at, form_at, block_at}
use Rattle.stash_format.specs.Blocks.{Blocks, row_at, blocks_at}
use Rattle.stash_format.specs.Held.{sealed_at}
use Rattle.stash_format.specs.Spelling.{block_bytes, row_bytes, sealed_bytes}
use Rattle.stash_format.specs.Spelled.{IsRow, HasBlockSizes, HasSealedSizes}
use Rattle.stash_format.specs.Live.{inserted_all}
use Rattle.stash_format.proofs.Rising.{order, rising}

abbrev pub unread : ℕ → List ℕ → Unread
unread place left = record { place = place; left = left }

form_at-front : (place : ℕ) (form : Form) (rest : List ℕ) → form_at 2 (unread place (form_number form ∷ rest)) ≡ Ok (form, unread (place + 1) rest)
unfolding form_at
form_at-front place Plain rest = rw (u8_at-front place 1 rest) refl
form_at-front place Bound rest = rw (u8_at-front place 2 rest) refl

-- a block behind its label
block_at-front : (next place : ℕ) (block : Block) (rest : List ℕ) → block.edition < next → HasBlockSizes block
    → block_at 2 next (unread place (block_bytes block ++ rest)) ≡ Ok (block, unread (place + 8 + 1 + 12 + 32 + 16) rest)
unfolding block_at edition_at block_bytes
block_at-front next place block rest below sizes =
    let regrouped : (to_be_bytes w64 block.edition ++ (form_number block.form ∷ (block.iv ++ (block.text ++ block.tag)))) ++ rest
    ≡ to_be_bytes w64 block.edition ++ (form_number block.form ∷ (block.iv ++ (block.text ++ (block.tag ++ rest)))) = simp append_assoc in
    let small : nat_lt block.edition next ≡ true = lt-ltb _ _ below in
    ap (λ left. block_at 2 next (unread place left)) regrouped
    ∙ rw (
      u64_at-front place block.edition (form_number block.form ∷ (block.iv ++ (block.text ++ (block.tag ++ rest)))) sizes.edition,
      small,
      form_at-front (place + 8) block.form (block.iv ++ (block.text ++ (block.tag ++ rest))),
      bytes_at-front 12 (place + 8 + 1) block.iv (block.text ++ (block.tag ++ rest)) sizes.iv,
      bytes_at-front 32 (place + 8 + 1 + 12) block.text (block.tag ++ rest) sizes.text,
      bytes_at-front 16 (place + 8 + 1 + 12 + 32) block.tag rest sizes.tag,
    ) refl

-- a label and its block
row_at-front : (next place : ℕ) (last : List ℕ) (blocks : Blocks) (row : List ℕ × Block) (rest : List ℕ)
    → rising last (row ∷ []) ≡ true → IsRow next row → HasBlockSizes row.1
    → (end : ℕ) × (row_at 2 next last blocks (unread place (row_bytes row ++ rest)) ≡ Ok ((row.0, insert blocks row.0 row.1), unread end rest))
unfolding row_at
row_at-front next place last blocks row rest above is sizes =
    let regrouped : (field8 row.0 ++ block_bytes row.1) ++ rest ≡ field8 row.0 ++ (block_bytes row.1 ++ rest) = append_assoc (field8 row.0) (block_bytes row.1) rest in
    let higher : is_lt (order last row.0) ≡ true = (and_parts _ _ above).0 in (
      place + 1 + length row.0 + 8 + 1 + 12 + 32 + 16,
      ap (λ left. row_at 2 next last blocks (unread place left)) regrouped
          ∙ rw (
            label_at-front place row.0 (block_bytes row.1 ++ rest) is.label,
            higher,
            block_at-front next (place + 1 + length row.0) row.1 rest is.edition sizes,
          ) refl,
    )

-- all labels and blocks
pub blocks_at-front : (next place : ℕ) (last : List ℕ) (blocks : Blocks) (rows : List (List ℕ × Block)) (rest : List ℕ)
    → rising last rows ≡ true → AllByRecursion (IsRow next) rows → AllByRecursion (λ (row : List ℕ × Block). HasBlockSizes row.1) rows
    → (end : ℕ) × (blocks_at (length rows) 2 next last blocks (unread place (flat_map row_bytes rows ++ rest)) ≡ Ok (inserted_all blocks rows, unread end rest))
unfolding blocks_at
blocks_at-front next place last blocks [] rest above are sizes = (place, refl)
blocks_at-front next place last blocks (row ∷ rows) rest above are sizes =
    let parts = and_parts _ _ above in
    let first = row_at-front next place last blocks row (flat_map row_bytes rows ++ rest) (and_from _ _ parts.0 refl) are.0 sizes.0 in
    let others = blocks_at-front next first.0 row.0 (insert blocks row.0 row.1) rows rest parts.1 are.1 sizes.1 in
    let regrouped : flat_map row_bytes (row ∷ rows) ++ rest ≡ row_bytes row ++ (flat_map row_bytes rows ++ rest) =
    ap (λ w. w ++ rest) (flat_map-cons row_bytes row rows) ∙ append_assoc (row_bytes row) (flat_map row_bytes rows) rest in
    (others.0, ap (λ left. blocks_at (suc (length rows)) 2 next last blocks (unread place left)) regrouped ∙ rw (first.1, others.1) refl)

-- a sealed payload
pub sealed_at-front : (place : ℕ) (sealed : Sealed) (rest : List ℕ) → length sealed.text < 2 ^ 16 → HasSealedSizes sealed
    → sealed_at (unread place (sealed_bytes sealed ++ rest)) ≡ Ok (sealed, unread (place + 12 + 2 + length sealed.text + 16) rest)
unfolding sealed_at sealed_bytes
sealed_at-front place sealed rest small sizes =
    let size : List ℕ = to_be_bytes w16 (length sealed.text) in
    let regrouped : (sealed.iv ++ (size ++ (sealed.text ++ sealed.tag))) ++ rest ≡ sealed.iv ++ (size ++ (sealed.text ++ (sealed.tag ++ rest))) = simp append_assoc in
    ap (λ left. sealed_at (unread place left)) regrouped
    ∙ rw (
      bytes_at-front 12 place sealed.iv (size ++ (sealed.text ++ (sealed.tag ++ rest))) sizes.iv,
      u16_at-front (place + 12) (length sealed.text) (sealed.text ++ (sealed.tag ++ rest)) small,
      bytes_at-front (length sealed.text) (place + 12 + 2) sealed.text (sealed.tag ++ rest) refl,
      bytes_at-front 16 (place + 12 + 2 + length sealed.text) sealed.tag rest sizes.tag,
    ) refl

-- the fields in front
pub head_at-front : (account : List ℕ) (next state : ℕ) (rest : List ℕ) → is_account_name account ≡ true → 1 ≤ next → next < 2 ^ 64 → nat_le state 1 ≡ true
    → head_at (unread 0 (2 ∷ (field8 account ++ (to_be_bytes w64 next ++ (state ∷ rest)))))
    ≡ Ok (record { version = 2; account = account; next = next; state = state }, unread (0 + 1 + 1 + length account + 8 + 1) rest)
unfolding head_at version_at next_at state_at
head_at-front account next state rest plain from fits known =
    let some : nat_le 1 next ≡ true = le-leb _ _ from in
    rw (
      u8_at-front 0 2 (field8 account ++ (to_be_bytes w64 next ++ (state ∷ rest))),
      account_at-front (0 + 1) account (to_be_bytes w64 next ++ (state ∷ rest)) plain,
      u64_at-front (0 + 1 + 1 + length account) next (state ∷ rest) fits,
      some,
      u8_at-front (0 + 1 + 1 + length account + 8) state rest,
      known,
    ) refl
