-- How long a record is, and how long a payload.
use Rattle.std.proofs.Common.{◌≡◌, ℕ, suc, ◌+◌, ◌*◌, ◌≤◌, List, [], ◌∷◌, ◌++◌, length, Option, Some, None, refl, ap, ◌∙◌, arith}
use Rattle.std.specs.Prelude.{IsTrue, IfSome, All}
use Rattle.std.specs.Int.{w16, w64, to_be_bytes}
use Rattle.std.specs.List.{flat_map, AllByRecursion}
use Rattle.std.specs.FinMap.{entries}
use Rattle.std.proofs.lemmas.Bool.{and_parts, leb-true}
use Rattle.std.proofs.lemmas.List.{length-append}
use Rattle.std.proofs.lemmas.List.Elements.{recursion_from_All}
use Rattle.std.proofs.lemmas.List.Concat.{flat_map-cons}
use Rattle.ct_bytes.specs.Fields.{field8}
use Rattle.home_names.specs.Names.{is_account_name, is_factor_label}
use Rattle.sealed_text.specs.declared.sealed.Sealed.{Sealed}
use Rattle.stash_format.specs.declared.block.Block.{Block}
use Rattle.stash_format.specs.declared.reset.Reset.{Reset}
use Rattle.stash_format.specs.declared.contents.Contents.{Contents}
use Rattle.stash_format.specs.Forms.{form_number}
use Rattle.stash_format.specs.Resets.{Resets}
use Rattle.stash_format.specs.Sizes.{payload_size, text_size, most_beside_payload, most_payload}
use Rattle.stash_format.specs.Spelling.{block_bytes, row_bytes, sealed_bytes, held_bytes, stash_bytes, reset_bytes, payload_bytes}
use Rattle.stash_format.specs.Spelled.{IsRow, HasSpelling, HasBlockSizes, HasSealedSizes, HasSizes, HasResetSizes, HasResetSpelling}

-- a label has at most 16 bytes
short_label : (label : List ℕ) → IsTrue (is_factor_label label) → length label ≤ 16
short_label label is = leb-true _ _ (and_parts _ _ (and_parts _ _ is).0).1

-- an account's name has at most 32 bytes
short_account : (account : List ℕ) → IsTrue (is_account_name account) → length account ≤ 32
short_account account is = leb-true _ _ (and_parts _ _ (and_parts _ _ is).0).1

-- a row's bytes stand before those of the rows behind it
length-rows : {X : Type 0} (bytes_of : X → List ℕ) (row : X) (rows : List X)
    → length (flat_map bytes_of (row ∷ rows)) ≡ length (bytes_of row) + length (flat_map bytes_of rows)
length-rows bytes_of row rows = ap length (flat_map-cons bytes_of row rows) ∙ length-append (bytes_of row) (flat_map bytes_of rows)

-- a block has 69 bytes behind its label
length-block_bytes : (block : Block) → HasBlockSizes block → length (block_bytes block) ≡ 69
unfolding block_bytes
length-block_bytes block sizes =
    let edition : List ℕ = to_be_bytes w64 block.edition in
    let eight : length edition ≡ 8 = refl in
    let outer = length-append edition (form_number block.form ∷ (block.iv ++ (block.text ++ block.tag))) in
    let iv = length-append block.iv (block.text ++ block.tag) in
    let text = length-append block.text block.tag in
    omega (arith, outer, iv, text, eight, sizes.iv, sizes.text, sizes.tag)

-- a label and its block have at most 86 bytes
length-row_bytes : (next : ℕ) (row : List ℕ × Block) → IsRow next row → HasBlockSizes row.1 → length (row_bytes row) ≤ 86
length-row_bytes next row is sizes =
    let whole = length-append (field8 row.0) (block_bytes row.1) in
    let named : length (field8 row.0) ≡ suc (length row.0) = refl in
    omega (arith, whole, named, short_label row.0 is.label, length-block_bytes row.1 sizes)

-- labels and blocks have at most 86 bytes each
blocks_size : (next : ℕ) (rows : List (List ℕ × Block)) → AllByRecursion (IsRow next) rows → AllByRecursion (λ (row : List ℕ × Block). HasBlockSizes row.1) rows
    → length (flat_map row_bytes rows) ≤ 86 * length rows
blocks_size next [] are sizes = omega arith
blocks_size next (row ∷ rows) are sizes =
    let whole = length-rows row_bytes row rows in
    let one = length-row_bytes next row are.0 sizes.0 in
    let rest = blocks_size next rows are.1 sizes.1 in
    omega (arith, whole, one, rest)

-- a sealed payload has 30 bytes besides its text
length-sealed_bytes : (sealed : Sealed) → HasSealedSizes sealed → length (sealed_bytes sealed) ≡ length sealed.text + 30
unfolding sealed_bytes
length-sealed_bytes sealed sizes =
    let size : List ℕ = to_be_bytes w16 (length sealed.text) in
    let two : length size ≡ 2 = refl in
    let iv = length-append sealed.iv (size ++ (sealed.text ++ sealed.tag)) in
    let behind = length-append size (sealed.text ++ sealed.tag) in
    let text = length-append sealed.text sealed.tag in
    omega (arith, iv, behind, text, two, sizes.iv, sizes.tag)

-- the state, the payload and at most 32 blocks
held_size : (next : ℕ) (payload : Option Sealed) (rows : List (List ℕ × Block)) → AllByRecursion (IsRow next) rows → length rows ≤ 32
    → IfSome payload HasSealedSizes → AllByRecursion (λ (row : List ℕ × Block). HasBlockSizes row.1) rows
    → length (held_bytes payload rows) ≤ 2784 + text_size payload
held_size next None rows are few sealed sizes = omega arith
held_size next (Some sealed) rows are few sealed_sizes sizes =
    let whole = length-append (sealed_bytes sealed) (length rows ∷ flat_map row_bytes rows) in
    let front = length-sealed_bytes sealed sealed_sizes in
    let blocks = blocks_size next rows are sizes in
    omega (arith, whole, front, blocks, few)

-- a record has at most 2,826 bytes besides its payload's text
pub stash_within : (contents : Contents) → HasSpelling contents → HasSizes contents → length (stash_bytes contents) ≤ most_beside_payload + payload_size contents
unfolding stash_bytes
stash_within contents is sizes =
    let rows : List (List ℕ × Block) = entries contents.blocks in
    let held : List ℕ = held_bytes contents.payload rows in
    let next : List ℕ = to_be_bytes w64 contents.next in
    let eight : length next ≡ 8 = refl in
    let named : length (field8 contents.account) ≡ suc (length contents.account) = refl in
    let front = length-append (field8 contents.account) (next ++ held) in
    let behind = length-append next held in
    let most = held_size contents.next contents.payload rows (recursion_from_All (IsRow contents.next) rows is.rows) is.few sizes.payload
    (recursion_from_All (λ (row : List ℕ × Block). HasBlockSizes row.1) rows sizes.rows) in
    omega (arith, front, behind, named, eight, most, short_account contents.account is.account)

-- a label and its reset secret have at most 57 bytes
length-reset_bytes : (row : List ℕ × Reset) → IsTrue (is_factor_label row.0) → HasResetSizes row.1 → length (reset_bytes row) ≤ 57
length-reset_bytes row label sizes =
    let edition : List ℕ = to_be_bytes w64 row.1.edition in
    let eight : length edition ≡ 8 = refl in
    let outer = length-append (field8 row.0) (edition ++ row.1.secret) in
    let inner = length-append edition row.1.secret in
    let named : length (field8 row.0) ≡ suc (length row.0) = refl in
    omega (arith, outer, inner, named, eight, short_label row.0 label, sizes.secret)

-- labels and reset secrets have at most 57 bytes each
resets_size : (rows : List (List ℕ × Reset)) → AllByRecursion (λ (row : List ℕ × Reset). IsTrue (is_factor_label row.0)) rows → AllByRecursion (λ (row : List ℕ × Reset). HasResetSizes row.1) rows
    → length (flat_map reset_bytes rows) ≤ 57 * length rows
resets_size [] are sizes = omega arith
resets_size (row ∷ rows) are sizes =
    let whole = length-rows reset_bytes row rows in
    let one = length-reset_bytes row are.0 sizes.0 in
    let rest = resets_size rows are.1 sizes.1 in
    omega (arith, whole, one, rest)

-- a payload has at most 945 bytes
pub payload_within : (vault : List ℕ) (resets : Resets) → length vault ≡ 32 → HasResetSpelling resets → All (λ (row : List ℕ × Reset). HasResetSizes row.1) (entries resets)
    → length (payload_bytes vault resets) ≤ most_payload
unfolding payload_bytes
payload_within vault resets size is sizes =
    let rows : List (List ℕ × Reset) = entries resets in
    let are = resets_size rows (recursion_from_All (λ (row : List ℕ × Reset). IsTrue (is_factor_label row.0)) rows is.labels)
    (recursion_from_All (λ (row : List ℕ × Reset). HasResetSizes row.1) rows sizes) in
    let whole = length-append vault (length rows ∷ flat_map reset_bytes rows) in
    omega (arith, whole, are, is.few, size)
