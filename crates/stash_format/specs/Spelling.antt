-- How a stash's record is written, in version 2, and how its payload.
use Rattle.std.specs.Prelude.{ℕ, List, [], ◌∷◌, ◌++◌, length, Option, Some, None}
use Rattle.std.specs.Int.{w16, w64, to_be_bytes}
use Rattle.std.specs.List.{flat_map}
use Rattle.std.specs.FinMap.{entries}
use Rattle.ct_bytes.specs.Fields.{field8}
use Rattle.sealed_text.specs.declared.sealed.Sealed.{Sealed}
use Rattle.stash_format.specs.declared.block.Block.{Block}
use Rattle.stash_format.specs.declared.reset.Reset.{Reset}
use Rattle.stash_format.specs.declared.contents.Contents.{Contents}
use Rattle.stash_format.specs.Forms.{form_number}
use Rattle.stash_format.specs.Resets.{Resets}

-- a block behind its label: edition, form, IV, encrypted main key, tag
unfoldable pub block_bytes : Block → List ℕ
block_bytes block =
    to_be_bytes w64 block.edition ++ ((form_number block.form ∷ []) ++ (block.iv ++ (block.text ++ block.tag)))

-- a label and its block
abbrev pub row_bytes : List ℕ × Block → List ℕ
row_bytes row = field8 row.0 ++ block_bytes row.1

-- a sealed payload: IV, length, ciphertext, tag
unfoldable pub sealed_bytes : Sealed → List ℕ
sealed_bytes sealed = sealed.iv ++ (to_be_bytes w16 (length sealed.text) ++ (sealed.text ++ sealed.tag))

-- the state, and behind 1 the payload, the number of blocks and the blocks
abbrev pub held_bytes : Option Sealed → List (List ℕ × Block) → List ℕ
held_bytes None rows = 0 ∷ []
held_bytes (Some sealed) rows = (1 ∷ []) ++ (sealed_bytes sealed ++ ((length rows ∷ []) ++ flat_map row_bytes rows))

-- the record: version 2, account, next edition, and what is held
unfoldable pub stash_bytes : Contents → List ℕ
stash_bytes contents =
    (2 ∷ []) ++ (field8 contents.account ++ (to_be_bytes w64 contents.next ++ held_bytes contents.payload (entries contents.blocks)))

-- a label and its reset secret
abbrev pub reset_bytes : List ℕ × Reset → List ℕ
reset_bytes row = field8 row.0 ++ (to_be_bytes w64 row.1.edition ++ row.1.secret)

-- the payload: vault key, number of reset secrets, reset secrets
unfoldable pub payload_bytes : List ℕ → Resets → List ℕ
payload_bytes vault resets = vault ++ ((length (entries resets) ∷ []) ++ flat_map reset_bytes (entries resets))
