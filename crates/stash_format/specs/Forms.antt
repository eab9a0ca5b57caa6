-- What a block's main key is bound to.
use Rattle.std.specs.Prelude.{ℕ, List, [], ◌∷◌, ◌++◌, codes}
use Rattle.std.specs.Int.{w64, to_be_bytes}
use Rattle.sealed_text.specs.declared.sealed.Sealed.{Sealed}
use Rattle.stash_format.specs.declared.block.Form.{Form}
use Rattle.stash_format.specs.declared.block.Form.TheVariants.{Plain, Bound}
use Rattle.stash_format.specs.declared.block.Block.{Block}

-- the number of a form in a record
abbrev pub form_number : Form → ℕ
form_number Plain = 1
form_number Bound = 2

-- the associated data of a block of a form
abbrev pub extra_by : Form → List ℕ → List ℕ → ℕ → List ℕ
extra_by Plain account label edition = codes "block"
extra_by Bound account label edition =
    codes "block" ++ account ++ (0 ∷ []) ++ label ++ (0 ∷ []) ++ to_be_bytes w64 edition

-- the associated data of the block of an account's label
abbrev pub block_extra : List ℕ → List ℕ → Block → List ℕ
block_extra account label block = extra_by block.form account label block.edition

-- the main key of a block, as it is sealed
abbrev pub main_of : Block → Sealed
main_of block = record { iv = block.iv; text = block.text; tag = block.tag }
