-- What is true of the contents of each record that is read.
use Rattle.std.specs.Prelude.{◌≡◌, ℕ, ◌<◌, ◌≤◌, ◌^◌, List, length, None, IsTrue, IsSome, IfSome}
use Rattle.std.specs.FinMap.{get, len, empty}
use Rattle.home_names.specs.Names.{is_account_name}
use Rattle.home_names.specs.Names.{is_factor_label}
use Rattle.stash_format.specs.declared.contents.Contents.{Contents}
use Rattle.stash_format.specs.Blocks.{Blocks}

-- each block has a factor's label, and an edition below the next one
abbrev pub HasRows : ℕ → Blocks → Type 0
HasRows next blocks =
    (label : List ℕ) → IfSome (get blocks label) (λ block. IsTrue (is_factor_label label) × (block.edition < next))

-- contents of a record, except that payload and blocks may be there alone, as in the making
pub record IsStash (contents : Contents) : Type 0 where
  pub account : IsTrue (is_account_name contents.account)
  pub next : 1 ≤ contents.next
  pub text : IfSome contents.payload (λ sealed. length sealed.text < 2 ^ 16)
  pub rows : HasRows contents.next contents.blocks
  pub few : len contents.blocks ≤ 32

-- payload and blocks are there together, or neither is
pub record HasBoth (contents : Contents) : Type 0 where
  pub none : contents.payload ≡ None → contents.blocks ≡ empty
  pub some : IsSome contents.payload → 1 ≤ len contents.blocks
