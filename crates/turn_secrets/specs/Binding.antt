-- Blocks that are bound to nothing, and sealing them anew.
use Rattle.std.specs.Prelude.{◌≡◌, List, Bool, true, false, Option, None, Some, IsSomeAnd, is_some}
use Rattle.account_machine.specs.declared.user.Durable.{Durable}
use Rattle.home_edits.specs.Edits.{Starts}
use Rattle.home_edits.specs.Reseals.{Reseals, KeepsResealed}
use Rattle.random_values.specs.Stretches.{Place, moved, stretch}
use Rattle.share_api.specs.Contents.{Bytes, Contents}
use Rattle.share_api.specs.Folds.{Fold, Throughout}
use Rattle.share_api.specs.Seen.{ShareSeen, Runs, HasFailed}
use Rattle.share_api.specs.Steps.{Does}
use Rattle.share_api.specs.declared.step.Step.{Step}
use Rattle.stash_format.specs.declared.block.Block.{Block}
use Rattle.stash_format.specs.declared.block.Form.{Form}
use Rattle.stash_format.specs.declared.block.Form.TheVariants.{Plain, Bound}
use Rattle.stored_home.specs.Holds.{Keys, HoldsUnder}
use Rattle.stored_home.specs.Loaded.{IsKept, block_in}
use Rattle.stored_home.specs.declared.stored.Stored.{Stored}

abbrev pub is_plain_form : Form → Bool
is_plain_form Plain = true
is_plain_form Bound = false

-- whether a block is there that is bound to nothing: the form of older stashes
abbrev pub is_unbound : Option Block → Bool
is_unbound None = false
is_unbound (Some block) = is_plain_form block.form

-- the label's block is bound to account, label and edition
abbrev pub IsBoundAt : Stored → Bytes → Type 0
IsBoundAt stored label = IsSomeAnd (block_in stored.stash label) (λ block. block.form ≡ Bound)

-- the IV that a block is sealed anew with: the next stretch of the account's generator
abbrev pub next_iv : Place → Bytes
next_iv generator = stretch generator.key generator.position 3

-- the generator afterwards, by whether the block was bound to nothing
abbrev pub drawn_by : Bool → Place → Place
drawn_by true generator = moved generator 3
drawn_by false generator = generator

-- what is loaded afterwards, by whether the block was bound to nothing: it is sealed anew, or nothing changes
abbrev pub LoadsBound : Bool → Stored → Bytes → Bytes → Bytes → Place → Stored → Type 0
LoadsBound true stored label key main generator after =
    KeepsResealed label key main (next_iv generator) stored after
LoadsBound false stored label key main generator after = after ≡ stored

-- The block was sealed anew where it was bound to nothing, over any share and of whatever contents the account's steps
-- fit: what is held stays throughout, and once it is done it is loaded.
pub record Binds (old new : ShareSeen) (account : Bytes) (stored after : Stored) (label key main : Bytes)
    (ok failed : Type 0) : Type 0 where
  pub steps : List Step
  pub runs : Runs old new steps
  pub fails : failed → HasFailed steps
  pub throughout : (contents : Contents) (keys : Keys) (durable : Durable)
      → Starts (is_some old.lost) account stored (Reseals account label key main) contents keys durable durable
      → Throughout (Does old.era) (λ c. HoldsUnder (is_some old.lost) c account durable keys) contents steps
  pub loaded : ok → (contents : Contents) (keys : Keys) (durable : Durable)
      → Starts (is_some old.lost) account stored (Reseals account label key main) contents keys durable durable
      → (new : Contents) → Fold (Does old.era) contents steps new → IsKept (is_some old.lost) new account after
