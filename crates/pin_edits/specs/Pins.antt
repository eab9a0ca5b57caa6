-- New PINs: their leaves, records and blocks, and what their edits ask.
use Rattle.std.specs.Prelude.{◌≡◌, List, ◌⊎◌, ℕ, ◌≤◌, ◌<◌, ◌==◌, Bool, false, [], ◌∷◌, Option, None, Some, Result, Ok, Err, IsOk, IsErr, is_some, length, take}
use Rattle.std.specs.FinMap.{get, insert, len}
use Rattle.account_machine.specs.declared.factor.Kind.TheVariants.{Pin}
use Rattle.account_machine.specs.declared.user.Durable.{Durable}
use Rattle.account_machine.specs.Effect.{with_factor}
use Rattle.factor_files.specs.declared.factor.FactorRecord.{FactorRecord}
use Rattle.record_names.specs.Names.{stash_name, factor_name}
use Rattle.scrypt_kdf.specs.Derive.{derive}
use Rattle.sealed_text.specs.declared.sealed.Sealed.{Sealed}
use Rattle.secret_stash.specs.Edits.{live_resets}
use Rattle.secret_stash.specs.Keys.{new_block, opened_payload, opened_sealed, pin_wrap}
use Rattle.share_api.specs.Contents.{Bytes, Contents}
use Rattle.share_api.specs.Folds.{Fold}
use Rattle.share_api.specs.Seen.{ShareSeen, Runs, Tries, step_of}
use Rattle.share_api.specs.Steps.{Does, AllDone}
use Rattle.share_api.specs.declared.step.Op.TheVariants.{InsertLeaf}
use Rattle.share_api.specs.declared.step.Reply.TheVariants.{Labelled}
use Rattle.share_api.specs.declared.step.Step.{Step}
use Rattle.share_api.specs.declared.step.Write.{Write}
use Rattle.share_api.specs.declared.step.Write.TheVariants.{Remove, RemoveLeaf}
use Rattle.share_api.specs.declared.leaf.NewLeaf.{NewLeaf}
use Rattle.stash_format.specs.Resets.{Resets}
use Rattle.stash_format.specs.Sizes.{most_payload}
use Rattle.stash_format.specs.declared.block.Block.{Block}
use Rattle.stash_format.specs.declared.contents.Contents.{Contents as Stash}
use Rattle.stash_format.specs.declared.payload.Payload.{Payload}
use Rattle.stored_home.specs.Bounds.{HasBounds}
use Rattle.stored_home.specs.Changes.{stash_with}
use Rattle.stored_home.specs.Coherent.{RowNames, pin_rows}
use Rattle.stored_home.specs.Holds.{Keys}
use Rattle.stored_home.specs.Loaded.{Rows}
use Rattle.stored_home.specs.declared.derived.Derived.{Derived}
use Rattle.stored_home.specs.declared.fault.StoreFault.{StoreFault}
use Rattle.stored_home.specs.declared.fault.StoreFault.TheVariants.{Failed, Damaged}
use Rattle.stored_home.specs.declared.stored.Stored.{Stored}
use Rattle.home_edits.specs.Edits.{Starts, Edits}
use Rattle.pin_edits.specs.Refusals.{ChangesNothing}
use Rattle.pin_edits.specs.Writes.{IsRowWrite, rest_of}
use Rattle.pin_edits.specs.declared.pin_stash.NewPin.{NewPin}

-- the leaf of a PIN that was never tried
abbrev pub pin_leaf : NewPin → NewLeaf
pin_leaf pin =
    record { les = take 32 pin.derived.key; hes = pin.high; reset = pin.reset; schedule = pin.schedule }

-- the record of a PIN of this edition, whose leaf has this label
abbrev pub pin_row : Bytes → ℕ → Derived → ℕ → FactorRecord
pin_row label edition derived tree = record {
  kind = Pin;
  label = label;
  edition = edition;
  cost = derived.cost;
  salt = derived.salt;
  leaf = Some tree;
}

-- the block of a PIN of the stash's next edition: the main key under its wrap key
abbrev pub pin_block : Stash → Bytes → NewPin → Bytes → Bytes → Block
pin_block stash label pin main iv =
    new_block stash.account label stash.next (pin_wrap pin.high pin.derived.key) main iv

-- the reset secrets with one of the label's PIN of this edition
abbrev pub with_reset : Resets → Bytes → ℕ → Bytes → Resets
with_reset resets label edition secret = insert resets label (record { edition = edition; secret = secret })

-- the payload that the stash opens to, with the PIN's reset secret of the next edition. It has at most 16
pub record AddsReset (stash : Stash) (main label secret : Bytes) (made : Payload) : Type 0 where
  pub old : Payload
  pub opened : opened_payload stash main ≡ Ok old
  pub vault : made.vault ≡ old.vault
  pub resets : made.resets ≡ with_reset old.resets label stash.next secret
  pub few : len made.resets ≤ 16

-- the stash with the PIN's block, and its payload sealed anew with the PIN's reset secret
pub record IsPinStash (stash : Stash) (label : Bytes) (pin : NewPin) (main iv : Bytes) (made : Stash) : Type 0 where
  pub old : Payload
  pub opened : opened_payload stash main ≡ Ok old
  pub payload : Sealed
  pub made_is : made ≡ stash_with stash (Some payload) label (pin_block stash label pin main iv)
  pub opens : opened_sealed main stash.account payload ≡ Ok (record {
    vault = old.vault;
    resets = live_resets (insert stash.blocks label (pin_block stash label pin main iv))
        (with_reset old.resets label stash.next pin.reset);
  })
  pub short : length payload.text ≤ most_payload

-- A PIN is set: the main key is the home's, the key is derived of the secret, and after it the label's factor is a PIN
-- with this secret, of the next edition, that was never tried.
pub record SetsPin (label : Bytes) (pin : NewPin) (main : Bytes) (contents : Contents) (keys : Keys)
    (before after : Durable) : Type 0 where
  pub secret : Bytes
  pub main_is : keys.main ≡ main
  pub key_is : pin.derived.key ≡ derive secret pin.derived.salt pin.derived.cost
  pub after_is : after ≡ with_factor before label Pin secret pin.schedule
  pub bounds : HasBounds after

-- whether a record that names this leaf, or none, names the other
abbrev pub names_tree : ℕ → Option ℕ → Bool
names_tree tree None = false
names_tree tree (Some leaf) = leaf == tree

-- no loaded record names this leaf
abbrev pub IsFreeLeaf : Rows → ℕ → Type 0
IsFreeLeaf rows tree = (label : Bytes) → RowNames rows label tree → ⊥

-- a loaded record names this leaf
abbrev pub IsTakenLeaf : Rows → ℕ → Type 0
IsTakenLeaf rows tree = (label : Bytes) × RowNames rows label tree

-- The removals of what the label's factor had: nothing of a new label, and of a PIN its leaf and its record.
abbrev pub IsOldPin : Bytes → Rows → Bytes → Option (Write × Write) → Type 0
IsOldPin account rows label None = get rows label ≡ None
IsOldPin account rows label (Some old) =
    (row : FactorRecord) × (tree : ℕ) × (get rows label ≡ Some row) × (row.leaf ≡ Some tree)
    × (old.0 ≡ RemoveLeaf tree) × (old.1 ≡ Remove (factor_name account label row.edition))

-- a PIN that is new has room beside the others
abbrev pub HasRoom : Rows → Option (Write × Write) → Type 0
HasRoom rows None = pin_rows rows < 8
HasRoom rows (Some old) = Unit {0}

-- Once the leaf of a PIN's record is inserted the record is put, and then the stash, and then these changes are made.
-- Where the record can't be named so, the leaf is removed again.
abbrev pub PutsPin : ShareSeen → ShareSeen → Bytes → FactorRecord → ℕ → Write → Option (Write × Write)
    → Result Unit StoreFault → Type 0
PutsPin old new account row tree put had result =
    ((write : Write) × IsRowWrite account row write × (IsErr result → result ≡ Err Failed)
    × Tries old new (write ∷ put ∷ rest_of had) (IsOk result) (result ≡ Err Failed))
    ⊎ ((IsOk result → ⊥) × Tries old new (RemoveLeaf tree ∷ []) (result ≡ Err Failed → ⊥) (result ≡ Err Failed))

-- No step was made, or a leaf was inserted and removed again.
abbrev pub ComesToNothing : ShareSeen → ShareSeen → Type 0
ComesToNothing old new =
    (new ≡ old)
    ⊎ ((leaf : NewLeaf) × (tree : ℕ) × (moment : ℕ) × (steps : List Step)
    × Runs old new (step_of old moment (InsertLeaf leaf) (Labelled tree) ∷ steps)
    × AllDone (RemoveLeaf tree ∷ []) steps)

-- The edit of a PIN which changes nothing where it is refused. Of contents that hold the durable part before it, the
-- damaged record is the stash.
pub record EditsPin (old new : ShareSeen) (account : Bytes) (stored after : Stored) (result : Result Unit StoreFault)
    (Asks : Contents → Keys → Durable → Durable → Type 0) : Type 0 where
  pub edits : Edits old new account stored after (IsOk result) (result ≡ Err Failed) Asks
  pub refused : IsErr result → (result ≡ Err Failed → ⊥) → ChangesNothing old account stored Asks edits.steps
  pub damaged : (name : Bytes) → result ≡ Err (Damaged name) → (contents end : Contents) (keys : Keys)
      (before next : Durable) → Starts (is_some old.lost) account stored Asks contents keys before next
      → Fold (Does old.era) contents edits.steps end → name ≡ stash_name account
