-- A PIN's leaf gets another count and stamp: the durable part has them too, and what is loaded stays.
use Rattle.std.proofs.Common.{◌≡◌, ℕ, Option, None, Some, false, refl, sym, ap, ◌∙◌, subst}
use mathlib.Core.Logic.{dite}
use native.Mathlib.Decide.{ℕ_discrete}
use Rattle.std.specs.Prelude.{IsSome}
use Rattle.std.specs.Ordering.{nat_cmp}
use Rattle.std.specs.Cmp.Lexicographic.{slice_cmp}
use Rattle.std.proofs.lemmas.Cmp.{nat_cmp_total}
use Rattle.std.specs.FinMap.{get, insert, empty, get-empty, same_map, nat_cmp-IsAntisymmetric}
use Rattle.account_machine.specs.declared.user.Durable.{Durable}
use Rattle.factor_files.specs.declared.factor.FactorRecord.{FactorRecord}
use Rattle.pw_types.specs.declared.stamp.Stamp.{Stamp}
use Rattle.share_api.specs.Contents.{Bytes, Contents, Leaves, settled}
use Rattle.share_api.specs.Steps.{with_leaf}
use Rattle.share_api.specs.declared.leaf.Leaf.{Leaf}
use Rattle.sealed_text.specs.declared.sealed.Sealed.{Sealed}
use Rattle.stash_format.specs.Blocks.{Blocks}
use Rattle.stash_format.specs.declared.block.Block.{Block}
use Rattle.stash_format.specs.declared.contents.Contents.{Contents as Stash}
use Rattle.stored_home.specs.Changes.{durable_set, leaf_counted, factor_counted}
use Rattle.stored_home.specs.Holds.{Keys, HoldsBy, HasStash, HoldsUnder}
use Rattle.stored_home.specs.Loaded.{IsRowOf, IsKept, block_in}
use Rattle.stored_home.specs.Matching.{Matches}
use Rattle.stored_home.specs.declared.stored.Stored.{Stored}
use Rattle.stored_home.proofs.MapLemmas.{not_None}
use Rattle.stored_home.proofs.LeafLemmas.{leaf_put, leaf_other}
use Rattle.stored_home.proofs.ChangeLemmas.{counted_held}
use Rattle.home_edits.proofs.KeptLemmas.{held_by}
use Rattle.pin_edits.proofs.HeldPins.{IsOfPin, held_pin}

-- a leaf that is put where it stands changes nothing
pub leaf_same : (leaves : Leaves) (tree : ℕ) (leaf : Leaf) → get leaves tree ≡ Some leaf → insert leaves tree leaf ≡ leaves
leaf_same leaves tree leaf there = same_map nat_cmp_total nat_cmp-IsAntisymmetric (insert leaves tree leaf) leaves
    (λ q. dite (ℕ_discrete q tree)
    (λ same. ap (get (insert leaves tree leaf)) same ∙ leaf_put leaves tree leaf ∙ sym there ∙ ap (get leaves) (sym same))
    (λ apart. leaf_other leaves tree leaf q apart))

-- a stash that has a block has a payload
block_has_payload : (payload : Option Sealed) (blocks : Blocks) (label : Bytes) (block : Block)
    → (payload ≡ None → blocks ≡ empty) → get blocks label ≡ Some block → IsSome payload
block_has_payload None blocks label block bare there =
    absurd (not_None block (sym there ∙ ap (λ (m : Blocks). get m label) (bare refl) ∙ get-empty (slice_cmp nat_cmp) label))
block_has_payload (Some sealed) blocks label block bare there = refl

-- What is held of a loaded PIN, beside the loaded stash.
pub record HoldsPin (account : Bytes) (stored : Stored) (label : Bytes) (row : FactorRecord) (tree : ℕ)
    (contents : Contents) (keys : Keys) (before : Durable) : Type 0 where
  pub stash : Stash
  pub is : stored.stash ≡ Some stash
  pub there : HasStash contents.records account (Some stash)
  pub held : HoldsBy false (settled contents) account before keys stash
  pub pin : IsOfPin contents account keys before stash held label row tree
  pub some : IsSome stash.payload

module _ (account : Bytes) (stored : Stored) (label : Bytes) (row : FactorRecord)
    (at : get stored.factors label ≡ Some row) (tree : ℕ) (names : row.leaf ≡ Some tree) (contents : Contents)
    (keys : Keys) (before : Durable) (holds : HoldsUnder false contents account before keys)
    (kept : IsKept false contents account stored) where
  -- where a factor is loaded there is a stash
  loaded_stash : (x : Option Stash) → stored.stash ≡ x → (stash : Stash) × (stored.stash ≡ Some stash)
  loaded_stash None none = absurd (subst (Matches (IsRowOf contents.records account label) None) at
      (subst (λ x. Matches (IsRowOf contents.records account label) (block_in x label) (get stored.factors label)) none
      (kept.is_loaded.rows label)))
  loaded_stash (Some stash) is = (stash, is)

  by_stash : (stash : Stash) → stored.stash ≡ Some stash → HoldsPin account stored label row tree contents keys before
  by_stash stash is =
      let there : HasStash contents.records account (Some stash) =
      subst (HasStash contents.records account) is kept.is_loaded.stash in
      let held : HoldsBy false (settled contents) account before keys stash =
      held_by false contents account keys before stash holds there in
      let pin = held_pin contents account stored keys before stash held label row tree kept is at names in
      record {
        stash = stash;
        is = is;
        there = there;
        held = held;
        pin = pin;
        some = block_has_payload stash.payload stash.blocks label pin.of.block (λ none. (held.bare none).0) pin.of.found;
      }

  -- the loaded PIN is held
  pub pin_held : HoldsPin account stored label row tree contents keys before
  pin_held = let is = loaded_stash stored.stash refl in by_stash is.0 is.1

  -- with another leaf at its label nothing else is there
  pub leaf_kept : (leaf : Leaf) → IsKept false (with_leaf contents tree leaf) account stored
  leaf_kept leaf = record {
    is_loaded = record {
      stash = kept.is_loaded.stash;
      rows = kept.is_loaded.rows;
      files = kept.is_loaded.files;
    };
    tidy = record {
      records = kept.tidy.records;
      leaves = λ found t there. dite (ℕ_discrete t tree)
          (λ same. (label, row, at, names ∙ ap (λ (x : ℕ). Some x) (sym same)))
          (λ apart. kept.tidy.leaves found t (subst IsSome (leaf_other contents.leaves tree leaf t apart) there));
    };
    clear = kept.clear;
  }

  module _ (h : HoldsPin account stored label row tree contents keys before) where
    -- the durable part has the leaf's count and stamp
    pub count_held : (wrong : ℕ) (last : Stamp)
        → HoldsUnder false (with_leaf contents tree (leaf_counted h.pin.leaf wrong last)) account
        (durable_set before label (factor_counted h.pin.of.factor wrong last)) keys
    count_held wrong last = counted_held account keys contents before h.stash label h.pin.of.factor row tree h.pin.leaf
        wrong last kept.clear h.there h.held h.some h.pin.of.held h.pin.is_pin h.pin.read names h.pin.found

    -- its own leaf changes nothing
    pub own_leaf : with_leaf contents tree h.pin.leaf ≡ contents
    own_leaf = λ i. record contents { leaves = leaf_same contents.leaves tree h.pin.leaf h.pin.found i }
