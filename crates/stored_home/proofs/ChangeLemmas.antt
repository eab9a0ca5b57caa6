-- A factor is removed, its block sealed anew, its leaf added, taken away or counted; a vault file is put.
use Rattle.std.proofs.Common.{◌≡◌, ℕ, ◌<◌, ◌^◌, Option, None, Some, Bool, false, refl, sym, ap, ◌∙◌, subst, arith}
use Rattle.std.specs.Prelude.{IsSome, IsTrue, option_and_then}
use Rattle.std.specs.FinMap.{get, remove}
use Rattle.account_machine.specs.declared.factor.Factor.{Factor}
use Rattle.account_machine.specs.declared.factor.Kind.TheVariants.{Pin}
use Rattle.account_machine.specs.declared.user.Durable.{Durable}
use Rattle.pw_types.specs.declared.stamp.Stamp.{Stamp}
use Rattle.record_names.specs.Names.{is_account_name, AreParts, File, stash_name, factor_name, file_name}
use Rattle.share_api.specs.Contents.{Bytes, Contents, leaves_left, settled}
use Rattle.share_api.specs.Steps.{done, with_leaf, doubted}
use Rattle.share_api.proofs.StepLaws.{settled_same}
use Rattle.share_api.specs.declared.leaf.Leaf.{Leaf}
use Rattle.share_api.specs.declared.step.Write.TheVariants.{Put, RemoveLeaf}
use Rattle.stash_format.specs.declared.block.Block.{Block}
use Rattle.stash_format.specs.declared.contents.Contents.{Contents as Stash}
use Rattle.stash_format.specs.Record.{stash_at}
use Rattle.factor_files.specs.declared.factor.FactorRecord.{FactorRecord}
use Rattle.stored_home.specs.Unnamed.{IsUnnamed}
use Rattle.stored_home.specs.Bounds.{HasBounds}
use Rattle.stored_home.specs.Changes.{durable_without, durable_set, durable_with_file, leaf_counted, factor_counted}
use Rattle.secret_stash.specs.Edits.{without_block, with_block}
use Rattle.stored_home.specs.Holds.{Keys, record_at, IsBlockOf, IsFileOf, HoldsBy, HasStash, HoldsStash, HoldsUnder}
use Rattle.stored_home.proofs.MapLemmas.{put_other, taken_at, not_None}
use Rattle.stored_home.proofs.NameLemmas.{factor_not_stash, file_not_stash, file_not_factor, factor_tells_label}
use Rattle.stored_home.proofs.FrameLemmas.{factor_is_sound, stash_put}
use Rattle.stored_home.proofs.BlockLemmas.{block_set, block_taken}
use Rattle.stored_home.specs.Unnamed.{NamesNot}
use Rattle.stored_home.proofs.LeafLemmas.{leaf_added, leaf_taken, leaf_undone, pin_counted}
use Rattle.stored_home.proofs.HomeLemmas.{file_held}

module _ (lost : Bool) (account : Bytes) (keys : Keys) (plain : IsTrue (is_account_name account)) (contents : Contents)
    (durable : Durable) (stash : Stash) (label stash_bytes : Bytes)
    (there : HasStash contents.records account (Some stash))
    (h : HoldsBy lost (settled contents) account durable keys stash) where
  -- a factor is removed by the put of a stash without its block
  pub factor_removed : IsSome stash.payload → HasBounds (durable_without durable label)
      → stash_at stash_bytes ≡ Some (without_block stash label)
      → HoldsUnder lost (done (Put (stash_name account) stash_bytes) contents) account (durable_without durable label) keys
  factor_removed some bounds read = stash_put lost account keys plain contents (durable_without durable label)
      (without_block stash label) stash_bytes read
      (block_taken lost account keys (settled contents) label durable stash h some bounds)

  -- its record is then named no more
  pub removed_row_is_other : (old : Factor) → get durable.factors label ≡ Some old → (c : Contents)
      → IsUnnamed account c (durable_without durable label) (factor_name account label old.edition)
  removed_row_is_other old at c =
      let sound = factor_is_sound lost account keys.main h.resets contents.records (settled contents).leaves stash.next label
      (get stash.blocks label) (get durable.factors label) old (h.sound.blocks label) (h.blocks label) at in
      let below = sound.1 in
      let within = h.sound.within in
      let old_within : old.edition < 2 ^ 64 = omega (arith, below, within) in
      record {
        not_stash = factor_not_stash account plain label old.edition sound.0 old_within;
        not_row = λ other found q f there_now labelled f_below inside same.
            let label_is : q ≡ label =
            factor_tells_label account plain q label f.edition old.edition labelled sound.0 inside old_within same in
            not_None f (sym there_now ∙ ap (get (remove durable.factors label)) label_is ∙ taken_at durable.factors label);
        not_file = λ file are. file_not_factor account plain file label old.edition are sound.0 old_within;
      }

  -- a block is sealed anew by the put of a stash with another block of its edition
  pub block_resealed : (factor : Factor) (block : Block) → IsSome stash.payload → get durable.factors label ≡ Some factor
      → (is : IsBlockOf lost contents.records (settled contents).leaves account keys.main h.resets label block factor)
      → stash_at stash_bytes ≡ Some (with_block stash label block)
      → HoldsUnder lost (done (Put (stash_name account) stash_bytes) contents) account durable keys
  block_resealed factor block some at is read =
      let sound = factor_is_sound lost account keys.main h.resets contents.records (settled contents).leaves stash.next label
      (get stash.blocks label) (get durable.factors label) factor (h.sound.blocks label) (h.blocks label) at in
      let below = sound.1 in
      let same = is.edition in
      stash_put lost account keys plain contents durable (with_block stash label block) stash_bytes read
      (block_set lost account keys (settled contents) label durable stash h h.resets block factor is
      (λ q f away found pin. refl) at sound.0 (omega (arith, below, same)) some (h.payload some))

-- ---- leaves

-- contents with a leaf in doubt are settled as if it had never been there
pub doubted_settled : (contents : Contents) (tree : ℕ) (leaf : Leaf) → contents.doubt ≡ None
    → get contents.leaves tree ≡ None → settled (doubted contents tree leaf) ≡ settled contents
doubted_settled contents tree leaf clear free =
    (λ i. record contents { leaves = leaf_undone contents.leaves tree leaf free i; doubt = None })
    ∙ (λ i. record contents { leaves = leaves_left (sym clear i) contents.leaves; doubt = None })

module _ (lost : Bool) (account : Bytes) (keys : Keys) (contents : Contents) (durable : Durable) (tree : ℕ)
    (clear : contents.doubt ≡ None) where
  -- a new leaf at a free label changes nothing that is held
  pub fresh_leaf_held : (leaf : Leaf) → get contents.leaves tree ≡ None → HoldsUnder lost contents account durable keys
      → HoldsUnder lost (with_leaf contents tree leaf) account durable keys
  fresh_leaf_held leaf free h = moved h.stash h.there h.holds
    where
      moved : (x : Option Stash) → HasStash contents.records account x → HoldsStash lost (settled contents) account durable keys x
          → HoldsUnder lost (with_leaf contents tree leaf) account durable keys
      moved None there holds = record { stash = None; there = there; holds = holds }
      moved (Some stash) there holds = record {
        stash = Some stash;
        there = there;
        holds = subst (λ c. HoldsBy lost c account durable keys stash)
            (sym (settled_same (with_leaf contents tree leaf) clear))
            (leaf_added lost account keys durable stash contents tree
            (subst (λ c. HoldsBy lost c account durable keys stash) (settled_same contents clear) holds) leaf free);
      }

  -- neither does the removal of a leaf that no factor's record names
  pub unnamed_leaf_taken : NamesNot contents.records account durable.factors tree → HoldsUnder lost contents account durable keys
      → HoldsUnder lost (done (RemoveLeaf tree) contents) account durable keys
  unnamed_leaf_taken unnamed h = moved h.stash h.there h.holds
    where
      moved : (x : Option Stash) → HasStash contents.records account x → HoldsStash lost (settled contents) account durable keys x
          → HoldsUnder lost (done (RemoveLeaf tree) contents) account durable keys
      moved None there holds = record { stash = None; there = there; holds = holds }
      moved (Some stash) there holds = record {
        stash = Some stash;
        there = there;
        holds = subst (λ c. HoldsBy lost c account durable keys stash)
            (sym (settled_same (done (RemoveLeaf tree) contents) clear))
            (leaf_taken lost account keys durable stash contents tree
            (subst (λ c. HoldsBy lost c account durable keys stash) (settled_same contents clear) holds) unnamed);
      }

-- a PIN's count and stamp change with those of its leaf
pub counted_held : (account : Bytes) (keys : Keys) (contents : Contents) (durable : Durable) (stash : Stash) (label : Bytes)
    (factor : Factor) (row : FactorRecord) (tree : ℕ) (leaf : Leaf) (wrong : ℕ) (last : Stamp)
    → contents.doubt ≡ None
    → HasStash contents.records account (Some stash)
    → HoldsBy false (settled contents) account durable keys stash
    → IsSome stash.payload
    → get durable.factors label ≡ Some factor → factor.kind ≡ Pin
    → record_at contents.records account label factor.edition ≡ Some row → row.leaf ≡ Some tree
    → get contents.leaves tree ≡ Some leaf
    → HoldsUnder false (with_leaf contents tree (leaf_counted leaf wrong last)) account
    (durable_set durable label (factor_counted factor wrong last)) keys
counted_held account keys contents durable stash label factor row tree leaf wrong last clear there h some at is_pin read names found =
    record {
      stash = Some stash;
      there = there;
      holds = subst (λ c. HoldsBy false c account (durable_set durable label (factor_counted factor wrong last)) keys stash)
          (sym (settled_same (with_leaf contents tree (leaf_counted leaf wrong last)) clear))
          (pin_counted account keys contents durable stash label factor row tree leaf wrong last
          (subst (λ c. HoldsBy false c account durable keys stash) (settled_same contents clear) h)
          at is_pin read names found some);
    }

-- ---- vault files

-- a vault file is put
pub file_put_held : (lost : Bool) (account : Bytes) (keys : Keys) → IsTrue (is_account_name account) → (contents : Contents)
    (durable : Durable) (stash : Stash) (name bytes plain_bytes : Bytes)
    → HasStash contents.records account (Some stash)
    → HoldsBy lost (settled contents) account durable keys stash
    → AreParts (File account name) → IsSome stash.payload
    → IsFileOf keys.vault account name bytes plain_bytes
    → HasBounds (durable_with_file durable name plain_bytes)
    → HoldsUnder lost (done (Put (file_name account name) bytes) contents) account (durable_with_file durable name plain_bytes) keys
file_put_held lost account keys plain contents durable stash name bytes plain_bytes there h are some is bounds = record {
  stash = Some stash;
  there = ap (option_and_then stash_at)
      (put_other contents.records (file_name account name) bytes (stash_name account)
      (λ same. file_not_stash account plain name are (sym same))) ∙ there;
  holds = file_held lost account keys plain (settled contents) durable stash name bytes plain_bytes are some is bounds h;
}
