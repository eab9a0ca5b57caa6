-- What is held of a loaded PIN: its factor, its block and its leaf.
use Rattle.std.proofs.Common.{◌≡◌, ℕ, Option, Some, false, refl, sym, ap, ◌∙◌, subst}
use Rattle.std.specs.FinMap.{get}
use Rattle.account_machine.specs.declared.factor.Kind.{Kind}
use Rattle.account_machine.specs.declared.factor.Kind.TheVariants.{Password, Pin}
use Rattle.account_machine.specs.declared.user.Durable.{Durable}
use Rattle.factor_files.specs.declared.factor.FactorRecord.{FactorRecord}
use Rattle.scrypt_kdf.specs.Derive.{derive}
use Rattle.sealed_text.specs.OpeningSealed.{Opens}
use Rattle.secret_stash.specs.Keys.{pin_wrap}
use Rattle.share_api.specs.Contents.{Bytes, Contents, leaves_left, settled}
use Rattle.share_api.specs.declared.leaf.Leaf.{Leaf}
use Rattle.stash_format.specs.Forms.{block_extra, main_of}
use Rattle.stash_format.specs.declared.contents.Contents.{Contents as Stash}
use Rattle.stored_home.specs.Holds.{Keys, record_at, IsLeafOf, OpensByLeaf, OpensBy, HoldsBy}
use Rattle.stored_home.specs.Loaded.{IsKept}
use Rattle.stored_home.specs.declared.stored.Stored.{Stored}
use Rattle.stored_home.proofs.MapLemmas.{not_None, from_some}
use Rattle.home_edits.proofs.LoadedFactors.{IsOfFactor, loaded_factor}

-- the factor of a loaded record that names a leaf, with its block and its leaf
pub record IsOfPin (contents : Contents) (account : Bytes) (keys : Keys) (before : Durable) (stash : Stash)
    (h : HoldsBy false (settled contents) account before keys stash) (label : Bytes) (row : FactorRecord) (tree : ℕ)
    : Type 0 where
  pub of : IsOfFactor false contents account keys before stash h label row
  pub is_pin : of.factor.kind ≡ Pin
  pub read : record_at contents.records account label of.factor.edition ≡ Some row
  pub leaf : Leaf
  pub found : get contents.leaves tree ≡ Some leaf
  pub own : IsLeafOf h.resets label row of.factor leaf
  pub opens : Opens (pin_wrap leaf.hes (derive of.factor.secret row.salt row.cost)) (block_extra account label of.block)
      (main_of of.block) keys.main

module _ (contents : Contents) (account : Bytes) (stored : Stored) (keys : Keys) (before : Durable) (stash : Stash)
    (h : HoldsBy false (settled contents) account before keys stash) (label : Bytes) (row : FactorRecord) (tree : ℕ)
    (kept : IsKept false contents account stored) (is : stored.stash ≡ Some stash)
    (at : get stored.factors label ≡ Some row) (names : row.leaf ≡ Some tree) where
  of : IsOfFactor false contents account keys before stash h label row
  of = loaded_factor false contents account stored keys before stash h label row kept is at

  read : record_at contents.records account label of.factor.edition ≡ Some row
  read = ap (λ (n : ℕ). record_at contents.records account label n) (sym of.edition ∙ of.its.edition_is) ∙ of.its.read

  -- the record that its block was found to open with is the loaded one
  same_row : of.sealed.row ≡ row
  same_row = from_some of.sealed.row row (sym of.sealed.read ∙ read)

  opens : OpensBy false of.factor.kind (settled contents).leaves h.resets account keys.main label of.block row of.factor
  opens = subst (λ (r : FactorRecord). OpensBy false of.factor.kind (settled contents).leaves h.resets account keys.main
      label of.block r of.factor) same_row of.sealed.opens

  -- a record that names a leaf is a PIN's
  by_leaf : (kind : Kind)
      → OpensBy false kind (settled contents).leaves h.resets account keys.main label of.block row of.factor
      → (kind ≡ Pin)
      × OpensByLeaf (settled contents).leaves h.resets account keys.main label of.block row of.factor
  by_leaf Password o = absurd (not_None tree (sym names ∙ o.none))
  by_leaf Pin o = (refl, o)

  -- the loaded PIN is held so
  pub held_pin : IsOfPin contents account keys before stash h label row tree
  held_pin =
      let by = by_leaf of.factor.kind opens in
      let o = by.1 in
      let same_tree : o.tree ≡ tree = from_some o.tree tree (sym o.names ∙ names) in
      record {
        of = of;
        is_pin = by.0;
        read = read;
        leaf = o.leaf;
        found = ap (λ (d : Option ℕ). get (leaves_left d contents.leaves) tree) (sym kept.clear)
            ∙ ap (get (settled contents).leaves) (sym same_tree) ∙ o.found;
        own = o.own;
        opens = o.opens;
      }
