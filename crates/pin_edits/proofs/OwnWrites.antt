-- Changes that a share may be asked for.
use Rattle.std.proofs.Common.{◌≡◌, ℕ, Option, None, Some, refl, sym, subst, inl, inr}
use Rattle.record_names.specs.Names.{stash_name, factor_name}
use Rattle.share_api.specs.Conditions.{IsOf}
use Rattle.share_api.specs.Contents.{Bytes}
use Rattle.share_api.specs.declared.step.Write.{Write}
use Rattle.share_api.specs.declared.step.Write.TheVariants.{Put, Remove, RemoveLeaf}
use Rattle.stash_format.specs.declared.contents.Contents.{Contents as Stash}
use Rattle.stored_home.specs.Loaded.{Rows}
use Rattle.pin_edits.specs.Pins.{IsOldPin}
use Rattle.pin_edits.specs.Writes.{IsOwnWrite, IsOwnRest, IsStashWrite}

module _ (owner : Option Bytes) where
  -- the put of the account's stash
  pub stash_own : (account : Bytes) (stash : Stash) (write : Write) → IsOf owner account
      → IsStashWrite account stash write → IsOwnWrite owner write
  stash_own account stash write own is =
      let it : IsOwnWrite owner (Put (stash_name account) is.bytes) = ((account, own, inl refl), is.size) in
      subst (IsOwnWrite owner) (sym is.write_is) it

  -- the removal of a leaf
  pub leaf_own : (write : Write) (tree : ℕ) → write ≡ RemoveLeaf tree → IsOwnWrite owner write
  leaf_own write tree is =
      let it : IsOwnWrite owner (RemoveLeaf tree) = tt in subst (IsOwnWrite owner) (sym is) it

  -- the removal of a factor's record
  pub record_own : (account label : Bytes) (edition : ℕ) (write : Write) → IsOf owner account
      → write ≡ Remove (factor_name account label edition) → IsOwnWrite owner write
  record_own account label edition write own is =
      let it : IsOwnWrite owner (Remove (factor_name account label edition)) =
      (account, own, inr (inl (label, edition, refl))) in
      subst (IsOwnWrite owner) (sym is) it

  -- the removals of what a PIN had
  pub rest_own : (account : Bytes) (rows : Rows) (label : Bytes) (had : Option (Write × Write)) → IsOf owner account
      → IsOldPin account rows label had → IsOwnRest owner had
  rest_own account rows label None own o = tt
  rest_own account rows label (Some gone) own o =
      (leaf_own gone.0 o.1 o.4, record_own account label o.0.edition gone.1 own o.5)
