-- The factor that a loaded factor record is of.
use Rattle.std.proofs.Common.{◌≡◌, ◌<◌, ◌^◌, Option, None, Some, Bool, refl, ◌∙◌, subst, arith}
use Rattle.std.specs.Prelude.{IfSome, IsTrue}
use Rattle.std.specs.FinMap.{get}
use Rattle.account_machine.specs.declared.factor.Factor.{Factor}
use Rattle.account_machine.specs.declared.user.Durable.{Durable}
use Rattle.record_names.specs.Names.{is_factor_label}
use Rattle.share_api.specs.Contents.{Bytes, Contents, settled}
use Rattle.stash_format.specs.declared.block.Block.{Block}
use Rattle.stash_format.specs.declared.contents.Contents.{Contents as Stash}
use Rattle.factor_files.specs.declared.factor.FactorRecord.{FactorRecord}
use Rattle.stored_home.specs.Matching.{Matches}
use Rattle.stored_home.specs.Holds.{Keys, IsBlockOf, IsSoundBlock, HoldsBy}
use Rattle.stored_home.specs.Loaded.{IsRowOf, IsKept, block_in}
use Rattle.stored_home.specs.declared.stored.Stored.{Stored}
use Rattle.stored_home.proofs.MapLemmas.{matched_right}

-- where the one is there the other is
matched_left : {A B : Type 0} (R : A → B → Type 0) (x : Option A) (y : Option B) (a : A)
    → x ≡ Some a → Matches R x y → (b : B) × (y ≡ Some b) × R a b
matched_left R x None a e m = absurd (subst (λ v. Matches R v None) e m)
matched_left R x (Some b) a e m = (b, refl, subst (λ v. Matches R v (Some b)) e m)

-- What a loaded factor record is of: the label's block, and the factor that is held.
pub record IsOfFactor (lost : Bool) (contents : Contents) (account : Bytes) (keys : Keys) (before : Durable)
    (stash : Stash)
    (h : HoldsBy lost (settled contents) account before keys stash) (label : Bytes) (row : FactorRecord) : Type 0 where
  pub block : Block
  pub found : get stash.blocks label ≡ Some block
  pub its : IsRowOf contents.records account label block row
  pub factor : Factor
  pub held : get before.factors label ≡ Some factor
  pub sealed : IsBlockOf lost contents.records (settled contents).leaves account keys.main h.resets label block factor
  pub labelled : IsTrue (is_factor_label label)
  pub edition : row.edition ≡ factor.edition
  pub below : row.edition < stash.next
  pub within : row.edition < 2 ^ 64

pub loaded_factor : (lost : Bool) (contents : Contents) (account : Bytes) (stored : Stored) (keys : Keys)
    (before : Durable)
    (stash : Stash) (h : HoldsBy lost (settled contents) account before keys stash) (label : Bytes) (row : FactorRecord)
    → IsKept lost contents account stored → stored.stash ≡ Some stash → get stored.factors label ≡ Some row
    → IsOfFactor lost contents account keys before stash h label row
loaded_factor lost contents account stored keys before stash h label row kept is at =
    let one = matched_right (IsRowOf contents.records account label) (get stash.blocks label)
    (get stored.factors label) row at
    (subst (λ x. Matches (IsRowOf contents.records account label) (block_in x label) (get stored.factors label)) is
    (kept.is_loaded.rows label)) in
    let two = matched_left (IsBlockOf lost contents.records (settled contents).leaves account keys.main h.resets label)
    (get stash.blocks label) (get before.factors label) one.0 one.1 (h.blocks label) in
    let sound : IsSoundBlock stash.next label one.0 =
    subst (λ o. IfSome o (IsSoundBlock stash.next label)) one.1 (h.sound.blocks label) in
    let of_block = one.2.edition_is in
    let of_factor = two.2.edition in
    let under = sound.below in
    let limit = h.sound.within in
    record {
      block = one.0;
      found = one.1;
      its = one.2;
      factor = two.0;
      held = two.1;
      sealed = two.2;
      labelled = sound.labelled;
      edition = of_block ∙ of_factor;
      below = omega (arith, of_block, under);
      within = omega (arith, of_block, under, limit);
    }
