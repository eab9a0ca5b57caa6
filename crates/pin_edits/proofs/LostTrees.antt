-- Edits of PINs where the tree is lost, and where it isn't.
use Rattle.std.proofs.Common.{◌≡◌, false, Option, None, Some, Result, Ok, Err, refl, sym, ap, ◌∙◌}
use Rattle.std.specs.Prelude.{is_some}
use Rattle.share_api.specs.Contents.{Bytes}
use Rattle.stored_home.specs.declared.fault.StoreFault.{StoreFault}
use Rattle.stored_home.specs.declared.fault.StoreFault.TheVariants.{Failed, Damaged, TreeLost}
use Rattle.stored_home.specs.declared.stored.LostTree.{LostTree}
use Rattle.pin_edits.specs.Faults.{tree_test}

-- the tree isn't lost where the edit went on
pub went_on : (lost : Option LostTree) (u : Unit) → Ok u ≡ tree_test lost → lost ≡ None
went_on None u is = refl
went_on (Some tree) u is = absurd (cc is)

-- and where it stopped it is lost
pub stopped : (lost : Option LostTree) (fault : StoreFault) → Err fault ≡ tree_test lost
    → (tree : LostTree) × (lost ≡ Some tree) × (fault ≡ TreeLost tree.host tree.chip)
stopped None fault is = absurd (cc is)
stopped (Some tree) fault is = let same : fault ≡ TreeLost tree.host tree.chip = cc in (tree, refl, same)

-- then the share's tree isn't lost either
pub share_found : {A B : Type 0} (x : Option A) (y : Option B) → is_some x ≡ is_some y → y ≡ None → is_some x ≡ false
share_found x y same none = same ∙ ap is_some none

-- a lost tree is no failed step
lost_not_failed : {A : Type 0} (result : Result A StoreFault) (tree : LostTree)
    → result ≡ Err (TreeLost tree.host tree.chip) → result ≡ Err Failed → ⊥
lost_not_failed {A} result tree is e =
    let k : ◌≡◌ {A = Result A StoreFault} (Err (TreeLost tree.host tree.chip)) (Err Failed) = sym is ∙ e in cc k

-- what isn't there isn't there
pub none_found : {A : Type 0} (x : Option A) → x ≡ None → is_some x ≡ false
none_found x none = ap is_some none

-- an edit that stopped at the test has no failed step
pub stopped_calm : {A : Type 0} (lost : Option LostTree) (fault : StoreFault) (result : Result A StoreFault)
    → Err fault ≡ tree_test lost → result ≡ Err fault → result ≡ Err Failed → ⊥
stopped_calm lost fault result is same failed =
    let at = stopped lost fault is in lost_not_failed result at.0 (same ∙ ap Err at.2) failed

-- and tells no damaged record
pub stopped_undamaged : {A : Type 0} (lost : Option LostTree) (fault : StoreFault) (result : Result A StoreFault)
    → Err fault ≡ tree_test lost → result ≡ Err fault → (name : Bytes) → result ≡ Err (Damaged name) → ⊥
stopped_undamaged {A} lost fault result is same name damaged =
    let at = stopped lost fault is in
    let both : ◌≡◌ {A = Result A StoreFault} (Err (TreeLost at.0.host at.0.chip)) (Err (Damaged name)) =
    sym (same ∙ ap Err at.2) ∙ damaged in
    cc both
