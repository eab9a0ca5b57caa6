-- What is read of a home, put together.
use Rattle.std.proofs.Common.{◌≡◌, ℕ, List, Option, None, Some, Result, Ok, Err, Bool, true, false, refl, sym, ap, ◌∙◌, subst, inl, inr, ⊎_elim, IsOk, is_some, arith}
use Rattle.std.specs.Prelude.{IsErrOf, IfOk, IfErr, IfSome}
use Rattle.std.specs.Ordering.{nat_cmp}
use Rattle.std.specs.Cmp.Lexicographic.{slice_cmp}
use Rattle.std.specs.FinMap.{get, empty, get-empty}
use Rattle.record_names.specs.Names.{stash_name}
use Rattle.share_api.specs.Conditions.{IsOf}
use Rattle.share_api.specs.Contents.{Bytes, Contents}
use Rattle.share_api.specs.Seen.{ShareSeen}
use Rattle.stash_format.specs.declared.contents.Contents.{Contents as Stash}
use Rattle.stored_home.specs.Loaded.{Rows, IsRowOf, block_in, HasFactors}
use Rattle.stored_home.specs.Matching.{Matches}
use Rattle.stored_home.specs.declared.fault.StoreFault.{StoreFault}
use Rattle.stored_home.specs.declared.fault.StoreFault.TheVariants.{Failed, Damaged, NoMemory, TreeLost}
use Rattle.stored_home.specs.declared.stored.Stored.{Stored}
use Rattle.stored_home.specs.declared.stored.LostTree.{LostTree}
use Rattle.home_recovery.specs.Bounds.{BreaksBounds}
use Rattle.stored_home.specs.Coherent.{KeepsBounds, IsCoherent, FitsBlock}
use Rattle.stash_format.specs.Kept.{HasBoth}
use Rattle.home_recovery.specs.Damage.{IsSoundHome, IsWhole}
use Rattle.stored_home.specs.Coherent.{IsOwnStash}
use Rattle.home_recovery.specs.Home.{TellsFactors, TellsHome, TellsListed, ListsFiles}
use Rattle.home_recovery.specs.Parts.{AreFiles, AreFitting, TellsRows, TellsStash, Serves}
use Rattle.home_recovery.specs.Reading.{Reads}
use Rattle.home_recovery.specs.Told.{lost_tree, IsStepFault}
use Rattle.home_recovery.proofs.ReadLemmas.{reads_as}
use Rattle.home_recovery.proofs.CallLemmas.{reads_ok}

-- the share serves the account after reads as before
pub serves_on : (account : Bytes) (old new : ShareSeen) (ok failed : Type 0) (n : ℕ) (P : Contents → Type 0)
    → Reads old new ok failed n P → Serves account old → Serves account new
serves_on account old new ok failed n P h s =
    record { plain = s.plain; own = subst (λ o. IsOf o account) (sym h.runs.owner) s.own }

-- the tree is lost exactly where its roots are told
pub loss_is : (roots : Option (Bytes × Bytes)) (lost : Option LostTree) → lost ≡ lost_tree roots → is_some lost ≡ is_some roots
loss_is None lost e = ap is_some e
loss_is (Some roots) lost e = ap is_some e

-- the records of a stash that is there
pub factors_some : (account : Bytes) (lost : Bool) (stash : Option Stash) (s : Stash) (r : Result Rows StoreFault) (c : Contents)
    → stash ≡ Some s → TellsRows account lost s r c → TellsFactors account lost stash r c
factors_some account lost stash s (Ok rows) c e h = record {
  matches = λ label. subst (λ o. Matches (IsRowOf c.records account label) (block_in o label) (get rows label)) (sym e) (h.matches label);
  leaves = h.leaves;
}
factors_some account lost stash s (Err (Damaged name)) c e h = (s, e, h)
factors_some account lost stash s (Err Failed) c e h = tt
factors_some account lost stash s (Err NoMemory) c e h = tt
factors_some account lost stash s (Err (TreeLost host chip)) c e h = tt

-- and where there is none
pub factors_none : (account : Bytes) (lost : Bool) (stash : Option Stash) (rows : Rows) (c : Contents)
    → stash ≡ None → rows ≡ empty → TellsFactors account lost stash (Ok rows) c
factors_none account lost stash rows c e none = record {
  matches = λ label. subst (λ o. Matches (IsRowOf c.records account label) (block_in o label) (get rows label)) (sym e)
      (subst (λ y. Matches (IsRowOf c.records account label) None y) (sym (nothing label)) tt);
  leaves = λ whole label tree names. absurd (Rattle.stored_home.proofs.MapLemmas.not_None names.row (sym names.there ∙ nothing label));
}
  where
    nothing : (label : Bytes) → get rows label ≡ None
    nothing label = ap (λ (m : Rows). get m label) none ∙ get-empty (slice_cmp nat_cmp) label

-- no stash and no records fit
pub none_fitting : (stash : Option Stash) (rows : Rows) → stash ≡ None → rows ≡ empty → AreFitting stash rows
none_fitting stash rows e none label =
    subst (λ o. Matches (FitsBlock label) (block_in o label) (get rows label)) (sym e)
    (subst (λ y. Matches (FitsBlock label) None y) (sym (ap (λ (m : Rows). get m label) none ∙ get-empty (slice_cmp nat_cmp) label)) tt)

-- faults of the parts as faults of the home
pub stash_fault : (account : Bytes) (lost : Bool) (fault : StoreFault) (c : Contents)
    → TellsStash account (Err fault) c → TellsHome account lost (Err fault) c
stash_fault account lost Failed c h = tt
stash_fault account lost (Damaged name) c h = inl h
stash_fault account lost NoMemory c h = tt
stash_fault account lost (TreeLost host chip) c h = tt

pub step_fault : (account : Bytes) (lost : Bool) (fault : StoreFault) (c : Contents)
    → IsStepFault fault → TellsHome account lost (Err fault) c
step_fault account lost Failed c h = tt
step_fault account lost (Damaged name) c h = absurd h
step_fault account lost NoMemory c h = tt
step_fault account lost (TreeLost host chip) c h = tt

pub factors_fault : (account : Bytes) (lost : Bool) (stash : Option Stash) (fault : StoreFault) (c : Contents)
    → TellsStash account (Ok stash) c → TellsFactors account lost stash (Err fault) c → TellsHome account lost (Err fault) c
factors_fault account lost stash Failed c s h = tt
factors_fault account lost stash (Damaged name) c s h =
    inr (h.0, subst (λ o. Rattle.stored_home.specs.Holds.HasStash c.records account o) h.1 s, h.2)
factors_fault account lost stash NoMemory c s h = tt
factors_fault account lost stash (TreeLost host chip) c s h = tt

pub home_fault : (account : Bytes) (listed : List Bytes) (lost : Bool) (fault : StoreFault) (c : Contents)
    → TellsHome account lost (Err fault) c → TellsListed account listed lost (Err fault) c
home_fault account listed lost Failed c h = tt
home_fault account listed lost (Damaged name) c h = λ lists. ⊎_elim inl (λ lacks. inr (inl lacks)) h
home_fault account listed lost NoMemory c h = tt
home_fault account listed lost (TreeLost host chip) c h = tt

module _ (account : Bytes) (listed : List Bytes) (lost : Bool) (stored : Stored) (files : AreFiles account listed stored.files) (c : Contents)
    (lists : ListsFiles account listed c) (h : TellsHome account lost (Ok stored) c) where
  -- the loaded state is that of contents that are so listed
  is_whole : IsWhole c account stored
  is_whole = record {
    is_loaded = record {
      stash = h.0;
      rows = h.1.matches;
      files = λ name are. (
        λ there. (lists name are).0 ((files.found name are).0 there),
        λ there. (files.found name are).1 ((lists name are).1 there),
      );
    };
    named = files.named;
  }

  is_sound : IfSome stored.stash (IsOwnStash account) → (HasFactors stored → KeepsBounds stored) → IsSoundHome lost c account stored
  is_sound own bounds = record {
    whole = is_whole;
    stash = own;
    bounds = bounds;
    leaves = λ whole tree n. h.1.leaves whole n.0 tree (record { row = n.1; there = n.2; names = n.3 });
  }

same_ok : (x y : Stored) → ◌≡◌ {A = Result Stored StoreFault} (Ok x) (Ok y) → x ≡ y
same_ok x y e = cc

damaged_not_failed : (name : Bytes) → ◌≡◌ {A = StoreFault} (Damaged name) Failed → ⊥
damaged_not_failed name e = cc

module _ (old new : ShareSeen) (account : Bytes) (listed : List Bytes) (lost : Bool) (stored : Stored)
    (files : AreFiles account listed stored.files) (own : IfSome stored.stash (IsOwnStash account))
    (h : Reads old new (true ≡ true) (IsErrOf {T = Stored} (Ok stored) Failed) 66 (TellsHome account lost (Ok stored))) where
  -- the loaded state once its bounds are tested
  pub checked_reads : (r : Result Stored StoreFault)
      → IfOk r (λ kept. (kept ≡ stored) × (HasFactors stored → KeepsBounds stored))
      → IfErr r (λ fault. (fault ≡ Damaged (stash_name account)) × HasFactors stored × BreaksBounds stored)
      → Reads old new (IsOk r) (IsErrOf r Failed) 66 (TellsListed account listed lost r)
  checked_reads (Ok kept) is broken = reads_ok old new kept (true ≡ true) _ 66 66 (TellsHome account lost (Ok stored)) (TellsListed account listed lost (Ok kept)) h
      (omega arith) refl
      (λ c t lists. subst (λ (s : Stored). IsSoundHome lost c account s) (sym is.0) (is_sound account listed lost stored files c lists t own is.1))
  checked_reads (Err (Damaged name)) is broken =
      reads_as old new (true ≡ true) _ (false ≡ true) _ 66 66 (TellsHome account lost (Ok stored)) (TellsListed account listed lost (Err (Damaged name))) h
      (omega arith) (λ o. refl) (λ f. absurd (damaged_not_failed name (Rattle.home_recovery.proofs.CallLemmas.same_fault {A = Stored} (Damaged name) Failed f)))
      (λ c t lists. inr (inr (
        record {
          loaded = stored;
          whole = is_whole account listed lost stored files c lists t;
          factors = broken.1;
          breaks = broken.2;
        },
        same_name name broken.0,
      )))
    where
      same_name : (n : Bytes) → Damaged n ≡ Damaged (stash_name account) → n ≡ stash_name account
      same_name n e = cc
  checked_reads (Err Failed) is broken = absurd (damaged_not_failed (stash_name account) (sym broken.0))
  checked_reads (Err NoMemory) is broken = let e : NoMemory ≡ Damaged (stash_name account) = broken.0 in absurd (cc e)
  checked_reads (Err (TreeLost host chip)) is broken = let e : TreeLost host chip ≡ Damaged (stash_name account) = broken.0 in absurd (cc e)

-- What is loaded fits together, whatever the contents are.
pub coherent_of : (account : Bytes) (listed : List Bytes) (stored kept : Stored) → AreFiles account listed stored.files
    → IfSome stored.stash (IsOwnStash account) → IfSome stored.stash HasBoth → AreFitting stored.stash stored.factors
    → (kept ≡ stored) × (HasFactors stored → KeepsBounds stored) → IsCoherent account kept
coherent_of account listed stored kept files own both rows bounds = subst (IsCoherent account) (sym bounds.0) (record {
  stash = own;
  both = both;
  rows = rows;
  bounds = bounds.1;
  files = files.named;
})
