-- The faults of an edit that sets a PIN, by where they come from.
use Rattle.std.proofs.Common.{◌≡◌, ℕ, Result, Ok, Err, IsErr, refl, sym, ◌∙◌, subst, ◌⊎◌, inl, inr, ⊎_elim}
use Rattle.std.specs.Prelude.{IfErr}
use Rattle.record_names.specs.Names.{stash_name}
use Rattle.share_api.specs.Contents.{Bytes}
use Rattle.stored_home.specs.declared.fault.StoreFault.{StoreFault}
use Rattle.stored_home.specs.declared.fault.StoreFault.TheVariants.{Failed, Damaged, NoMemory, TreeLost}
use Rattle.pin_edits.specs.Faults.{IsStashFault, IsNamedFault, IsHeldFault}

-- of making the stash
pub stash_is_held : (account : Bytes) (fault : StoreFault) → IsStashFault account fault → IsHeldFault account fault
stash_is_held account Failed is = absurd is
stash_is_held account (Damaged name) is = inl is
stash_is_held account NoMemory is = tt
stash_is_held account (TreeLost host chip) is = absurd is

-- a record that is damaged then is the stash
pub stash_damaged : {A : Type 0} (account : Bytes) (fault : StoreFault) (result : Result A StoreFault)
    → IsStashFault account fault → result ≡ Err fault → (name : Bytes) → result ≡ Err (Damaged name)
    → name ≡ stash_name account
stash_damaged {A} account fault result is told name damaged =
    let both : ◌≡◌ {A = Result A StoreFault} (Err fault) (Err (Damaged name)) = sym told ∙ damaged in
    let same : fault ≡ Damaged name = cc in
    subst (IsStashFault account) same is

-- of naming the leaf
named_is_held : (account : Bytes) (tree : ℕ) (fault : StoreFault) → IsNamedFault account tree fault
    → IsHeldFault account fault
named_is_held account tree Failed is = absurd is
named_is_held account tree (Damaged name) is = inr (tree, is)
named_is_held account tree NoMemory is = tt
named_is_held account tree (TreeLost host chip) is = absurd is

-- naming the leaf is no device step
pub named_not_failed : (account : Bytes) (tree : ℕ) (fault : StoreFault) → IsNamedFault account tree fault
    → fault ≡ Failed → ⊥
named_not_failed account tree Failed is e = is
named_not_failed account tree (Damaged name) is e = cc e
named_not_failed account tree NoMemory is e = cc e
named_not_failed account tree (TreeLost host chip) is e = cc e

-- a failed step tells no damaged record
pub failed_not_damaged : (result : Result Unit StoreFault) → (IsErr result → result ≡ Err Failed) → (name : Bytes)
    → result ≡ Err (Damaged name) → ⊥
failed_not_damaged result only name is =
    let both : ◌≡◌ {A = Result Unit StoreFault} (Err (Damaged name)) (Err Failed) =
    sym is ∙ only (subst IsErr (sym is) refl) in
    cc both

-- the fault that is told once the leaf is taken away is the one that was to be
pub back_damaged : (fault : StoreFault) (result : Result Unit StoreFault) (name : Bytes)
    → IfErr result (λ told. (told ≡ fault) ⊎ (told ≡ Failed)) → result ≡ Err (Damaged name) → fault ≡ Damaged name
back_damaged fault (Ok u) name only is = cc is
back_damaged fault (Err told) name only is =
    let same : told ≡ Damaged name = cc in ⊎_elim
    (λ e. sym e ∙ same)
    (λ e. let both : Damaged name ≡ Failed = sym same ∙ e in absurd (cc both)) only

-- of taking a leaf that isn't named away again
pub back_is_held : (account : Bytes) (tree : ℕ) (fault : StoreFault) (result : Result Unit StoreFault)
    → IsNamedFault account tree fault → IfErr result (λ told. (told ≡ fault) ⊎ (told ≡ Failed))
    → IfErr result (IsHeldFault account)
back_is_held account tree fault (Ok u) is only = only
back_is_held account tree fault (Err told) is only = ⊎_elim
    (λ e. subst (IsHeldFault account) (sym e) (named_is_held account tree fault is))
    (λ e. subst (IsHeldFault account) (sym e) tt) only
