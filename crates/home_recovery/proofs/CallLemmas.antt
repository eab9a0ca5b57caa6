-- What single reads of a share tell.
use Rattle.std.proofs.Common.{◌≡◌, ℕ, ◌+◌, ◌≤◌, Option, None, Some, Result, Ok, Err, true, false, refl, sym, ap, subst, IsOk, true≢false, is_some}
use Rattle.std.specs.Prelude.{IsErrOf, IfErr, option_map}
use Rattle.std.specs.FinMap.{get}
use Rattle.share_api.specs.Conditions.{IsReadFault, IsLeafFault, TellsLoss}
use Rattle.share_api.specs.Contents.{Bytes, Contents}
use Rattle.share_api.specs.Replies.{found_reply, view_reply}
use Rattle.share_api.specs.Seen.{ShareSeen, Makes, step_of}
use Rattle.share_api.specs.Steps.{view_of}
use Rattle.share_api.specs.declared.leaf.Leaf.{Leaf}
use Rattle.share_api.specs.declared.leaf.LeafView.{LeafView}
use Rattle.share_api.specs.declared.fault.ShareFault.{ShareFault}
use Rattle.share_api.specs.declared.fault.ShareFault.TheVariants as shares
use Rattle.share_api.specs.declared.step.Op.TheVariants.{Get, LookLeaf}
use Rattle.share_api.specs.declared.step.Reply.{Reply}
use Rattle.share_api.specs.declared.step.Reply.TheVariants.{Found, Viewed, Failed, NoMemory, TreeLost}
use Rattle.stored_home.specs.declared.fault.StoreFault.{StoreFault}
use Rattle.stored_home.specs.declared.fault.StoreFault.TheVariants as faults
use Rattle.home_recovery.specs.Parts.{TellsBytes, TellsLeaf, TellsView, there_of, loss_of}
use Rattle.home_recovery.specs.Reading.{Reads}
use Rattle.home_recovery.specs.Told.{told, IsPlainFault}
use Rattle.home_recovery.proofs.ReadLemmas.{reads_one, reads_as, reads_then}

-- an Ok is no Err, and an Err no Ok
pub no_err : {A E : Type 0} (x : A) (e : E) → ◌≡◌ {A = Result A E} (Ok x) (Err e) → ⊥
no_err x e same = cc

pub not_ok : false ≡ true → ⊥
not_ok o = true≢false (sym o)

pub same_fault : {A : Type 0} (e f : StoreFault) → ◌≡◌ {A = Result A StoreFault} (Err e) (Err f) → e ≡ f
same_fault e f same = cc

same_found : (a b : Option Bytes) → ◌≡◌ {A = Reply} (Found a) (Found b) → a ≡ b
same_found a b same = cc

same_view : (a b : Option LeafView) → ◌≡◌ {A = Reply} (Viewed a) (Viewed b) → a ≡ b
same_view a b same = cc

found_went : (a : Option Bytes) → ◌≡◌ {A = Reply} (Found a) Failed → ⊥
found_went a same = cc

viewed_went : (a : Option LeafView) → ◌≡◌ {A = Reply} (Viewed a) Failed → ⊥
viewed_went a same = cc

lost_went : ◌≡◌ {A = Reply} TreeLost Failed → ⊥
lost_went same = cc

pub starved_no_failed : {A : Type 0} → ◌≡◌ {A = Result A StoreFault} (Err faults.NoMemory) (Err faults.Failed) → ⊥
starved_no_failed same = cc

-- a fault of a read, or of a look, is no record's
pub plain_of_read : {A : Type 0} (r : Result A ShareFault) → IfErr r IsReadFault → IfErr r IsPlainFault
plain_of_read (Ok x) h = tt
plain_of_read (Err shares.Failed) h = tt
plain_of_read (Err (shares.TreeLost host chip)) h = tt
plain_of_read (Err (shares.Damaged name)) h = h
plain_of_read (Err shares.NoMemory) h = tt

pub plain_of_look : {A : Type 0} (r : Result A ShareFault) → IfErr r IsLeafFault → IfErr r IsPlainFault
plain_of_look (Ok x) h = tt
plain_of_look (Err shares.Failed) h = tt
plain_of_look (Err (shares.TreeLost host chip)) h = tt
plain_of_look (Err (shares.Damaged name)) h = h
plain_of_look (Err shares.NoMemory) h = tt

-- a record's bytes
pub bytes_read : (old new : ShareSeen) (name : Bytes) (r : Result (Option Bytes) ShareFault)
    → Makes old new (step_of old 0 (Get name) (found_reply r)) → IfErr r IsReadFault
    → Reads old new (IsOk (told r)) (IsErrOf (told r) faults.Failed) 1 (TellsBytes name (told r))
bytes_read old new name (Ok found) made only = reads_one old new (step_of old 0 (Get name) (Found found)) _ _ (TellsBytes name (Ok found)) made tt
    (λ _. found_went found) (λ f. absurd (no_err found faults.Failed f)) (λ c clear l. sym (same_found found (get c.records name) l.0))
bytes_read old new name (Err shares.Failed) made only = reads_one old new (step_of old 0 (Get name) Failed) _ _ (TellsBytes name (Err faults.Failed)) made tt
    (λ o. absurd (not_ok o)) (λ _. refl) (λ c clear l. tt)
bytes_read old new name (Err (shares.TreeLost host chip)) made only = absurd only
bytes_read old new name (Err (shares.Damaged other)) made only = absurd only
bytes_read old new name (Err shares.NoMemory) made only = reads_one old new (step_of old 0 (Get name) NoMemory) _ _ (TellsBytes name (Err faults.NoMemory)) made tt
    (λ o. absurd (not_ok o)) (λ f. absurd (starved_no_failed f)) (λ c clear l. tt)

seen_there : (x : Option Leaf) (view : Option LeafView) → view ≡ option_map view_of x → is_some x ≡ is_some view
seen_there None view e = sym (ap is_some e)
seen_there (Some leaf) view e = sym (ap is_some e)

-- whether a leaf is there
pub leaf_read : (old new : ShareSeen) (label : ℕ) (r : Result (Option LeafView) ShareFault)
    → Makes old new (step_of old 0 (LookLeaf label) (view_reply r)) → IfErr r IsLeafFault → TellsLoss old.lost r → old.lost ≡ None
    → Reads old new (IsOk (there_of r)) (IsErrOf (there_of r) faults.Failed) 1 (TellsLeaf label (there_of r))
leaf_read old new label (Ok None) made only tells whole = reads_one old new (step_of old 0 (LookLeaf label) (Viewed None)) _ _ (TellsLeaf label (Ok false)) made tt
    (λ _. viewed_went None) (λ f. absurd (no_err false faults.Failed f))
    (λ c clear l. seen_there (get c.leaves label) None (same_view None (option_map view_of (get c.leaves label)) l.0))
leaf_read old new label (Ok (Some view)) made only tells whole = reads_one old new (step_of old 0 (LookLeaf label) (Viewed (Some view))) _ _ (TellsLeaf label (Ok true)) made tt
    (λ _. viewed_went (Some view)) (λ f. absurd (no_err true faults.Failed f))
    (λ c clear l. seen_there (get c.leaves label) (Some view) (same_view (Some view) (option_map view_of (get c.leaves label)) l.0))
leaf_read old new label (Err shares.Failed) made only tells whole = reads_one old new (step_of old 0 (LookLeaf label) Failed) _ _ (TellsLeaf label (Err faults.Failed)) made tt
    (λ o. absurd (not_ok o)) (λ _. refl) (λ c clear l. tt)
leaf_read old new label (Err (shares.TreeLost host chip)) made only tells whole =
    absurd (subst (λ lost. TellsLoss {A = Option LeafView} lost (Err (shares.TreeLost host chip))) whole tells host chip (the_same (Err (shares.TreeLost host chip))))
  where
    the_same : (x : Result (Option LeafView) ShareFault) → x ≡ x
    the_same x = refl
leaf_read old new label (Err (shares.Damaged other)) made only tells whole = absurd only
leaf_read old new label (Err shares.NoMemory) made only tells whole = absurd only

-- what anybody may know of a leaf
pub view_read : (old new : ShareSeen) (label : ℕ) (r : Result (Option LeafView) ShareFault)
    → Makes old new (step_of old 0 (LookLeaf label) (view_reply r)) → IfErr r IsLeafFault → TellsLoss old.lost r → old.lost ≡ None
    → Reads old new (IsOk (told r)) (IsErrOf (told r) faults.Failed) 1 (TellsView label (told r))
view_read old new label (Ok view) made only tells whole = reads_one old new (step_of old 0 (LookLeaf label) (Viewed view)) _ _ (TellsView label (Ok view)) made tt
    (λ _. viewed_went view) (λ f. absurd (no_err view faults.Failed f))
    (λ c clear l. sym (same_view view (option_map view_of (get c.leaves label)) l.0))
view_read old new label (Err shares.Failed) made only tells whole = reads_one old new (step_of old 0 (LookLeaf label) Failed) _ _ (TellsView label (Err faults.Failed)) made tt
    (λ o. absurd (not_ok o)) (λ _. refl) (λ c clear l. tt)
view_read old new label (Err (shares.TreeLost host chip)) made only tells whole =
    absurd (subst (λ lost. TellsLoss {A = Option LeafView} lost (Err (shares.TreeLost host chip))) whole tells host chip (the_same (Err (shares.TreeLost host chip))))
  where
    the_same : (x : Result (Option LeafView) ShareFault) → x ≡ x
    the_same x = refl
view_read old new label (Err (shares.Damaged other)) made only tells whole = absurd only
view_read old new label (Err shares.NoMemory) made only tells whole = absurd only

-- the roots of a lost tree
pub loss_read : (old new : ShareSeen) (label : ℕ) (r : Result (Option LeafView) ShareFault)
    → Makes old new (step_of old 0 (LookLeaf label) (view_reply r)) → IfErr r IsLeafFault
    → Reads old new (IsOk (loss_of r)) (IsErrOf (loss_of r) faults.Failed) 1 (λ c. Unit {0})
loss_read old new label (Ok view) made only = reads_one old new (step_of old 0 (LookLeaf label) (Viewed view)) _ _ (λ c. Unit {0}) made tt
    (λ _. viewed_went view) (λ f. absurd (no_err None faults.Failed f)) (λ c clear l. tt)
loss_read old new label (Err shares.Failed) made only = reads_one old new (step_of old 0 (LookLeaf label) Failed) _ _ (λ c. Unit {0}) made tt
    (λ o. absurd (not_ok o)) (λ _. refl) (λ c clear l. tt)
loss_read old new label (Err (shares.TreeLost host chip)) made only = reads_one old new (step_of old 0 (LookLeaf label) TreeLost) _ _ (λ c. Unit {0}) made tt
    (λ _. lost_went) (λ f. absurd (no_err (Some (record { host = host; chip = chip })) faults.Failed f)) (λ c clear l. tt)
loss_read old new label (Err (shares.Damaged other)) made only = absurd only
loss_read old new label (Err shares.NoMemory) made only = absurd only

-- a fault ends a call that reads
pub reads_err : {A B : Type 0} (old new : ShareSeen) (fault : StoreFault) (n most : ℕ) (P Q : Contents → Type 0)
    → Reads old new (false ≡ true) (IsErrOf {T = A} (Err fault) faults.Failed) n P → n ≤ most → ((c : Contents) → P c → Q c)
    → Reads old new (false ≡ true) (IsErrOf {T = B} (Err fault) faults.Failed) most Q
reads_err old new fault n most P Q h within tells =
    reads_as old new (false ≡ true) _ (false ≡ true) _ n most P Q h within (λ o. o) (λ e. ap Err (same_fault fault faults.Failed e)) tells

-- a fault ends a call that went well until then
pub reads_then_err : {A B : Type 0} (old mid new : ShareSeen) (fault : StoreFault) (ok1 failed1 : Type 0) (n m most : ℕ) (P Q R : Contents → Type 0)
    → Reads old mid ok1 failed1 n P → Reads mid new (false ≡ true) (IsErrOf {T = A} (Err fault) faults.Failed) m Q → n + m ≤ most → ok1
    → ((c : Contents) → P c → Q c → R c)
    → Reads old new (false ≡ true) (IsErrOf {T = B} (Err fault) faults.Failed) most R
reads_then_err old mid new fault ok1 failed1 n m most P Q R h k within went tells =
    reads_then old mid new ok1 failed1 (false ≡ true) _ (false ≡ true) _ n m most P Q R h k within went (λ o. o)
    (λ e. ap Err (same_fault fault faults.Failed e)) tells

-- a call that read has no memory afterwards
pub reads_starved : {A : Type 0} (old new : ShareSeen) (ok1 failed1 : Type 0) (n most : ℕ) (P Q : Contents → Type 0)
    → Reads old new ok1 failed1 n P → n ≤ most → ((c : Contents) → Q c)
    → Reads old new (false ≡ true) (IsErrOf {T = A} (Err faults.NoMemory) faults.Failed) most Q
reads_starved {A} old new ok1 failed1 n most P Q h within tells =
    reads_as old new ok1 failed1 (false ≡ true) _ n most P Q h within (λ o. absurd (true≢false (sym o)))
    (λ e. absurd (starved_no_failed {A = A} e)) (λ c h. tells c)

-- a call that read went well
pub reads_ok : {A : Type 0} (old new : ShareSeen) (x : A) (ok1 failed1 : Type 0) (n most : ℕ) (P Q : Contents → Type 0)
    → Reads old new ok1 failed1 n P → n ≤ most → ok1 → ((c : Contents) → P c → Q c)
    → Reads old new (true ≡ true) (IsErrOf {T = A} (Ok x) faults.Failed) most Q
reads_ok old new x ok1 failed1 n most P Q h within went tells =
    reads_as old new ok1 failed1 (true ≡ true) _ n most P Q h within (λ o. went) (λ e. absurd (no_err x faults.Failed e)) tells

-- two calls that read went well
pub reads_then_ok : {A : Type 0} (old mid new : ShareSeen) (x : A) (ok1 failed1 ok2 failed2 : Type 0) (n m most : ℕ) (P Q R : Contents → Type 0)
    → Reads old mid ok1 failed1 n P → Reads mid new ok2 failed2 m Q → n + m ≤ most → ok1 → ok2
    → ((c : Contents) → P c → Q c → R c)
    → Reads old new (true ≡ true) (IsErrOf {T = A} (Ok x) faults.Failed) most R
reads_then_ok old mid new x ok1 failed1 ok2 failed2 n m most P Q R h k within went well tells =
    reads_then old mid new ok1 failed1 ok2 failed2 (true ≡ true) _ n m most P Q R h k within went (λ o. well)
    (λ e. absurd (no_err x faults.Failed e)) tells

-- after two calls that read there is no memory
pub reads_then_starved : {A : Type 0} (old mid new : ShareSeen) (ok1 failed1 ok2 failed2 : Type 0) (n m most : ℕ) (P Q R : Contents → Type 0)
    → Reads old mid ok1 failed1 n P → Reads mid new ok2 failed2 m Q → n + m ≤ most → ok1 → ((c : Contents) → R c)
    → Reads old new (false ≡ true) (IsErrOf {T = A} (Err faults.NoMemory) faults.Failed) most R
reads_then_starved {A} old mid new ok1 failed1 ok2 failed2 n m most P Q R h k within went tells =
    reads_then old mid new ok1 failed1 ok2 failed2 (false ≡ true) _ n m most P Q R h k within went (λ o. absurd (true≢false (sym o)))
    (λ e. absurd (starved_no_failed {A = A} e)) (λ c p q. tells c)
