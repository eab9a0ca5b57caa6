-- A PIN's count is set back.
use Rattle.std.proofs.Common.{◌≡◌, ℕ, [], ◌∷◌, Option, None, Some, Result, Ok, Err, IsOk, IsErr, Bool, true, false, cond, refl, sym, ap, ◌∙◌, subst, ◌⊎◌, inl, inr, ⊎_elim, true≢false}
use Rattle.std.specs.Prelude.{IfErr, bytes_eq, is_some}
use Rattle.std.specs.Result.{result_ok}
use Rattle.std.specs.FinMap.{get}
use Rattle.std.proofs.lemmas.Slice.Eq.{bytes_eq-Decides}
use Rattle.account_machine.specs.declared.factor.Factor.{Factor}
use Rattle.account_machine.specs.declared.user.Durable.{Durable}
use Rattle.account_machine.specs.Effect.{cleared}
use Rattle.ct_bytes.specs.Reading.{or_fault}
use Rattle.factor_files.specs.declared.factor.FactorRecord.{FactorRecord}
use Rattle.gcm_seal.specs.Gcm.{decrypted, tag_of}
use Rattle.pw_types.specs.declared.era.Era.{Era}
use Rattle.sealed_text.specs.OpeningSealed.{opened}
use Rattle.sealed_text.specs.declared.sealed.Sealed.{Sealed}
use Rattle.secret_stash.specs.Keys.{payload_extra, payload_or_fault, opened_payload_of}
use Rattle.secret_stash.specs.Faults.{told_record}
use Rattle.record_names.specs.Names.{factor_name}
use Rattle.share_api.specs.Conditions.{IsTryFault}
use Rattle.share_api.specs.Contents.{Bytes, Contents}
use Rattle.share_api.specs.Replies.{fits_reply}
use Rattle.share_api.specs.Seen.{ShareSeen, Makes, step_of}
use Rattle.share_api.specs.Steps as steps
use Rattle.share_api.specs.Steps.{Does, Leads, with_leaf, no_stamp, reset_to}
use Rattle.share_api.specs.declared.fault.ShareFault.{ShareFault}
use Rattle.share_api.specs.declared.fault.ShareFault.TheVariants as shares
use Rattle.share_api.specs.declared.leaf.Leaf.{Leaf}
use Rattle.share_api.specs.declared.step.Op.TheVariants.{ResetLeaf}
use Rattle.share_api.specs.declared.step.Reply.{Reply}
use Rattle.share_api.specs.declared.step.Reply.TheVariants.{Fits, Failed}
use Rattle.share_api.specs.declared.step.Step.{Step}
use Rattle.share_api.proofs.StepLaws.{settled_same}
use Rattle.stash_format.specs.Payloads.{payload_read, payload_at}
use Rattle.stash_format.specs.Resets.{Resets}
use Rattle.stash_format.specs.declared.contents.Contents.{Contents as Stash}
use Rattle.stash_format.specs.declared.fault.RecordFault.{RecordFault}
use Rattle.stash_format.specs.declared.payload.Payload.{Payload}
use Rattle.stash_format.specs.declared.reset.Reset.{Reset}
use Rattle.stored_home.specs.Adding.{HoldsEither}
use Rattle.stored_home.specs.Changes.{durable_set}
use Rattle.stored_home.specs.Holds.{Keys, HoldsPayload, HoldsUnder}
use Rattle.stored_home.specs.Loaded.{IsKept}
use Rattle.stored_home.specs.declared.fault.StoreFault.{StoreFault}
use Rattle.stored_home.specs.declared.fault.StoreFault.TheVariants as faults
use Rattle.stored_home.specs.declared.stored.Stored.{Stored}
use Rattle.stored_home.proofs.MapLemmas.{from_some}
use Rattle.home_edits.specs.Edits.{Starts}
use Rattle.home_edits.proofs.Edited.{edits_none}
use Rattle.pin_edits.specs.Faults.{IsStashFault, IsResetFault}
use Rattle.pin_edits.specs.Refusals.{ChangesNothing}
use Rattle.pin_edits.specs.Resets.{IsResetOf, ResetsPin, EditsByReset, told_reset}
use Rattle.pin_edits.proofs.OneStep.{Steps, edits_one, one_step, nothing_made, one_refused}
use Rattle.pin_edits.proofs.PinCounted.{HoldsPin, leaf_same, pin_held, leaf_kept, count_held}

-- ---- the payload

-- what opening gives is the decrypted text
opened_text : (fits : Bool) (text plain : Bytes) → cond fits (Some text) None ≡ Some plain → text ≡ plain
opened_text true text plain e = from_some text plain e
opened_text false text plain e = absurd (cc e)

-- what is read is there
pub read_there : (r : Result Payload RecordFault) (payload : Payload) → or_fault told_record r ≡ Ok payload
    → result_ok r ≡ Some payload
read_there (Ok x) payload e = let same : x ≡ payload = cc in ap Some same
read_there (Err fault) payload e = absurd (cc e)

-- the payload that opens under the home's main key is the one that is held
pub payload_whole : (account : Bytes) (keys : Keys) (resets : Resets) (sealed : Option Sealed) (payload : Payload)
    → HoldsPayload account keys resets sealed → opened_payload_of keys.main account sealed ≡ Ok payload
    → payload ≡ record { vault = keys.vault; resets = resets }
payload_whole account keys resets None payload h e = absurd (cc e)
payload_whole account keys resets (Some sealed) payload h e =
    by (opened keys.main (payload_extra account) sealed) refl e
  where
    by : (o : Option Bytes) → opened keys.main (payload_extra account) sealed ≡ o → payload_or_fault o ≡ Ok payload
        → payload ≡ record { vault = keys.vault; resets = resets }
    by None is e = absurd (cc e)
    by (Some plain) is e =
        let text : h.text ≡ plain = sym h.opens.text ∙ opened_text
        (bytes_eq sealed.tag (tag_of 8 14 keys.main sealed.iv (payload_extra account) sealed.text))
        (decrypted 8 14 keys.main sealed.iv sealed.text) plain is in
        from_some payload (record { vault = keys.vault; resets = resets })
        (sym (read_there (payload_read plain) payload e) ∙ ap payload_at (sym text) ∙ h.read)

-- ---- the step

module _ (era : Era) (moment : ℕ) (secret : Bytes) (tree : ℕ) (contents mid : Contents) where
  -- what a reset may lead to: nothing changes, or the leaf was reset
  reset_leads : (leaf : Leaf) → get contents.leaves tree ≡ Some leaf → (result : Result Bool ShareFault)
      → Leads era moment (ResetLeaf tree secret) (fits_reply result) contents mid
      → (mid ≡ contents) ⊎ (mid ≡ with_leaf contents tree (reset_to secret leaf))
  reset_leads leaf found (Ok fits) l = inr (l.3 ∙ ap (λ (x : Leaf). with_leaf contents tree (reset_to secret x))
      (from_some l.0 leaf (sym l.1 ∙ found)))
  reset_leads leaf found (Err shares.Failed) l = ⊎_elim inl
      (λ w. inr (w.2 ∙ ap (λ (x : Leaf). with_leaf contents tree (reset_to secret x))
      (from_some w.0 leaf (sym w.1 ∙ found)))) l
  reset_leads leaf found (Err (shares.TreeLost host chip)) l = inl l
  reset_leads leaf found (Err (shares.Damaged name)) l = inl l
  reset_leads leaf found (Err shares.NoMemory) l = inl l

  -- where the secret is the leaf's, it was reset
  reset_done : (leaf : Leaf) → get contents.leaves tree ≡ Some leaf
      → Leads era moment (ResetLeaf tree secret) (Fits true) contents mid
      → mid ≡ with_leaf contents tree (reset_to secret leaf)
  reset_done leaf found l = l.3 ∙ ap (λ (x : Leaf). with_leaf contents tree (reset_to secret x))
      (from_some l.0 leaf (sym l.1 ∙ found))

  -- where it isn't, nothing changes
  reset_refused : Leads era moment (ResetLeaf tree secret) (Fits false) contents mid → mid ≡ contents
  reset_refused l =
      let differs : bytes_eq secret l.0.reset ≡ false = same_fits (bytes_eq secret l.0.reset) false (sym l.2) in
      l.3 ∙ ap (λ b. with_leaf contents tree (cond b (steps.cleared l.0) l.0)) differs
      ∙ (λ i. record contents { leaves = leaf_same contents.leaves tree l.0 l.1 i })
    where
      same_fits : (one two : Bool) → ◌≡◌ {A = Reply} (Fits one) (Fits two) → one ≡ two
      same_fits one two e = cc

-- it failed exactly where the step did
failed_reply : (name : Bytes) (r : Result Bool ShareFault) → told_reset name r ≡ Err faults.Failed
    → fits_reply r ≡ Failed
failed_reply name (Ok true) e = absurd (cc e)
failed_reply name (Ok false) e = absurd (cc e)
failed_reply name (Err shares.Failed) e = refl
failed_reply name (Err (shares.TreeLost host chip)) e = absurd (cc e)
failed_reply name (Err (shares.Damaged other)) e = absurd (cc e)
failed_reply name (Err shares.NoMemory) e = absurd (cc e)

ok_reply : (name : Bytes) (r : Result Bool ShareFault) → IsOk (told_reset name r) → r ≡ Ok true
ok_reply name (Ok true) o = refl
ok_reply name (Ok false) o = absurd (true≢false (sym o))
ok_reply name (Err fault) o = absurd (true≢false (sym o))

-- a refusal changes nothing
refused_same : (era : Era) (moment tree : ℕ) (secret name : Bytes) (r : Result Bool ShareFault)
    → IsErr (told_reset name r) → (told_reset name r ≡ Err faults.Failed → ⊥) → (contents mid : Contents)
    → Leads era moment (ResetLeaf tree secret) (fits_reply r) contents mid → mid ≡ contents
refused_same era moment tree secret name (Ok true) e not contents mid l = absurd (true≢false (sym e))
refused_same era moment tree secret name (Ok false) e not contents mid l =
    reset_refused era moment secret tree contents mid l
refused_same era moment tree secret name (Err shares.Failed) e not contents mid l = absurd (not refl)
refused_same era moment tree secret name (Err (shares.TreeLost host chip)) e not contents mid l = l
refused_same era moment tree secret name (Err (shares.Damaged other)) e not contents mid l = l
refused_same era moment tree secret name (Err shares.NoMemory) e not contents mid l = l

-- and is no failed step
refused_calm : (name : Bytes) (r : Result Bool ShareFault) → (told_reset name r ≡ Err faults.Failed → ⊥)
    → fits_reply r ≡ Failed → ⊥
refused_calm name (Ok fits) not e = cc e
refused_calm name (Err shares.Failed) not e = not refl
refused_calm name (Err (shares.TreeLost host chip)) not e = cc e
refused_calm name (Err (shares.Damaged other)) not e = cc e
refused_calm name (Err shares.NoMemory) not e = cc e

module _ (account : Bytes) (stored : Stored) (label : Bytes) (row : FactorRecord)
    (at : get stored.factors label ≡ Some row) (stash : Stash) (stash_is : stored.stash ≡ Some stash) (tree : ℕ)
    (main secret : Bytes) (made : IsResetOf stash main label row tree secret) (old : ShareSeen) (moment : ℕ)
    (name : Bytes) (tried : Result Bool ShareFault) where
  abbrev step : Step
  step = step_of old moment (ResetLeaf tree secret) (fits_reply tried)

  -- the step from contents in which no leaf is in doubt
  plainly : (contents mid : Contents) → contents.doubt ≡ None → Does old.era contents step mid
      → Leads old.era moment (ResetLeaf tree secret) (fits_reply tried) contents mid
  plainly contents mid clear does =
      subst (λ c. Leads old.era moment (ResetLeaf tree secret) (fits_reply tried) c mid) (settled_same contents clear) does

  module _ (contents mid : Contents) (keys : Keys) (before next : Durable)
      (starts : Starts false account stored (ResetsPin label main) contents keys before next)
      (does : Does old.era contents step mid) where
    held : HoldsPin account stored label row tree contents keys before
    held = pin_held account stored label row at tree made.names contents keys before starts.holds starts.kept

    leads : Leads old.era moment (ResetLeaf tree secret) (fits_reply tried) contents mid
    leads = plainly contents mid starts.kept.clear does

    -- the payload's reset secret is the leaf's
    resets_are : made.payload.resets ≡ held.held.resets
    resets_are = ap (λ (p : Payload). p.resets) (payload_whole account keys held.held.resets held.stash.payload
        made.payload (held.held.payload held.some)
        (subst (λ (t : Bytes × Bytes × Stash). opened_payload_of t.0 t.1 t.2.payload ≡ Ok made.payload)
        (λ i. (sym starts.asked.main_is i, (ap (λ (s : Stash). s.account) same_stash ∙ held.held.account_is) i, same_stash i))
        made.opened))
      where
        same_stash : stash ≡ held.stash
        same_stash = from_some stash held.stash (sym stash_is ∙ held.is)

    secret_is : secret ≡ held.pin.leaf.reset
    secret_is = ap (λ (r : Reset). r.secret) (from_some (record { edition = row.edition; secret = secret })
        (record { edition = held.pin.of.factor.edition; secret = held.pin.leaf.reset })
        (sym made.found ∙ ap (λ (m : Resets). get m label) resets_are ∙ held.pin.own.reset))

    cleared_is : reset_to secret held.pin.leaf ≡ steps.cleared held.pin.leaf
    cleared_is = ap (λ b. cond b (steps.cleared held.pin.leaf) held.pin.leaf)
        ((bytes_eq-Decides secret held.pin.leaf.reset).1 secret_is)

    same_factor : held.pin.of.factor ≡ starts.asked.factor
    same_factor = from_some held.pin.of.factor starts.asked.factor (sym held.pin.of.held ∙ starts.asked.held)

    after_reset : mid ≡ with_leaf contents tree (reset_to secret held.pin.leaf)
        → HoldsUnder false mid account next keys × IsKept false mid account stored
    after_reset is =
        let whole = is ∙ ap (λ (l : Leaf). with_leaf contents tree l) cleared_is in (
          subst (λ (t : Contents × Durable). HoldsUnder false t.0 account t.1 keys)
              (λ i. (
                sym whole i,
                ((ap (λ (f : Factor). durable_set before label (cleared f)) same_factor)
                    ∙ sym starts.asked.after_is) i,
              ))
              (count_held account stored label row at tree made.names contents keys before starts.holds starts.kept held
              0 no_stamp),
          subst (λ c. IsKept false c account stored) (sym is)
              (leaf_kept account stored label row at tree made.names contents keys before starts.holds starts.kept
              (reset_to secret held.pin.leaf)),
        )

    -- whichever way it ended
    either_held : HoldsEither false account keys before next mid
    either_held = ⊎_elim (λ e. inl (subst (λ c. HoldsUnder false c account before keys) (sym e) starts.holds))
        (λ e. inr (after_reset e).0)
        (reset_leads old.era moment secret tree contents mid held.pin.leaf held.pin.found tried leads)

    once_done : tried ≡ Ok true → HoldsUnder false mid account next keys × IsKept false mid account stored
    once_done is = after_reset (reset_done old.era moment secret tree contents mid held.pin.leaf held.pin.found
        (subst (λ (r : Result Bool ShareFault). Leads old.era moment (ResetLeaf tree secret) (fits_reply r) contents mid)
        is leads))

  -- what the step does of the edit
  reset_steps : (ok : Type 0) → (ok → tried ≡ Ok true) → Steps old account stored step ok (ResetsPin label main)
  reset_steps ok given = record {
    either = either_held;
    last = λ o contents mid keys before next starts does.
        once_done contents mid keys before next starts does (given o);
  }

  -- reset_pin, whichever way its step ended
  pub reset_edits : (new : ShareSeen) (result : Result Unit StoreFault) → is_some old.lost ≡ false
      → Makes old new step → result ≡ told_reset name tried → EditsByReset old new account stored label main result
  reset_edits new result found makes is =
      let gave : IsOk result → tried ≡ Ok true = λ o. ok_reply name tried (subst IsOk is o) in
      let fails : result ≡ Err faults.Failed → step.reply ≡ Failed = λ f. failed_reply name tried (sym is ∙ f) in
      let done : IsOk result → step.reply ≡ Failed → ⊥ = λ o e. fits_not_failed (sym (ap fits_reply (gave o)) ∙ e) in
      let suits = reset_steps (IsOk result) gave in
      let edits = edits_one old new account stored (IsOk result) (result ≡ Err faults.Failed) (ResetsPin label main) step
      found makes fails done suits in
      let only : edits.steps ≡ step ∷ [] = one_step old new account stored (IsOk result) (result ≡ Err faults.Failed)
      (ResetsPin label main) step found makes fails done suits in
      record {
        edits = edits;
        refused = λ e not.
            subst (ChangesNothing old account stored (ResetsPin label main)) (sym only)
            (one_refused old account stored (ResetsPin label main) step (refused_calm name tried (λ f. not (is ∙ f)))
            (λ contents mid clear does.
            refused_same old.era moment tree secret name tried (subst IsErr is e) (λ f. not (is ∙ f)) contents mid
            (plainly contents mid clear does)));
      }
    where
      fits_not_failed : ◌≡◌ {A = Reply} (Fits true) Failed → ⊥
      fits_not_failed e = cc e

-- reset_pin, where it made no step
pub no_reset : (old : ShareSeen) (account : Bytes) (stored : Stored) (label main : Bytes)
    (result : Result Unit StoreFault) → (IsOk result → ⊥) → (result ≡ Err faults.Failed → ⊥)
    → EditsByReset old old account stored label main result
no_reset old account stored label main result none calm =
    let edits = edits_none old account stored stored (IsOk result) (result ≡ Err faults.Failed) (ResetsPin label main)
    none calm in
    record {
      edits = edits;
      refused = λ e not. nothing_made old account stored stored (IsOk result) (result ≡ Err faults.Failed)
          (ResetsPin label main) edits;
    }

-- a payload that doesn't open is no failed step
pub stash_not_failed : {A : Type 0} (account : Bytes) (fault : StoreFault) (result : Result A StoreFault)
    → IsStashFault account fault → result ≡ Err fault → result ≡ Err faults.Failed → ⊥
stash_not_failed account faults.Failed result only same failed = only
stash_not_failed {A} account (faults.Damaged name) result only same failed =
    let k : ◌≡◌ {A = Result A StoreFault} (Err (faults.Damaged name)) (Err faults.Failed) = sym same ∙ failed in cc k
stash_not_failed {A} account faults.NoMemory result only same failed =
    let k : ◌≡◌ {A = Result A StoreFault} (Err faults.NoMemory) (Err faults.Failed) = sym same ∙ failed in cc k
stash_not_failed account (faults.TreeLost host chip) result only same failed = only

-- the stash's faults are some of a reset's
pub stash_fault_only : (account label : Bytes) (edition tree : ℕ) (fault : StoreFault) → IsStashFault account fault
    → IsResetFault account label edition tree fault
stash_fault_only account label edition tree faults.Failed h = absurd h
stash_fault_only account label edition tree (faults.Damaged name) h = inl h
stash_fault_only account label edition tree faults.NoMemory h = tt
stash_fault_only account label edition tree (faults.TreeLost host chip) h = absurd h

-- and so are those of the leaf
pub leaf_fault_only : (account label : Bytes) (edition tree : ℕ) (name : Bytes) (tried : Result Bool ShareFault)
    → name ≡ factor_name account label edition → IfErr tried (IsTryFault tree)
    → IfErr (told_reset name tried) (IsResetFault account label edition tree)
leaf_fault_only account label edition tree name (Ok true) named only = tt
leaf_fault_only account label edition tree name (Ok false) named only = inr (inl named)
leaf_fault_only account label edition tree name (Err shares.Failed) named only = tt
leaf_fault_only account label edition tree name (Err (shares.TreeLost host chip)) named only = tt
leaf_fault_only account label edition tree name (Err (shares.Damaged other)) named only = inr (inr only)
leaf_fault_only account label edition tree name (Err shares.NoMemory) named only = absurd only
