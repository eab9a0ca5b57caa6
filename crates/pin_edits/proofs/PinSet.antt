-- An edit that sets a PIN, whichever way it ended.
use Rattle.std.proofs.Common.{◌≡◌, ℕ, List, [], ◌∷◌, Option, None, Some, Result, Err, IsOk, IsErr, OnOk, Bool, false, refl, sym, ap, ◌∙◌, subst, inr, ⊎_elim, true≢false}
use Rattle.std.specs.Prelude.{IsTrue, is_some}
use Rattle.std.specs.FinMap.{insert}
use Rattle.account_machine.specs.declared.user.Durable.{Durable}
use Rattle.factor_files.specs.declared.factor.FactorRecord.{FactorRecord}
use Rattle.record_names.specs.Names.{is_account_name, is_factor_label, stash_name, factor_name}
use Rattle.share_api.specs.Contents.{Bytes, Contents, Leaves}
use Rattle.share_api.specs.Folds.{Fold, Throughout}
use Rattle.share_api.specs.Seen.{ShareSeen, Makes, Tries, step_of}
use Rattle.share_api.specs.Steps.{Does, with_leaf, leaf_of}
use Rattle.share_api.specs.declared.leaf.NewLeaf.{NewLeaf}
use Rattle.share_api.specs.declared.step.Op.TheVariants.{InsertLeaf}
use Rattle.share_api.specs.declared.step.Reply.{Reply}
use Rattle.share_api.specs.declared.step.Reply.TheVariants.{Labelled, Failed}
use Rattle.share_api.specs.declared.step.Step.{Step}
use Rattle.share_api.specs.declared.step.Write.{Write}
use Rattle.share_api.specs.declared.step.Write.TheVariants.{Put, Remove, RemoveLeaf}
use Rattle.share_api.proofs.RunLaws.{runs_one, runs_then}
use Rattle.share_api.proofs.StepLaws.{after_all}
use Rattle.share_api.proofs.TryLaws.{failed_not_all}
use Rattle.stash_format.specs.declared.contents.Contents.{Contents as Stash}
use Rattle.stored_home.specs.Holds.{Keys, HoldsUnder}
use Rattle.stored_home.specs.declared.fault.StoreFault.{StoreFault}
use Rattle.stored_home.specs.declared.fault.StoreFault.TheVariants as faults
use Rattle.stored_home.specs.declared.stored.Stored.{Stored}
use Rattle.stored_home.proofs.MapLemmas.{not_None}
use Rattle.stored_home.proofs.LeafLemmas.{leaf_undone}
use Rattle.home_edits.specs.Edits.{Starts}
use Rattle.home_edits.specs.Passwords.{TakesFactor}
use Rattle.home_edits.proofs.Edited.{edits_none, ok_gives}
use Rattle.pin_edits.specs.Pins.{pin_leaf, pin_row, IsOldPin, IsTakenLeaf, IsPinStash, SetsPin, PutsPin, EditsPin, ComesToNothing}
use Rattle.pin_edits.specs.Refusals.{ChangesNothing}
use Rattle.pin_edits.specs.Writes.{IsRowWrite, IsStashWrite, rest_of}
use Rattle.pin_edits.specs.declared.pin_stash.NewPin.{NewPin}
use Rattle.pin_edits.proofs.Inserted.{SuitsLeaf, insert_failed, insert_leads, edits_inserted, inserted_steps}
use Rattle.pin_edits.proofs.NamedFaults.{failed_not_damaged}
use Rattle.pin_edits.proofs.PinCounted.{pin_held}
use Rattle.pin_edits.proofs.OneStep.{edits_one, nothing_made}
use Rattle.pin_edits.proofs.PinAdded.{add_suits, update_suits, back_held, back_suits}

-- it made no step
pub no_set : (old : ShareSeen) (account : Bytes) (stored : Stored) (result : Result Unit StoreFault)
    (Asks : Contents → Keys → Durable → Durable → Type 0) → (IsOk result → ⊥) → (result ≡ Err faults.Failed → ⊥)
    → ((name : Bytes) → result ≡ Err (faults.Damaged name) → name ≡ stash_name account)
    → EditsPin old old account stored stored result Asks
no_set old account stored result Asks none calm stash =
    let edits = edits_none old account stored stored (IsOk result) (result ≡ Err faults.Failed) Asks none calm in
    record {
      edits = edits;
      refused = λ e not. nothing_made old account stored stored (IsOk result) (result ≡ Err faults.Failed) Asks edits;
      damaged = λ name is contents end keys before next starts fold. stash name is;
    }

-- the insert failed
pub failed_set : (old new : ShareSeen) (account : Bytes) (stored : Stored) (result : Result Unit StoreFault)
    (Asks : Contents → Keys → Durable → Durable → Type 0) (moment : ℕ) (leaf : NewLeaf) → is_some old.lost ≡ false
    → Makes old new (step_of old moment (InsertLeaf leaf) Failed) → result ≡ Err faults.Failed
    → EditsPin old new account stored stored result Asks
failed_set old new account stored result Asks moment leaf found makes is =
    let none : IsOk result → ⊥ = λ o. true≢false (sym (subst IsOk is o)) in
    record {
      edits = edits_one old new account stored (IsOk result) (result ≡ Err faults.Failed) Asks
          (step_of old moment (InsertLeaf leaf) Failed) found makes (λ f. refl) (λ o e. none o)
          (insert_failed old moment leaf account stored (IsOk result) Asks none);
      refused = λ e not. absurd (not is);
      damaged = λ name damaged. absurd (failed_not_damaged result (λ e. is) name damaged);
    }

module _ (old mid new : ShareSeen) (account : Bytes) (stored later : Stored) (result : Result Unit StoreFault)
    (moment : ℕ) (label : Bytes) (pin : NewPin) (main : Bytes) (tree : ℕ) (found : is_some old.lost ≡ false)
    (makes : Makes old mid (step_of old moment (InsertLeaf (pin_leaf pin)) (Labelled tree))) where
  abbrev Asks : Contents → Keys → Durable → Durable → Type 0
  Asks = SetsPin label pin main

  abbrev insert_step : Step
  insert_step = step_of old moment (InsertLeaf (pin_leaf pin)) (Labelled tree)

  -- the insert was answered well
  insert_done : insert_step.reply ≡ Failed → ⊥
  insert_done e = let k : ◌≡◌ {A = Reply} (Labelled tree) Failed = e in cc k

  -- in contents that hold the durable part, a new leaf is named by no loaded record
  not_taken : (contents mid : Contents) (keys : Keys) (before next : Durable)
      → Starts (is_some old.lost) account stored Asks contents keys before next
      → Does old.era contents insert_step mid → IsTakenLeaf stored.factors tree → ⊥
  not_taken contents mid keys before next starts does taken =
      let begun = subst (λ (lost : Bool). Starts lost account stored Asks contents keys before next) found starts in
      let h = pin_held account stored taken.0 taken.1.row taken.1.there tree taken.1.names contents keys before
      begun.holds begun.kept in
      let l = insert_leads old moment (pin_leaf pin) tree contents mid starts.kept.clear does in
      not_None h.pin.leaf (sym h.pin.found ∙ l.0)

  -- an insert that was taken back changes nothing
  back_refused : (tried : Tries mid new (RemoveLeaf tree ∷ []) (result ≡ Err faults.Failed → ⊥)
      (result ≡ Err faults.Failed)) → (result ≡ Err faults.Failed → ⊥)
      → ChangesNothing old account stored Asks (insert_step ∷ tried.steps)
  back_refused tried not = record {
    quiet = λ has. ⊎_elim insert_done
        (λ more. failed_not_all (RemoveLeaf tree ∷ []) tried.steps more (tried.all not)) has;
    held = λ contents keys before next starts. (
      starts.holds,
      λ c does.
          let l = insert_leads old moment (pin_leaf pin) tree contents c starts.kept.clear does in
          subst (λ (t : Bool × Contents). Throughout (Does old.era) (λ x. HoldsUnder t.0 x account before keys) t.1
          tried.steps)
          (λ i. (sym found i, sym l.1 i))
          (back_held old.era account contents keys before tree (leaf_of (pin_leaf pin)) tried.steps starts.kept.clear
          l.0 (subst (λ (lost : Bool). HoldsUnder lost contents account before keys) found starts.holds)
          tried.follows),
    );
    same = λ contents end clear fold.
        let l = insert_leads old moment (pin_leaf pin) tree contents fold.0 clear fold.1 in
        after_all old.era (with_leaf contents tree (leaf_of (pin_leaf pin))) end (RemoveLeaf tree ∷ []) tried.steps clear
        (tried.all not) (subst (λ c. Fold (Does old.era) c tried.steps end) l.1 fold.2)
        ∙ ap (λ (m : Leaves). record contents { leaves = m })
        (leaf_undone contents.leaves tree (leaf_of (pin_leaf pin)) l.0);
  }

  -- the leaf was removed again
  back_set : (IsOk result → ⊥)
      → Tries mid new (RemoveLeaf tree ∷ []) (result ≡ Err faults.Failed → ⊥) (result ≡ Err faults.Failed)
      → ((name : Bytes) → result ≡ Err (faults.Damaged name) → IsTakenLeaf stored.factors tree)
      → EditsPin old new account stored later result Asks
  back_set none tried taken =
      let goes : IsOk result → result ≡ Err faults.Failed → ⊥ = λ o. absurd (none o) in
      let fails : result ≡ Err faults.Failed → result ≡ Err faults.Failed = λ f. f in
      let suits = back_suits old account stored later label pin main tree (IsOk result) none in
      let edits = edits_inserted old mid new account stored later (IsOk result) (result ≡ Err faults.Failed)
      (result ≡ Err faults.Failed → ⊥) (result ≡ Err faults.Failed) Asks moment (pin_leaf pin) tree
      (RemoveLeaf tree ∷ []) found makes tried goes fails suits in
      let steps : edits.steps ≡ step_of old moment (InsertLeaf (pin_leaf pin)) (Labelled tree) ∷ tried.steps =
      inserted_steps old mid new account stored later (IsOk result) (result ≡ Err faults.Failed)
      (result ≡ Err faults.Failed → ⊥) (result ≡ Err faults.Failed) Asks moment (pin_leaf pin) tree
      (RemoveLeaf tree ∷ []) found makes tried goes fails suits in
      record {
        edits = edits;
        refused = λ e not. subst (ChangesNothing old account stored Asks) (sym steps) (back_refused tried not);
        damaged = λ name is contents end keys before next starts fold.
            let f : Fold (Does old.era) contents
            (step_of old moment (InsertLeaf (pin_leaf pin)) (Labelled tree) ∷ tried.steps) end =
            subst (λ (s : List Step). Fold (Does old.era) contents s end) steps fold in
            absurd (not_taken contents f.0 keys before next starts f.1 (taken name is));
      }

  -- the changes were tried
  put_set : (writes : List Write) → (IsErr result → result ≡ Err faults.Failed)
      → Tries mid new writes (IsOk result) (result ≡ Err faults.Failed)
      → SuitsLeaf old account stored later (pin_leaf pin) tree writes (IsOk result) Asks
      → EditsPin old new account stored later result Asks
  put_set writes failed tried suits = record {
    edits = edits_inserted old mid new account stored later (IsOk result) (result ≡ Err faults.Failed) (IsOk result)
        (result ≡ Err faults.Failed) Asks moment (pin_leaf pin) tree writes found makes tried (λ o. o) (λ f. f) suits;
    refused = λ e not. absurd (not (failed e));
    damaged = λ name damaged. absurd (failed_not_damaged result failed name damaged);
  }

  module _ (stash : Stash) (iv : Bytes) (later_stash : Stash) (stash_put : Write)
      (plain : IsTrue (is_account_name account)) (is : stored.stash ≡ Some stash)
      (labelled : IsTrue (is_factor_label label)) (takes : TakesFactor label stash)
      (made : IsPinStash stash label pin main iv later_stash) (are : IsStashWrite account later_stash stash_put)
      (is_later : OnOk result (later ≡ record stored {
        stash = Some later_stash;
        factors = insert stored.factors label (pin_row label stash.next pin.derived tree);
      })) where
    abbrev row : FactorRecord
    row = pin_row label stash.next pin.derived tree

    later_is : IsOk result → later ≡ record stored {
      stash = Some later_stash;
      factors = insert stored.factors label row;
    }
    later_is = ok_gives result (later ≡ record stored {
      stash = Some later_stash;
      factors = insert stored.factors label row;
    }) is_later

    -- the record and the stash were tried, and the removals of what the label had
    named_set : (had : Option (Write × Write)) → IsOldPin account stored.factors label had → (write : Write)
        → IsRowWrite account row write → (IsErr result → result ≡ Err faults.Failed)
        → Tries mid new (write ∷ stash_put ∷ rest_of had) (IsOk result) (result ≡ Err faults.Failed)
        → EditsPin old new account stored later result Asks
    named_set None absent write its failed tried =
        put_set (Put (factor_name account label stash.next) its.bytes ∷ Put (stash_name account) are.bytes ∷ []) failed
        (subst (λ (t : Write × Write). Tries mid new (t.0 ∷ t.1 ∷ []) (IsOk result) (result ≡ Err faults.Failed))
        (λ i. (its.write_is i, are.write_is i)) tried)
        (add_suits account plain stored stash is label labelled takes pin main iv later_stash made tree its.bytes
        are.bytes its.read are.read old (IsOk result) later absent later_is)
    named_set (Some gone) o write its failed tried =
        put_set (Put (factor_name account label stash.next) its.bytes ∷ Put (stash_name account) are.bytes
        ∷ RemoveLeaf o.1 ∷ Remove (factor_name account label o.0.edition) ∷ []) failed
        (subst (λ (t : Write × Write × Write × Write). Tries mid new (t.0 ∷ t.1 ∷ t.2 ∷ t.3 ∷ []) (IsOk result)
        (result ≡ Err faults.Failed))
        (λ i. (its.write_is i, are.write_is i, o.4 i, o.5 i)) tried)
        (update_suits account plain stored stash is label labelled takes pin main iv later_stash made tree its.bytes
        are.bytes its.read are.read old (IsOk result) later o.0 o.2 o.1 o.3 later_is)

    -- an edit that sets a PIN, once the leaf is inserted
    pub pin_set : (had : Option (Write × Write)) → IsOldPin account stored.factors label had
        → PutsPin mid new account row tree stash_put had result
        → ((name : Bytes) → result ≡ Err (faults.Damaged name) → IsTakenLeaf stored.factors tree)
        → EditsPin old new account stored later result (SetsPin label pin main)
    pin_set had o puts taken = ⊎_elim (λ w. named_set had o w.0 w.1 w.2 w.3) (λ w. back_set w.0 w.1 taken) puts

-- a refusal leaves no step, or an insert that was taken back
pub pin_calm : (old mid new : ShareSeen) (account : Bytes) (new_row : FactorRecord) (moment tree : ℕ) (leaf : NewLeaf)
    (stash_put : Write) (had : Option (Write × Write)) (result : Result Unit StoreFault)
    → Makes old mid (step_of old moment (InsertLeaf leaf) (Labelled tree))
    → PutsPin mid new account new_row tree stash_put had result → IsErr result → (result ≡ Err faults.Failed → ⊥)
    → ComesToNothing old new
pin_calm old mid new account new_row moment tree leaf stash_put had result makes puts is_err not = ⊎_elim
    (λ w. absurd (not (w.2 is_err)))
    (λ w. inr (
      leaf,
      tree,
      moment,
      w.1.steps,
      runs_then old mid new (step_of old moment (InsertLeaf leaf) (Labelled tree) ∷ []) w.1.steps
          (runs_one old mid (step_of old moment (InsertLeaf leaf) (Labelled tree)) makes) w.1.runs,
      w.1.all not,
    ))
    puts
