-- An edit that inserts a leaf, and then tries changes that the leaf's label gives.
use Rattle.std.proofs.Common.{◌≡◌, ℕ, List, [], ◌∷◌, None, Bool, false, refl, sym, ap, ◌∙◌, subst, inl, inr, ⊎_elim}
use Rattle.std.specs.Prelude.{is_some}
use Rattle.std.specs.FinMap.{get}
use Rattle.account_machine.specs.declared.user.Durable.{Durable}
use Rattle.share_api.specs.Contents.{Bytes, Contents}
use Rattle.share_api.specs.Folds.{Fold, Throughout}
use Rattle.share_api.specs.Seen.{ShareSeen, Makes, Tries, step_of}
use Rattle.share_api.specs.Steps.{Does, Leads, Follows, after, with_leaf, doubted, leaf_of}
use Rattle.share_api.specs.declared.leaf.Leaf.{Leaf}
use Rattle.share_api.specs.declared.leaf.NewLeaf.{NewLeaf}
use Rattle.share_api.specs.declared.step.Op.TheVariants.{InsertLeaf}
use Rattle.share_api.specs.declared.step.Reply.{Reply}
use Rattle.share_api.specs.declared.step.Reply.TheVariants.{Labelled, Failed}
use Rattle.share_api.specs.declared.step.Step.{Step}
use Rattle.share_api.specs.declared.step.Write.{Write}
use Rattle.share_api.proofs.RunLaws.{runs_one, runs_then}
use Rattle.share_api.proofs.StepLaws.{settled_same, same_label, after_all}
use Rattle.share_api.proofs.TryLaws.{failed_not_all}
use Rattle.stored_home.specs.Adding.{HoldsEither}
use Rattle.stored_home.specs.Holds.{Keys, HoldsStash, HoldsUnder}
use Rattle.stored_home.specs.Loaded.{IsKept}
use Rattle.stored_home.specs.declared.stored.Stored.{Stored}
use Rattle.stored_home.proofs.ChangeLemmas.{doubted_settled}
use Rattle.home_edits.specs.Edits.{Starts, Edits}
use Rattle.pin_edits.proofs.OneStep.{Steps}

-- a leaf in doubt counts as taken away
doubted_held : (account : Bytes) (keys : Keys) (contents : Contents) (durable : Durable) (tree : ℕ) (leaf : Leaf)
    → contents.doubt ≡ None → get contents.leaves tree ≡ None
    → HoldsUnder false contents account durable keys
    → HoldsUnder false (doubted contents tree leaf) account durable keys
doubted_held account keys contents durable tree leaf clear free h = record {
  stash = h.stash;
  there = h.there;
  holds = subst (λ c. HoldsStash false c account durable keys h.stash)
      (sym (doubted_settled contents tree leaf clear free)) h.holds;
}

module _ (old : ShareSeen) (moment : ℕ) (leaf : NewLeaf) where
  abbrev asked : Reply → Step
  asked reply = step_of old moment (InsertLeaf leaf) reply

  -- the step from contents in which no leaf is in doubt
  plainly : (reply : Reply) (contents mid : Contents) → contents.doubt ≡ None
      → Does old.era contents (asked reply) mid → Leads old.era moment (InsertLeaf leaf) reply contents mid
  plainly reply contents mid clear does =
      subst (λ c. Leads old.era moment (InsertLeaf leaf) reply c mid) (settled_same contents clear) does

  -- an insert that failed leaves what was held
  pub insert_failed : (account : Bytes) (stored : Stored) (ok : Type 0)
      (Asks : Contents → Keys → Durable → Durable → Type 0) → (ok → ⊥) → Steps old account stored (asked Failed) ok Asks
  insert_failed account stored ok Asks none = record {
    either = λ contents mid keys before next starts does. ⊎_elim
        (λ e. inl (subst (λ c. HoldsUnder false c account before keys) (sym e) starts.holds))
        (λ w. inl (subst (λ c. HoldsUnder false c account before keys) (sym w.2)
        (doubted_held account keys contents before w.0 (leaf_of leaf) starts.kept.clear w.1 starts.holds)))
        (plainly Failed contents mid starts.kept.clear does);
    last = λ o. absurd (none o);
  }

  -- one that was done leads to the contents with the leaf, at a label that was free
  pub insert_leads : (tree : ℕ) (contents mid : Contents) → contents.doubt ≡ None
      → Does old.era contents (asked (Labelled tree)) mid
      → (get contents.leaves tree ≡ None) × (mid ≡ with_leaf contents tree (leaf_of leaf))
  insert_leads tree contents mid clear does =
      let l = plainly (Labelled tree) contents mid clear does in
      let same : tree ≡ l.0 = same_label tree l.0 l.2 in (
        ap (get contents.leaves) same ∙ l.1,
        l.3 ∙ ap (λ (n : ℕ). with_leaf contents n (leaf_of leaf)) (sym same),
      )

-- What an edit needs of the changes after an insert: whichever of them failed, the durable part before or the one after
-- is held throughout; once they are made the one after is, and it is loaded.
pub record SuitsLeaf (old : ShareSeen) (account : Bytes) (stored later : Stored) (leaf : NewLeaf) (tree : ℕ)
    (writes : List Write) (ok : Type 0) (Asks : Contents → Keys → Durable → Durable → Type 0) : Type 0 where
  pub throughout : (contents : Contents) (keys : Keys) (before next : Durable) (steps : List Step)
      → Starts false account stored Asks contents keys before next
      → get contents.leaves tree ≡ None → Follows writes steps
      → Throughout (Does old.era) (HoldsEither false account keys before next)
      (with_leaf contents tree (leaf_of leaf)) steps
  pub last : ok → (contents : Contents) (keys : Keys) (before next : Durable)
      → Starts false account stored Asks contents keys before next
      → get contents.leaves tree ≡ None
      → HoldsUnder false (after writes (with_leaf contents tree (leaf_of leaf))) account next keys
      × IsKept false (after writes (with_leaf contents tree (leaf_of leaf))) account later

-- an edit that inserted the leaf and then tried the changes
pub edits_inserted : (old mid new : ShareSeen) (account : Bytes) (stored later : Stored) (ok failed went err : Type 0)
    (Asks : Contents → Keys → Durable → Durable → Type 0) (moment : ℕ) (leaf : NewLeaf) (tree : ℕ)
    (writes : List Write)
    → is_some old.lost ≡ false → Makes old mid (step_of old moment (InsertLeaf leaf) (Labelled tree))
    → Tries mid new writes went err → (ok → went) → (failed → err)
    → SuitsLeaf old account stored later leaf tree writes ok Asks
    → Edits old new account stored later ok failed Asks
edits_inserted old mid new account stored later ok failed went err Asks moment leaf tree writes found makes tried goes
    fails suits = record {
      steps = step_of old moment (InsertLeaf leaf) (Labelled tree) ∷ tried.steps;
      runs = runs_then old mid new (step_of old moment (InsertLeaf leaf) (Labelled tree) ∷ []) tried.steps (runs_one old mid (step_of old moment (InsertLeaf leaf) (Labelled tree)) makes) tried.runs;
      fails = λ f. inr (tried.fails (fails f));
      done = λ o has. ⊎_elim not_failed (λ more. failed_not_all writes tried.steps more (tried.all (goes o))) has;
      made = λ o none. cc none;
      atomic = λ contents keys before next starts.
          let begun = at_false contents keys before next starts in
          record {
            throughout = (
              inl starts.holds,
              λ c does. subst (λ (lost : Bool). Throughout (Does old.era) (HoldsEither lost account keys before next) c
                  tried.steps) (sym found)
                  (let l = insert_leads old moment leaf tree contents c starts.kept.clear does in
                  subst (λ c. Throughout (Does old.era) (HoldsEither false account keys before next) c tried.steps)
                  (sym l.1) (suits.throughout contents keys before next tried.steps begun l.0 tried.follows)),
            );
            last = λ o end fold. subst (λ (lost : Bool). HoldsUnder lost end account next keys) (sym found)
                (subst (λ c. HoldsUnder false c account next keys) (sym (ended o contents keys before next begun end fold).1)
                (suits.last o contents keys before next begun (ended o contents keys before next begun end fold).0).0);
          };
      loaded = λ o contents keys before next starts end fold.
          let begun = at_false contents keys before next starts in
          subst (λ (lost : Bool). IsKept lost end account later) (sym found)
          (subst (λ c. IsKept false c account later) (sym (ended o contents keys before next begun end fold).1)
          (suits.last o contents keys before next begun (ended o contents keys before next begun end fold).0).1);
    }
  where
    not_failed : ◌≡◌ {A = Reply} (Labelled tree) Failed → ⊥
    not_failed e = cc e

    at_false : (contents : Contents) (keys : Keys) (before next : Durable)
        → Starts (is_some old.lost) account stored Asks contents keys before next
        → Starts false account stored Asks contents keys before next
    at_false contents keys before next starts =
        subst (λ (lost : Bool). Starts lost account stored Asks contents keys before next) found starts

    ended : ok → (contents : Contents) (keys : Keys) (before next : Durable)
        → Starts false account stored Asks contents keys before next → (end : Contents)
        → Fold (Does old.era) contents (step_of old moment (InsertLeaf leaf) (Labelled tree) ∷ tried.steps) end
        → (get contents.leaves tree ≡ None)
        × (end ≡ after writes (with_leaf contents tree (leaf_of leaf)))
    ended o contents keys before next starts end fold =
        let l = insert_leads old moment leaf tree contents fold.0 starts.kept.clear fold.1 in (
          l.0,
          after_all old.era (with_leaf contents tree (leaf_of leaf)) end writes tried.steps starts.kept.clear
              (tried.all (goes o)) (subst (λ c. Fold (Does old.era) c tried.steps end) l.1 fold.2),
        )

-- its steps are the insert and those that were tried
pub inserted_steps : (old mid new : ShareSeen) (account : Bytes) (stored later : Stored) (ok failed went err : Type 0)
    (Asks : Contents → Keys → Durable → Durable → Type 0) (moment : ℕ) (leaf : NewLeaf) (tree : ℕ)
    (writes : List Write)
    → (found : is_some old.lost ≡ false)
    → (makes : Makes old mid (step_of old moment (InsertLeaf leaf) (Labelled tree)))
    → (tried : Tries mid new writes went err) → (goes : ok → went) → (fails : failed → err)
    → (suits : SuitsLeaf old account stored later leaf tree writes ok Asks)
    → (edits_inserted old mid new account stored later ok failed went err Asks moment leaf tree writes found makes tried
    goes fails suits).steps ≡ step_of old moment (InsertLeaf leaf) (Labelled tree) ∷ tried.steps
unfolding edits_inserted
inserted_steps old mid new account stored later ok failed went err Asks moment leaf tree writes found makes tried goes
    fails suits = refl
