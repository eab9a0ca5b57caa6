-- A leaf is looked at, and then at most one step is made.
use Rattle.std.proofs.Common.{◌≡◌, ◌≢◌, ℕ, ◌≤◌, List, [], ◌∷◌, ◌++◌, length, Option, None, Some, Result, Ok, Err, IsOk, Bool, refl, sym, ap, ◌∙◌, subst, inl, inr, ⊎_elim, is_some, true≢false, arith}
use Rattle.std.specs.Prelude.{IfErr, IsErrOf, IsSomeAnd, option_map}
use Rattle.std.specs.FinMap.{get}
use Rattle.account_machine.specs.declared.answer.Answer.{Answer}
use Rattle.account_machine.specs.declared.answer.Answer.TheVariants as answers
use Rattle.account_machine.specs.declared.request.Turn.{Turn}
use Rattle.account_machine.specs.declared.user.Durable.{Durable}
use Rattle.account_machine.specs.declared.user.User.{User}
use Rattle.account_machine.specs.Step.{Given, IsStandIn, MayFail, stands_in}
use Rattle.pw_types.specs.declared.era.Era.{Era}
use Rattle.record_names.specs.Names.{leaf_name}
use Rattle.share_api.specs.Conditions.{IsLeafFault, TellsLoss}
use Rattle.share_api.specs.Contents.{Bytes, Contents}
use Rattle.share_api.specs.Folds.{Fold, Throughout}
use Rattle.share_api.specs.Places.{steps_of}
use Rattle.share_api.specs.Replies.{view_reply}
use Rattle.share_api.specs.Seen.{ShareSeen, Makes, Runs, HasFailed, step_of}
use Rattle.share_api.specs.Steps.{Does, view_of}
use Rattle.share_api.specs.declared.fault.ShareFault.{ShareFault}
use Rattle.share_api.specs.declared.fault.ShareFault.TheVariants as shares
use Rattle.share_api.specs.declared.leaf.Leaf.{Leaf}
use Rattle.share_api.specs.declared.leaf.LeafView.{LeafView}
use Rattle.share_api.specs.declared.step.Op.TheVariants.{LookLeaf}
use Rattle.share_api.specs.declared.step.Reply.{Reply}
use Rattle.share_api.specs.declared.step.Reply.TheVariants.{Viewed, Failed, TreeLost}
use Rattle.share_api.specs.declared.step.Step.{Step}
use Rattle.share_api.proofs.FoldLaws.{fold_split, throughout_append, throughout_among, fold_among}
use Rattle.share_api.proofs.RunLaws.{runs_one, runs_then}
use Rattle.home_edits.proofs.CostLemmas.{same_rest}
use Rattle.home_recovery.proofs.ReadLemmas.{reads_stay, reads_keep}
use Rattle.stored_home.specs.Holds.{Keys, Holds, HoldsUnder}
use Rattle.stored_home.specs.declared.fault.StoreFault.{StoreFault}
use Rattle.stored_home.specs.declared.fault.StoreFault.TheVariants as faults
use Rattle.stored_home.proofs.MapLemmas.{not_None}
use Rattle.user_state.specs.Fits.{Fits, HoldsOne, HoldsOneUnder, is_lost}
use Rattle.user_state.specs.Turns.{IsGiven, Premises, Leads, HoldsAround, KeepsAccount, secret_of}
use Rattle.user_state.specs.declared.state.UserState.{UserState}
use Rattle.turn_rows.specs.Due.{IsReady}
use Rattle.turn_rows.proofs.Quiet.{settled_now}
use Rattle.turn_secrets.specs.Listing.{Looks}
use Rattle.turn_secrets.proofs.Looking.{looks_one}
use Rattle.turn_edits.specs.Endings.{MadeFailed}
use Rattle.turn_edits.proofs.EndingLemmas.{none_failed}
use Rattle.turn_pins.specs.Looking.{view_told, TellsView, IsLookFault}
use Rattle.turn_pins.specs.Setting.{IsRenewFault}

-- ---- a look

same_view : (a b : Option LeafView) → ◌≡◌ {A = Reply} (Viewed a) (Viewed b) → a ≡ b
same_view a b same = cc

none_seen : (x : Option Leaf) → ◌≡◌ {A = Option LeafView} None (option_map view_of x) → x ≡ None
none_seen None e = refl
none_seen (Some leaf) e = absurd (not_None (view_of leaf) (sym e))

-- what a look tells, by its answer
pub view_looks : (old new : ShareSeen) (account : Bytes) (tree : ℕ) (r : Result (Option LeafView) ShareFault)
    → Makes old new (step_of old 0 (LookLeaf tree) (view_reply r)) → IfErr r IsLeafFault
    → Looks old new (IsErrOf (view_told account tree r) faults.Failed) 1
    (TellsView account tree (view_told account tree r))
view_looks old new account tree (Ok (Some view)) made only =
    looks_one old new tree (Viewed (Some view)) _ (TellsView account tree (Ok view)) made
    (λ f. let z : ◌≡◌ {A = Result LeafView StoreFault} (Ok view) (Err faults.Failed) = f in absurd (cc z))
    (λ c l. same_view (Some view) (option_map view_of (get c.leaves tree)) l.0)
view_looks old new account tree (Ok None) made only =
    looks_one old new tree (Viewed None) _ (TellsView account tree (Err (faults.Damaged (leaf_name account tree)))) made
    (λ f. let z : ◌≡◌ {A = Result LeafView StoreFault} (Err (faults.Damaged (leaf_name account tree)))
    (Err faults.Failed) = f in absurd (cc z))
    (λ c l. (refl, none_seen (get c.leaves tree) (same_view None (option_map view_of (get c.leaves tree)) l.0)))
view_looks old new account tree (Err shares.Failed) made only =
    looks_one old new tree Failed _ (TellsView account tree (Err faults.Failed)) made (λ f. refl) (λ c l. tt)
view_looks old new account tree (Err (shares.TreeLost host chip)) made only =
    looks_one old new tree TreeLost _ (TellsView account tree (Err (faults.TreeLost host chip))) made
    (λ f. let z : ◌≡◌ {A = Result LeafView StoreFault} (Err (faults.TreeLost host chip)) (Err faults.Failed) = f in
    absurd (cc z)) (λ c l. tt)
view_looks old new account tree (Err (shares.Damaged name)) made only = absurd only
view_looks old new account tree (Err shares.NoMemory) made only = absurd only

-- and of which fault it may be, where the tree isn't lost
pub view_only : (account : Bytes) (tree : ℕ) (r : Result (Option LeafView) ShareFault) (lost : Option (Bytes × Bytes))
    → IfErr r IsLeafFault → TellsLoss lost r → lost ≡ None → IfErr (view_told account tree r) IsLookFault
view_only account tree (Ok (Some view)) lost only tells whole = tt
view_only account tree (Ok None) lost only tells whole = tt
view_only account tree (Err shares.Failed) lost only tells whole = tt
view_only account tree (Err (shares.TreeLost host chip)) lost only tells whole =
    subst (λ roots. TellsLoss {A = Option LeafView} roots (Err (shares.TreeLost host chip))) whole tells host chip refl
view_only account tree (Err (shares.Damaged name)) lost only tells whole = absurd only
view_only account tree (Err shares.NoMemory) lost only tells whole = absurd only

-- the one record that it finds damaged is the leaf's
pub view_named : (account : Bytes) (tree : ℕ) (r : Result (Option LeafView) ShareFault) (lost : Option (Bytes × Bytes))
    → IfErr r IsLeafFault → TellsLoss lost r → lost ≡ None → IfErr (view_told account tree r) (IsRenewFault account tree)
view_named account tree (Ok (Some view)) lost only tells whole = tt
view_named account tree (Ok None) lost only tells whole = refl
view_named account tree (Err shares.Failed) lost only tells whole = tt
view_named account tree (Err (shares.TreeLost host chip)) lost only tells whole =
    subst (λ roots. TellsLoss {A = Option LeafView} roots (Err (shares.TreeLost host chip))) whole tells host chip refl
view_named account tree (Err (shares.Damaged name)) lost only tells whole = absurd only
view_named account tree (Err shares.NoMemory) lost only tells whole = absurd only

-- a look that shows something didn't fail
pub view_quiet : (old new : ShareSeen) (account : Bytes) (tree : ℕ) (r : Result (Option LeafView) ShareFault)
    → Makes old new (step_of old 0 (LookLeaf tree) (view_reply r)) → IsOk (view_told account tree r)
    → MadeFailed old new → ⊥
view_quiet old new account tree (Ok (Some view)) made ok =
    none_failed old new (step_of old 0 (LookLeaf tree) (Viewed (Some view)) ∷ [])
    (runs_one old new (step_of old 0 (LookLeaf tree) (Viewed (Some view))) made)
    (λ has. ⊎_elim (λ e. let z : ◌≡◌ {A = Reply} (Viewed (Some view)) Failed = e in cc z) absurd has)
view_quiet old new account tree (Ok None) made ok = absurd (true≢false (sym ok))
view_quiet old new account tree (Err fault) made ok = absurd (true≢false (sym ok))

-- ---- one step

-- a run in which this step alone was made
pub only_step : (old new : ShareSeen) (steps : List Step) (step : Step) → Runs old new steps → Makes old new step
    → steps ≡ step ∷ []
only_step old new steps step runs makes =
    let own : runs.own ≡ (makes.at, step) ∷ [] =
    same_rest old.own runs.own ((makes.at, step) ∷ []) (sym runs.own_is ∙ makes.own) in
    sym runs.steps_are ∙ ap (λ (o : List (ℕ × Step)). steps_of o) own

-- what holds before and after at most one step holds throughout
few_throughout : (era : Era) (P : Contents → Type 0) (c : Contents) (steps : List Step) → length steps ≤ 1 → P c
    → ((end : Contents) → Fold (Does era) c steps end → P end) → Throughout (Does era) P c steps
few_throughout era P c [] few h k = h
few_throughout era P c (step ∷ []) few h k = (h, λ mid does. k mid (mid, does, refl))
few_throughout era P c (step ∷ other ∷ steps) few h k = absurd (omega (arith, few))

-- steps before no steps
pub append_none : (xs ys : List Step) → xs ++ ys ≡ [] → ys ≡ []
append_none [] ys e = e
append_none (x ∷ xs) ys e = absurd (cc e)

one_held : (lost : Bool) (c : Contents) (account : Bytes) (user : User) (keys : Keys)
    → HoldsOneUnder lost c account user keys → HoldsOne lost c account user
one_held lost c account user keys h = ⊎_elim (λ k. inl (keys, k)) (λ k. inr (by user.other k)) h
  where
    by : (o : Option Durable) → IsSomeAnd o (λ other. HoldsUnder lost c account other keys)
        → IsSomeAnd o (Holds lost c account)
    by None k = absurd k
    by (Some other) k = (keys, k)

-- ---- the turn

module _ (old mid new : ShareSeen) (before : UserState) (ready : IsReady before) (turn : Turn) (failed : Type 0)
    (most : ℕ) (P : Contents → Type 0) (l : Looks old mid failed most P) (steps : List Step)
    (runs : Runs mid new steps) (few : length steps ≤ 1) where
  -- A turn that looks and then makes at most one step, by what that leads to.
  pub looked_given : (answer : Answer) (after : UserState)
      → (answer ≡ answers.StorageFault → HasFailed (l.steps ++ steps)) → KeepsAccount before after
      → ((seen : List Contents) (contents : Contents) (user : User) (keys : Keys)
      → Premises seen contents before (secret_of turn) user keys → P contents → (end : Contents)
      → Fold (Does old.era) contents steps end
      → Leads before.account (Given old.era user turn answer) after (l.steps ++ steps) user end)
      → IsGiven old new before after turn answer
  looked_given answer after fault keeps led = record {
    steps = l.steps ++ steps;
    runs = runs_then old mid new l.steps steps l.runs runs;
    fault = fault;
    keeps = keeps;
    right = λ seen contents user keys p.
        let clear : contents.doubt ≡ None = (settled_now before ready contents user keys p.fits).kept.clear in
        let stays : (c : Contents) → Fold (Does old.era) contents l.steps c → c ≡ contents =
        λ c f. reads_stay old.era contents c l.steps clear l.reads f in
        let at_end : (c : Contents) → Fold (Does old.era) contents l.steps c → (end : Contents)
        → Fold (Does old.era) c steps end
        → Leads before.account (Given old.era user turn answer) after (l.steps ++ steps) user end =
        λ c f end g. led seen contents user keys p
        (l.tells contents clear (subst (λ x. Fold (Does old.era) contents l.steps x) (stays c f) f)) end
        (subst (λ x. Fold (Does old.era) x steps end) (stays c f) g) in
        record {
          throughout = throughout_among old.era seen
              (HoldsAround (is_lost before) before.account user.durable (Given old.era user turn answer)) contents
              (l.steps ++ steps)
              (throughout_append (Does old.era)
              (HoldsAround (is_lost before) before.account user.durable (Given old.era user turn answer)) contents
              l.steps steps
              (reads_keep old.era
              (HoldsAround (is_lost before) before.account user.durable (Given old.era user turn answer)) contents
              l.steps clear l.reads (inl (keys, p.holds)))
              (λ c f. few_throughout old.era
              (HoldsAround (is_lost before) before.account user.durable (Given old.era user turn answer)) c steps few
              (inl (
                keys,
                subst (λ x. HoldsUnder (is_lost before) x before.account user.durable keys) (sym (stays c f))
                    p.holds,
              ))
              (λ end g. let a = at_end c f end g in
              inr (
                a.next,
                a.allowed,
                subst (λ lost. HoldsOne lost end before.account a.next) (ap is_some keeps.lost)
                    (one_held (is_lost after) end before.account a.next a.keys a.holds),
              ))));
          leads = λ end fold.
              let parts = fold_split (Does old.era) contents end l.steps steps
              (fold_among old.era seen contents end (l.steps ++ steps) fold) in
              at_end parts.0 parts.1 end parts.2;
        };
  }

  -- a stand-in after steps that changed nothing
  pub looked_stood : (answer : Answer) → MayFail turn → IsStandIn answer → answer ≢ answers.StorageFault
      → ((contents : Contents) (user : User) (keys : Keys) → Fits before contents user keys
      → HoldsUnder (is_lost before) contents before.account user.durable keys → (end : Contents)
      → Fold (Does old.era) contents steps end → end ≡ contents)
      → IsGiven old new before before turn answer
  looked_stood answer may stands calm same =
      looked_given answer before (λ e. absurd (calm e)) (record { account = refl; cost = refl; lost = refl })
      (λ seen contents user keys p told end fold.
      let is : end ≡ contents = same contents user keys p.fits p.holds end fold in
      subst (Leads before.account (Given old.era user turn answer) before (l.steps ++ steps) user) (sym is) (record {
        next = user;
        keys = keys;
        allowed = stands_in (record { may = may; answer_is = stands; after_is = refl });
        fits = p.fits;
        holds = inl p.holds;
        idle = λ none. record { durable = refl; other = refl };
      }))
