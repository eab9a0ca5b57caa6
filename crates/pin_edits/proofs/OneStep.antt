-- Edits of one step on a leaf.
use Rattle.std.proofs.Common.{◌≡◌, [], ◌∷◌, None, Bool, false, refl, sym, ◌∙◌, subst, inl, ⊎_elim, append-nil}
use Rattle.std.specs.Prelude.{is_some}
use Rattle.account_machine.specs.declared.user.Durable.{Durable}
use Rattle.share_api.specs.Contents.{Bytes, Contents}
use Rattle.share_api.specs.Seen.{ShareSeen, Makes}
use Rattle.share_api.specs.Steps.{Does}
use Rattle.share_api.specs.declared.step.Reply.TheVariants.{Failed}
use Rattle.share_api.specs.declared.step.Step.{Step}
use Rattle.share_api.proofs.RunLaws.{runs_one, none_made}
use Rattle.stored_home.specs.Adding.{HoldsEither}
use Rattle.stored_home.specs.Holds.{Keys, HoldsUnder}
use Rattle.stored_home.specs.Loaded.{IsKept}
use Rattle.stored_home.specs.declared.stored.Stored.{Stored}
use Rattle.home_edits.specs.Edits.{Starts, Edits}
use Rattle.home_edits.proofs.CostLemmas.{same_rest}
use Rattle.pin_edits.specs.Refusals.{ChangesNothing}

-- What an edit of one step needs of it, where the tree isn't lost: whatever it leads to holds the durable part before
-- or the one after it; once it is done, the one after it, with the same loaded state.
pub record Steps (old : ShareSeen) (account : Bytes) (stored : Stored) (step : Step) (ok : Type 0)
    (Asks : Contents → Keys → Durable → Durable → Type 0) : Type 0 where
  pub either : (contents mid : Contents) (keys : Keys) (before next : Durable)
      → Starts false account stored Asks contents keys before next → Does old.era contents step mid
      → HoldsEither false account keys before next mid
  pub last : ok → (contents mid : Contents) (keys : Keys) (before next : Durable)
      → Starts false account stored Asks contents keys before next → Does old.era contents step mid
      → HoldsUnder false mid account next keys × IsKept false mid account stored

-- an edit that made the step
pub edits_one : (old new : ShareSeen) (account : Bytes) (stored : Stored) (ok failed : Type 0)
    (Asks : Contents → Keys → Durable → Durable → Type 0) (step : Step)
    → is_some old.lost ≡ false → Makes old new step → (failed → step.reply ≡ Failed) → (ok → step.reply ≡ Failed → ⊥)
    → Steps old account stored step ok Asks
    → Edits old new account stored stored ok failed Asks
edits_one old new account stored ok failed Asks step found makes fails done steps = record {
  steps = step ∷ [];
  runs = runs_one old new step makes;
  fails = λ f. inl (fails f);
  done = λ o has. ⊎_elim (done o) absurd has;
  made = λ o none. cc none;
  atomic = λ contents keys before next starts. record {
    throughout = (
      inl starts.holds,
      λ mid does. subst (λ (lost : Bool). HoldsEither lost account keys before next mid) (sym found)
          (steps.either contents mid keys before next (begun contents keys before next starts) does),
    );
    last = λ o end fold. subst (λ c. HoldsUnder (is_some old.lost) c account next keys) (sym fold.2)
        (subst (λ (lost : Bool). HoldsUnder lost fold.0 account next keys) (sym found)
        (steps.last o contents fold.0 keys before next (begun contents keys before next starts) fold.1).0);
  };
  loaded = λ o contents keys before next starts end fold. subst (λ c. IsKept (is_some old.lost) c account stored)
      (sym fold.2)
      (subst (λ (lost : Bool). IsKept lost fold.0 account stored) (sym found)
      (steps.last o contents fold.0 keys before next (begun contents keys before next starts) fold.1).1);
}
  where
    begun : (contents : Contents) (keys : Keys) (before next : Durable)
        → Starts (is_some old.lost) account stored Asks contents keys before next
        → Starts false account stored Asks contents keys before next
    begun contents keys before next starts =
        subst (λ (lost : Bool). Starts lost account stored Asks contents keys before next) found starts

-- that step is its only one
pub one_step : (old new : ShareSeen) (account : Bytes) (stored : Stored) (ok failed : Type 0)
    (Asks : Contents → Keys → Durable → Durable → Type 0) (step : Step)
    → (found : is_some old.lost ≡ false) → (makes : Makes old new step) → (fails : failed → step.reply ≡ Failed)
    → (done : ok → step.reply ≡ Failed → ⊥) → (steps : Steps old account stored step ok Asks)
    → (edits_one old new account stored ok failed Asks step found makes fails done steps).steps ≡ step ∷ []
unfolding edits_one
one_step old new account stored ok failed Asks step found makes fails done steps = refl

-- an edit that made no step has none
pub steps_none : (old : ShareSeen) (account : Bytes) (stored after : Stored) (ok failed : Type 0)
    (Asks : Contents → Keys → Durable → Durable → Type 0) (edits : Edits old old account stored after ok failed Asks)
    → edits.steps ≡ []
steps_none old account stored after ok failed Asks edits =
    none_made old old edits.steps edits.runs
    (same_rest old.own edits.runs.own [] (sym edits.runs.own_is ∙ sym (append-nil old.own)))

-- and changes nothing
pub nothing_made : (old : ShareSeen) (account : Bytes) (stored after : Stored) (ok failed : Type 0)
    (Asks : Contents → Keys → Durable → Durable → Type 0) (edits : Edits old old account stored after ok failed Asks)
    → ChangesNothing old account stored Asks edits.steps
nothing_made old account stored after ok failed Asks edits =
    subst (ChangesNothing old account stored Asks) (sym (steps_none old account stored after ok failed Asks edits))
    (record {
      quiet = λ has. has;
      held = λ contents keys before next starts. starts.holds;
      same = λ contents end clear fold. fold;
    })

-- nor does one whose step didn't fail and left the contents as they were
pub one_refused : (old : ShareSeen) (account : Bytes) (stored : Stored)
    (Asks : Contents → Keys → Durable → Durable → Type 0) (step : Step) → (step.reply ≡ Failed → ⊥)
    → ((contents mid : Contents) → contents.doubt ≡ None → Does old.era contents step mid → mid ≡ contents)
    → ChangesNothing old account stored Asks (step ∷ [])
one_refused old account stored Asks step calm stays = record {
  quiet = λ has. ⊎_elim calm absurd has;
  held = λ contents keys before next starts. (
    starts.holds,
    λ mid does. subst (λ c. HoldsUnder (is_some old.lost) c account before keys)
        (sym (stays contents mid starts.kept.clear does)) starts.holds,
  );
  same = λ contents end clear fold. fold.2 ∙ stays contents fold.0 clear fold.1;
}
