-- An opening as the composition takes it.
use Rattle.std.proofs.Common.{◌≡◌, ℕ, Bool, List, [], ◌∷◌, Result, Ok, Err, is_some, refl, sym, ap, ◌∙◌, subst, inl}
use Rattle.std.specs.Prelude.{IfOk}
use Rattle.fault_count.specs.Causes.{HasCause}
use Rattle.pw_types.specs.declared.era.Era.{Era}
use Rattle.account_machine.specs.User.{opened}
use Rattle.account_machine.specs.declared.user.Durable.{Durable}
use Rattle.home_image.specs.Book.{HoldsOne}
use Rattle.home_image.specs.Settled.{IsStateOf, Opens}
use Rattle.home_locks.specs.Meanings.{meaning_of}
use Rattle.home_recovery.specs.Told.{lost_tree}
use Rattle.home_recovery.proofs.HomeLemmas.{loss_is}
use Rattle.random_values.specs.Stretches.{Place}
use Rattle.share_api.specs.Contents.{Bytes, Contents}
use Rattle.share_api.specs.Folds.{Fold, Throughout}
use Rattle.share_api.specs.Seen.{ShareSeen, HasFailed}
use Rattle.share_api.specs.Steps.{Does}
use Rattle.share_api.specs.declared.step.Step.{Step}
use Rattle.share_api.proofs.FoldLaws.{throughout_weaker}
use Rattle.stored_home.specs.Holds.{Keys, Holds, HoldsUnder}
use Rattle.stored_home.specs.declared.fault.StoreFault.{StoreFault}
use Rattle.user_opening.specs.Opens.{opened_state, IsOpened, OpensUser}
use Rattle.user_state.specs.Fits.{is_lost}
use Rattle.user_state.specs.declared.state.UserState.{UserState}
use Rattle.turn_meaning.specs.Meanings.{Part, part_of, DoesPart, HoldsPart, user_rules}
use Rattle.turn_meaning.specs.Openings.{OpensPart, OpenStands}

module _ (era : Era) where
  -- steps on parts leave the name and the mark, and lead on in the contents
  fold_parts : (old new : Part) (steps : List Step) → Fold (DoesPart era) old steps new
      → (new.account ≡ old.account) × (new.lost ≡ old.lost) × Fold (Does era) old.contents steps new.contents
  fold_parts old new [] f = (
    ap (λ (part : Part). part.account) f,
    ap (λ (part : Part). part.lost) f,
    ap (λ (part : Part). part.contents) f,
  )
  fold_parts old new (step ∷ steps) f =
      let rest = fold_parts f.0 new steps f.2 in
      (rest.0 ∙ f.1.account, rest.1 ∙ f.1.lost, (f.0.contents, f.1.does, rest.2))

  -- what holds throughout steps on contents holds throughout those on parts
  throughout_parts : (P : Part → Type 0) (old : Part) (steps : List Step)
      → Throughout (Does era) (λ c. P (part_of old.account old.lost c)) old.contents steps
      → Throughout (DoesPart era) P old steps
  throughout_parts P old [] h = h
  throughout_parts P old (step ∷ steps) h = (
    h.0,
    λ mid does.
        throughout_parts P mid steps
        (subst (λ (t : Bytes × Bool). Throughout (Does era) (λ c. P (part_of t.0 t.1 c)) mid.contents steps)
        (λ i. (sym does.account i, sym does.lost i)) (h.1 mid.contents does.does)),
  )

module _ (old new : ShareSeen) (account : Bytes) (cost moment : ℕ) (generator : Place)
    (result : Result UserState StoreFault) (opens : OpensUser old new account cost moment generator result) where
  abbrev lost : Bool
  lost = is_some old.lost

  abbrev steps : List Step
  steps = opens.recovers.steps

  module _ (contents : Contents) (durable : Durable) (keys : Keys)
      (holds : HoldsUnder lost contents account durable keys) where
    abbrev start : Part
    start = part_of account lost contents

    held_throughout : Throughout (DoesPart old.era) (λ now. HoldsPart now durable) start steps
    held_throughout =
        throughout_parts old.era (λ now. HoldsPart now durable) start steps
        (throughout_weaker (Does old.era) (λ c. HoldsUnder lost c account durable keys)
        (λ c. HoldsPart (part_of account lost c) durable) contents steps (λ c h. (keys, h))
        (opens.right contents durable keys holds).throughout)

  -- the state is that of the user over the contents that the steps led to
  state_of : (state : UserState) → result ≡ Ok state → (contents : Contents) (durable : Durable) (keys : Keys)
      → HoldsUnder lost contents account durable keys → (end : Part)
      → Fold (DoesPart old.era) (part_of account lost contents) steps end
      → IsStateOf (meaning_of (user_rules old.era)) state end (opened durable moment)
  state_of state is contents durable keys holds end fold =
      let f = fold_parts old.era (part_of account lost contents) end steps fold in
      let over = (opens.right contents durable keys holds).opened in
      let at = subst (λ r. IfOk r (λ (s : UserState). (c : Contents) → Fold (Does old.era) contents steps c
      → IsOpened s c durable moment keys)) is over end.contents f.2 in
      let made = subst (λ r. IfOk r (λ (s : UserState). s ≡ opened_state account cost moment generator s.stored))
      is opens.state in
      let roots = subst (λ r. IfOk r (λ (s : UserState). s.stored.lost ≡ lost_tree old.lost)) is opens.lost in
      let named : state.account ≡ end.account = ap (λ (s : UserState). s.account) made ∙ sym f.0 in
      let marked : is_lost state ≡ end.lost = loss_is old.lost state.stored.lost roots ∙ sym f.1 in
      let now : HoldsUnder end.lost end.contents end.account durable keys =
      subst (λ (t : Bytes × Bool). HoldsUnder t.1 end.contents t.0 durable keys) (λ i. (named i, marked i)) at.holds in
      record {
        fits = record { account_is = named; lost_is = marked; keys = keys; fits = at.fits; holds = inl now };
        holds = inl (keys, now);
      }

  opens_by : (r : Result UserState StoreFault) → result ≡ r → (contents : Contents) (durable : Durable) (keys : Keys)
      → HoldsUnder lost contents account durable keys
      → IfOk r (λ state. Opens (meaning_of (user_rules old.era)) state steps (part_of account lost contents)
      (opened durable moment))
  opens_by (Err fault) is contents durable keys holds = tt
  opens_by (Ok state) is contents durable keys holds = record {
    throughout = throughout_weaker (DoesPart old.era) (λ now. HoldsPart now durable)
        (HoldsOne (meaning_of (user_rules old.era)) (opened durable moment)) (part_of account lost contents) steps
        (λ part h. inl h) (held_throughout contents durable keys holds);
    opened = λ end fold. state_of state is contents durable keys holds end fold;
  }

  -- the two halves, of contents of the account
  opens_part : (contents : Contents) (durable : Durable) → Holds lost contents account durable
      → OpensPart old steps moment result (part_of account lost contents) durable
  opens_part contents durable holds = record {
    held = held_throughout contents durable holds.0 holds.1;
    opens = opens_by result refl contents durable holds.0 holds.1;
  }

  pub opening_stands : OpenStands old new account moment result
  opening_stands = record {
    own = opens.recovers.runs.own;
    steps = record {
      own_is = opens.recovers.runs.own_is;
      place = opens.recovers.runs.place;
      cause = subst (λ xs. HasCause old.faults new.faults (HasFailed xs)) (sym opens.recovers.runs.steps_are)
          opens.recovers.runs.cause;
    };
    right = λ part durable named marked holds.
        subst (λ xs. OpensPart old xs moment result part durable) (sym opens.recovers.runs.steps_are)
        (subst (λ (p : Part). OpensPart old steps moment result p durable)
        (λ i. part_of (sym named i) (sym marked i) part.contents)
        (opens_part part.contents durable (subst (λ (t : Bytes × Bool). Holds t.1 part.contents t.0 durable)
        (λ i. (named i, marked i)) holds)));
  }
