-- Runs of steps.
use Rattle.std.proofs.Common.{◌≡◌, ℕ, ◌+◌, ◌%◌, ◌^◌, List, [], ◌∷◌, ◌++◌, refl, sym, ap, ◌∙◌, subst, ◌⊎◌, inl, inr, ⊎_elim, append_assoc, append-nil, length-append, arith}
use Rattle.std.proofs.lemmas.List.{map-append}
use Rattle.std.specs.List.{AllByRecursion}
use Rattle.fault_count.specs.Causes.{HasCause}
use Rattle.share_api.specs.Places.{steps_of, place_from, place_after}
use Rattle.share_api.specs.declared.step.Step.{Step}
use Rattle.share_api.specs.Seen.{ShareSeen, Makes, Runs, HasFailed}
use Rattle.share_api.specs.declared.step.Reply.TheVariants.{Failed}

module _ {S : Type 0} where
  place_then : (place : ℕ) (own : List (ℕ × S)) (known : ℕ × S) (more : List (ℕ × S)) → place_from place (own ++ known ∷ more) ≡ place_from (known.0 + 1) more
  place_then place [] known more = refl
  place_then place (first ∷ own) known more = place_then (first.0 + 1) own known more

  place_more : (place : ℕ) (own more : List (ℕ × S)) → place_after (place_after place own) more ≡ place_after place (own ++ more)
  place_more place own [] = ap (place_after place) (sym (append-nil own))
  place_more place [] (known ∷ more) = refl
  place_more place (first ∷ own) (known ∷ more) = ap (λ (n : ℕ). n % 2 ^ 64) (sym (place_then (first.0 + 1) own known more))

  -- a share that begins with the place 0 has the place of its last step
  pub place_turn : (own : List (ℕ × S)) → place_after 0 own ≡ place_from 0 own % 2 ^ 64
  place_turn [] = refl
  place_turn (known ∷ own) = refl

all_append : (P : Step → Type 0) (xs ys : List Step) → AllByRecursion P xs → AllByRecursion P ys → AllByRecursion P (xs ++ ys)
all_append P [] ys p q = q
all_append P (x ∷ xs) ys p q = (p.0, all_append P xs ys p.1 q)

pub cause_then : (a b c : ℕ) (P Q : Type 0) → HasCause a b P → HasCause b c Q → HasCause a c (P ⊎ Q)
cause_then a b c P Q p q = record {
  later = omega (arith, p.later, q.later);
  rose = ⊎_elim (λ h. omega (arith, p.rose h, q.later)) (λ h. omega (arith, q.rose h, p.later));
  kept = λ none. q.kept (λ h. none (inr h)) ∙ p.kept (λ h. none (inl h));
}

pub cause_as : (a b : ℕ) (P Q : Type 0) → (P → Q) → (Q → P) → HasCause a b P → HasCause a b Q
cause_as a b P Q to from h = record { later = h.later; rose = λ q. h.rose (from q); kept = λ none. h.kept (λ p. none (to p)) }

pub failed_append : (steps more : List Step) → HasFailed (steps ++ more) → HasFailed steps ⊎ HasFailed more
failed_append [] more h = inr h
failed_append (step ∷ steps) more h = ⊎_elim (λ f. inl (inl f)) (λ r. ⊎_elim (λ f. inl (inr f)) inr (failed_append steps more r)) h

pub failed_either : (steps more : List Step) → HasFailed steps ⊎ HasFailed more → HasFailed (steps ++ more)
failed_either [] more h = ⊎_elim absurd (λ x. x) h
failed_either (step ∷ steps) more h = ⊎_elim (λ f. ⊎_elim inl (λ r. inr (failed_either steps more (inl r))) f) (λ r. inr (failed_either steps more (inr r))) h

pub runs_none : (seen : ShareSeen) → Runs seen seen []
runs_none seen = record {
  own = [];
  own_is = sym (append-nil seen.own);
  steps_are = refl;
  place = refl;
  mine = tt;
  account = refl;
  owner = refl;
  era = refl;
  lost = refl;
  spare = omega arith;
  cause = record { later = omega arith; rose = absurd; kept = λ _. refl };
}

pub runs_one : (old new : ShareSeen) (step : Step) → Makes old new step → Runs old new (step ∷ [])
runs_one old new step h = record {
  own = (h.at, step) ∷ [];
  own_is = h.own;
  steps_are = refl;
  place = h.place;
  mine = (h.mine, tt);
  account = h.account;
  owner = h.owner;
  era = h.era;
  lost = h.lost;
  spare = omega (arith, h.spare);
  cause = cause_as old.faults new.faults (step.reply ≡ Failed) (HasFailed (step ∷ [])) inl (⊎_elim (λ x. x) absurd) h.cause;
}

pub runs_then : (old mid new : ShareSeen) (steps more : List Step) → Runs old mid steps → Runs mid new more → Runs old new (steps ++ more)
runs_then old mid new steps more p q = record {
  own = p.own ++ q.own;
  own_is = q.own_is ∙ ap (λ xs. xs ++ q.own) p.own_is ∙ append_assoc old.own p.own q.own;
  steps_are = map-append (λ (known : ℕ × Step). known.1) p.own q.own ∙ (λ i. p.steps_are i ++ q.steps_are i);
  place = q.place ∙ ap (λ (n : ℕ). place_after n q.own) p.place ∙ place_more old.place p.own q.own;
  mine = all_append (λ step. step.account ≡ old.account) steps more p.mine (subst (λ (n : ℕ). AllByRecursion (λ (step : Step). step.account ≡ n) more) p.account q.mine);
  account = q.account ∙ p.account;
  owner = q.owner ∙ p.owner;
  era = q.era ∙ p.era;
  lost = q.lost ∙ p.lost;
  spare = omega (arith, p.spare, q.spare, length-append steps more);
  cause = cause_as old.faults new.faults (HasFailed steps ⊎ HasFailed more) (HasFailed (steps ++ more)) (failed_either steps more) (failed_append steps more)
      (cause_then old.faults mid.faults new.faults (HasFailed steps) (HasFailed more) p.cause q.cause);
}

-- a run has steps exactly where it has steps with places
pub none_made : (old new : ShareSeen) (steps : List Step) → (r : Runs old new steps) → r.own ≡ [] → steps ≡ []
none_made old new steps r e = sym r.steps_are ∙ ap (λ (o : List (ℕ × Step)). steps_of o) e
