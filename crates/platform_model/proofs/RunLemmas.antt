-- A run of device steps, of which some fail.
use Rattle.std.proofs.Common.{◌≡◌, ◌≢◌, ◌⊎◌, ℕ, ◌<◌, ◌^◌, inl, inr, eqb, Some, None, Option, List, [], ◌∷◌, refl, sym, ◌∙◌, ap, subst}
use Rattle.std.proofs.lemmas.Bool.{cases_eq, eq-eqb, ne_eqb}
use Rattle.pw_types.specs.declared.era.Era.{Era}
use Rattle.pin_recovery.specs.Devices.{AreInStep}
use Rattle.platform_model.specs.Views.{Platform, View, view_of, era_of}
use Rattle.platform_model.specs.Steps.{Step, after, done, IsAllowed}
use Rattle.platform_model.specs.Settling.{IsInsert, IsSettledTo, settled}
use Rattle.platform_model.specs.Runs.{Standing, at_rest, IsLeftBy, Stands, settled_now, IsSettlingNow, Way, IsDone, FailsAt, IsNotBegun, Try, Goes, AreTried, Makes, MakesIf, Folds, MaySee}
use Rattle.platform_model.proofs.StepLemmas.{era_after, own_view, other_view, in_step_after}
use Rattle.platform_model.proofs.SettlingLemmas.{settling_ends, settling_left, image_left, settled_era}

-- ---- settling before a step

-- what settling before a step gives: both devices in step, in the same era, and what each account may have
record IsZero (moment : ℕ) (standing : Standing) (z : Platform) : Type 0 where
  in_step : AreInStep z.devices
  era : era_of z ≡ era_of standing.settled
  view : (a : ℕ) → MaySee standing a (view_of z a)

-- what an account may have of a settled step
own_or_other : (s z : Platform) (step : Step) (a : ℕ) → IsSettledTo s step z
    → (view_of z a ≡ view_of s a)
    ⊎ ((step.account ≡ a) × (IsInsert step.op → ⊥) × (view_of z a ≡ view_of (after s step) a))
own_or_other s z step a end =
    elim (cases_eq step.account a) [
      | inl same ↦
          subst (λ b. (view_of z b ≡ view_of s b)
          ⊎ ((step.account ≡ b) × (IsInsert step.op → ⊥) × (view_of z b ≡ view_of (after s step) b))) same
          (here end.own)
      | inr ne ↦ inl (end.others a (λ e. ne (sym e)))
    ]
  where
    here : (view_of z step.account ≡ view_of s step.account)
        ⊎ ((IsInsert step.op → ⊥) × (view_of z step.account ≡ view_of (after s step) step.account))
        → (view_of z step.account ≡ view_of s step.account)
        ⊎ ((step.account ≡ step.account) × (IsInsert step.op → ⊥)
        × (view_of z step.account ≡ view_of (after s step) step.account))
    here (inl e) = inl e
    here (inr (away, e)) = inr (refl, away, e)

-- each step settles to such a platform
settles : (moment : ℕ) → moment < 2 ^ 40 → (s : Platform) (pending : Option Step) (now : Platform) → AreInStep s.devices
    → IsLeftBy moment s pending now
    → IsZero moment (record { settled = s; pending = pending; now = now }) (settled_now moment pending now)
settles moment late s None now h e = record {
  in_step = subst (λ (z : Platform). AreInStep z.devices) (sym e) h;
  era = ap era_of e;
  view = λ a. ap (λ z. view_of z a) e;
}
settles moment late s (Some step) now h (allowed, left) =
    let end = settling_ends moment s now step late h allowed left in
    record {
      in_step = end.in_step;
      era = settled_era moment s now step late h allowed left;
      view = λ a. own_or_other s (settled moment step.op now) step a end;
    }

-- ---- one step

-- what a step does to an account's view, whoever's step it is
makes_if : (z : Platform) (step : Step) (way : Way) (era : Era) (a : ℕ) (old new : View)
    → ((step.account ≡ a) → Makes era step way old new) → ((step.account ≢ a) → new ≡ old)
    → MakesIf (eqb step.account a) era step way old new
makes_if z step way era a old new own other =
    elim (cases_eq step.account a) [
      | inl same ↦ rw (eq-eqb step.account a same) (own same)
      | inr ne ↦ rw (ne_eqb step.account a ne) (other ne)
    ]

-- a step that is done, as its account sees it
done_own : (z : Platform) (step : Step) (era : Era) (a : ℕ) → AreInStep z.devices → IsAllowed z step → era_of z ≡ era
    → step.account ≡ a → view_of (after z step) a ≡ done era step.op step.now (view_of z a)
done_own z step era a h allowed e same =
    subst (λ b. view_of (after z step) b ≡ done era step.op step.now (view_of z b)) same
    (own_view z step.account step.op step.now h allowed
    ∙ ap (λ x. done x step.op step.now (view_of z step.account)) e)

-- what a step leaves: a platform that stands, in the same era, and each account's view by what the step made of it
record IsNext (moment : ℕ) (era : Era) (old : Standing) (step : Step) (way : Way) (new : Standing) : Type 0 where
  stands : Stands moment new
  era_is : era_of new.settled ≡ era
  view : (a : ℕ) (v : View) → MaySee new a v
      → (u : View) × MaySee old a u × MakesIf (eqb step.account a) era step way u v

goes_on : (moment : ℕ) → moment < 2 ^ 40 → (era : Era) (old : Standing) (step : Step) (way : Way) (new : Standing)
    → Stands moment old → era_of old.settled ≡ era → Goes moment old step way new
    → IsNext moment era old step way new
goes_on moment late era old step IsDone new st e (allowed, is) =
    let z = settled_now moment old.pending old.now in
    let zero = settles moment late old.settled old.pending old.now st.in_step st.left in
    let same = zero.era ∙ e in
    subst (IsNext moment era old step IsDone) (sym is)
    (record {
      stands = record {
        in_step = in_step_after z step.account step.op step.now zero.in_step allowed;
        left = refl;
      };
      era_is = era_after z step.account step.op step.now ∙ same;
      view = λ a v f. (
        view_of z a,
        zero.view a,
        makes_if z step IsDone era a (view_of z a) v (λ own. f ∙ done_own z step era a zero.in_step allowed same own)
            (λ ne. f ∙ other_view z step.account step.op step.now a zero.in_step allowed (λ q. ne (sym q))),
      );
    })
goes_on moment late era old step (FailsAt left) new st e (allowed, image, is) =
    let z = settled_now moment old.pending old.now in
    let zero = settles moment late old.settled old.pending old.now st.in_step st.left in
    let same = zero.era ∙ e in
    let may : (a : ℕ) (v : View)
    → (v ≡ view_of z a)
    ⊎ ((step.account ≡ a) × (IsInsert step.op → ⊥) × (v ≡ view_of (after z step) a))
    → MakesIf (eqb step.account a) era step (FailsAt left) (view_of z a) v =
    λ a v f. elim f [
      | inl q ↦ makes_if z step (FailsAt left) era a (view_of z a) v (λ own. inl q) (λ ne. q)
      | inr g ↦
          makes_if z step (FailsAt left) era a (view_of z a) v
          (λ own. inr (g.2 ∙ done_own z step era a zero.in_step allowed same own)) (λ ne. absurd (ne g.0))
    ] in
    subst (IsNext moment era old step (FailsAt left)) (sym is)
    (record {
      stands = record {
        in_step = zero.in_step;
        left = (allowed, image_left moment z step.account step.op step.now left image);
      };
      era_is = same;
      view = λ a v f. (view_of z a, zero.view a, may a v f);
    })
goes_on moment late era old step (IsNotBegun left) new st e (image, is) =
    subst (IsNext moment era old step (IsNotBegun left)) (sym is)
    (record {
      stands = record {
        in_step = st.in_step;
        left = settling_again moment late old.settled old.pending old.now left st.in_step st.left image;
      };
      era_is = e;
      view = λ a v f. (v, f, makes_if old.settled step (IsNotBegun left) era a v v (λ own. refl) (λ ne. refl));
    })
  where
    settling_again : (moment : ℕ) → moment < 2 ^ 40 → (s : Platform) (pending : Option Step) (now left : Platform)
        → AreInStep s.devices → IsLeftBy moment s pending now → IsSettlingNow moment pending now left
        → IsLeftBy moment s pending left
    settling_again moment late s None now left h was image = image ∙ was
    settling_again moment late s (Some step) now left h (allowed, was) image =
        (allowed, settling_left moment s now left step late h allowed was image)

-- ---- the list

-- what the list leaves stands
pub tried_stands : (moment : ℕ) → moment < 2 ^ 40 → (era : Era) (old : Standing) (tries : List Try) (end : Standing)
    → Stands moment old → era_of old.settled ≡ era → AreTried moment old tries end → Stands moment end
unfolding AreTried
tried_stands moment late era old [] end st e is = subst (Stands moment) (sym is) st
tried_stands moment late era old (t ∷ tries) end st e (mid, goes, rest) =
    let next = goes_on moment late era old t.step t.way mid st e goes in
    tried_stands moment late era mid tries end next.stands next.era_is rest

-- what an account may have at its end is what its own steps make of what it might have at its start
pub tried_folds : (moment : ℕ) → moment < 2 ^ 40 → (era : Era) (old : Standing) (tries : List Try) (end : Standing)
    (a : ℕ) (v : View) → Stands moment old → era_of old.settled ≡ era → AreTried moment old tries end → MaySee end a v
    → (u : View) × MaySee old a u × Folds era a u tries v
unfolding AreTried Folds
tried_folds moment late era old [] end a v st e is f = (v, subst (λ s. MaySee s a v) is f, refl)
tried_folds moment late era old (t ∷ tries) end a v st e (mid, goes, rest) f =
    let next = goes_on moment late era old t.step t.way mid st e goes in
    let later = tried_folds moment late era mid tries end a v next.stands next.era_is rest f in
    let first = next.view a later.0 later.1 in
    (first.0, first.1, (later.0, first.2, later.2))

-- a platform at rest stands
pub rest_stands : (moment : ℕ) (s : Platform) → AreInStep s.devices → Stands moment (at_rest s)
rest_stands moment s h = record { in_step = h; left = refl }
