-- A crash in a step, and in the openings after it.
use Rattle.std.proofs.Common.{◌≡◌, ◌≢◌, ◌⊎◌, ℕ, ◌<◌, ◌^◌, inl, inr, List, [], ◌∷◌, refl, sym, ◌∙◌, subst}
use Rattle.pin_recovery.specs.Devices.{Leaves, Devices, AreInStep}
use Rattle.pin_recovery.specs.LeafCalls.{LeafOp, InsertLeaf, TryLeaf, ResetLeaf, RemoveLeaf, stepped, IsLeafOp}
use Rattle.pin_recovery.specs.Recovery.{Recovers, between}
use Rattle.pin_recovery.proofs.BehindLemmas.{in_step_recovers}
use Rattle.pin_recovery.proofs.AtomicLemmas.{crash_atomic}
use Rattle.pin_recovery.proofs.OpeningLemmas.{booted_recovers, opening_images}
use Rattle.platform_model.specs.Views.{Platform, owned, view_of}
use Rattle.platform_model.specs.Steps.{Op, Looks, Puts, Removes, Asks, Step, owners_after, done_by, after, IsAllowedLeaf, IsAllowedOp, AreAllowed}
use Rattle.platform_model.specs.Crashes.{halfway, IsImageOf, AreCutOpenings, opened, IsReopened, SurvivesEach}
use Rattle.platform_model.proofs.ViewLemmas.{view_unused}
use Rattle.platform_model.proofs.StepLemmas.{other_leaves, other_view, in_step_after}

-- openings that are cut off lose nothing
pub cut_openings : (d : Devices) (t : Leaves) (moments : List ℕ) (q : Devices) → Recovers d t → AreCutOpenings d moments q → Recovers q t
unfolding AreCutOpenings
cut_openings d t [] q r e = subst (λ z. Recovers z t) (sym e) r
cut_openings d t (moment ∷ moments) q r c =
    let mid = c.1 in cut_openings mid.0 t moments q (opening_images d t moment mid.0 r c.0 mid.1.0) mid.1.1

-- what the next opening leaves
pub record IsOpenedTo (s : Platform) (d : Devices) (moment : ℕ) (t : Leaves) : Type 0 where
  pub in_step : AreInStep (opened s d moment).devices
  pub leaves : (opened s d moment).devices.leaves ≡ t

-- what recovers is opened to these leaves, however many openings were cut off
pub opened_to : (s : Platform) (t : Leaves) (moments : List ℕ) (d : Devices) (moment : ℕ) → Recovers s.devices t → AreCutOpenings s.devices moments d → moment < 2 ^ 40 → IsOpenedTo s d moment t
opened_to s t moments d moment r c small =
    let b = booted_recovers d t moment (cut_openings s.devices t moments d r c) in
    record { in_step = b.in_step moment small; leaves = b.gives }

-- an account's view once it is known which leaves are there
pub seen : (s : Platform) (d : Devices) (moment : ℕ) (t : Leaves) (a : ℕ) → IsOpenedTo s d moment t → view_of (opened s d moment) a ≡ record { records = s.records a; leaves = owned s.owners t a }
seen s d moment t a o = let e = o.leaves in λ i. record { records = s.records a; leaves = owned s.owners (e i) a }

-- from this state on, each opening gives the views of one of two states
abbrev pub Reopens : Platform → Platform → ℕ → Platform → Type 0
Reopens old new account q = (moments : List ℕ) (d : Devices) (moment : ℕ) → AreCutOpenings q.devices moments d → moment < 2 ^ 40 → IsReopened old new account (opened q d moment)

-- an image that has one of two states' views is opened to them
pub reopens_old : (old new : Platform) (account : ℕ) → Recovers old.devices old.devices.leaves → Reopens old new account old
reopens_old old new account r moments d moment c small =
    let o = opened_to old old.devices.leaves moments d moment r c small in
    record { in_step = o.in_step; others = λ b ne. seen old d moment old.devices.leaves b o; own = inl (seen old d moment old.devices.leaves account o) }

-- the state after the step does
pub reopens_new : (old new : Platform) (account : ℕ) → Recovers new.devices new.devices.leaves → ((b : ℕ) → b ≢ account → view_of new b ≡ view_of old b) → Reopens old new account new
reopens_new old new account r others moments d moment c small =
    let o = opened_to new new.devices.leaves moments d moment r c small in
    record { in_step = o.in_step; others = λ b ne. seen new d moment new.devices.leaves b o ∙ others b ne; own = inr (seen new d moment new.devices.leaves account o) }

-- a label's new owner sees nothing before the leaf is there
pub owners_unseen : (s : Platform) (account : ℕ) (op : LeafOp) (b : ℕ) → IsAllowedLeaf s account op → owned (owners_after op account s.owners) s.devices.leaves b ≡ owned s.owners s.devices.leaves b
unfolding IsAllowedLeaf
owners_unseen s account (InsertLeaf label les hes reset schedule iv) b free = view_unused s.owners s.devices.leaves label account free b
owners_unseen s account (TryLeaf label les) b ok = refl
owners_unseen s account (ResetLeaf label reset) b ok = refl
owners_unseen s account (RemoveLeaf label) b ok = refl

-- the state between the two writes does
reopens_half : (s : Platform) (account : ℕ) (op : LeafOp) (now : ℕ) → AreInStep s.devices → IsLeafOp op → IsAllowedLeaf s account op
    → Recovers (between s.devices (stepped s.devices op now)) s.devices.leaves ⊎ Recovers (between s.devices (stepped s.devices op now)) (stepped s.devices op now).leaves
    → Reopens s (done_by s account (Asks op) now) account (halfway s account op now)
reopens_half s account op now h ok allowed (inl r) moments d moment c small =
    let q = halfway s account op now in
    let o = opened_to q s.devices.leaves moments d moment r c small in
    let view : (b : ℕ) → view_of (opened q d moment) b ≡ view_of s b =
    λ b. let e = owners_unseen s account op b allowed in seen q d moment s.devices.leaves b o ∙ (λ i. record { records = s.records b; leaves = e i }) in
    record { in_step = o.in_step; others = λ b ne. view b; own = inl (view account) }
reopens_half s account op now h ok allowed (inr r) moments d moment c small =
    let q = halfway s account op now in
    let t = (stepped s.devices op now).leaves in
    let o = opened_to q t moments d moment r c small in
    record {
      in_step = o.in_step;
      others = λ b ne. let e = other_leaves s account op now b h ok allowed ne in seen q d moment t b o ∙ (λ i. record { records = s.records b; leaves = e i });
      own = inr (seen q d moment t account o);
    }

-- so each image of a step does
pub survives : (s : Platform) (account : ℕ) (op : Op) (now : ℕ) (q : Platform) → AreInStep s.devices → IsAllowedOp s account op now → IsImageOf s account op now q
    → Reopens s (done_by s account op now) account q
unfolding IsImageOf
survives s account Looks now q h ok e = subst (Reopens s s account) (sym e) (reopens_old s s account (in_step_recovers s.devices h))
survives s account (Puts name bytes) now q h ok (inl e) =
    let new = done_by s account (Puts name bytes) now in subst (Reopens s new account) (sym e) (reopens_old s new account (in_step_recovers s.devices h))
survives s account (Puts name bytes) now q h ok (inr e) =
    let new = done_by s account (Puts name bytes) now in
    subst (Reopens s new account) (sym e) (reopens_new s new account (in_step_recovers s.devices h) (λ b ne. other_view s account (Puts name bytes) now b h ok ne))
survives s account (Removes name) now q h ok (inl e) =
    let new = done_by s account (Removes name) now in subst (Reopens s new account) (sym e) (reopens_old s new account (in_step_recovers s.devices h))
survives s account (Removes name) now q h ok (inr e) =
    let new = done_by s account (Removes name) now in
    subst (Reopens s new account) (sym e) (reopens_new s new account (in_step_recovers s.devices h) (λ b ne. other_view s account (Removes name) now b h ok ne))
survives s account (Asks op) now q h ok (inl e) =
    let new = done_by s account (Asks op) now in subst (Reopens s new account) (sym e) (reopens_old s new account (in_step_recovers s.devices h))
survives s account (Asks op) now q h ok (inr (inl e)) =
    let new = done_by s account (Asks op) now in
    let all = crash_atomic s.devices op now h ok.1 ok.0 in
    subst (Reopens s new account) (sym e) (reopens_half s account op now h ok.1 ok.2 all.middle)
survives s account (Asks op) now q h ok (inr (inr e)) =
    let new = done_by s account (Asks op) now in
    let all = crash_atomic s.devices op now h ok.1 ok.0 in
    subst (Reopens s new account) (sym e) (reopens_new s new account all.last (λ b ne. other_view s account (Asks op) now b h ok ne))

-- and each image of each step of a list
pub survives_each : (s : Platform) (list : List Step) → AreInStep s.devices → AreAllowed s list → SurvivesEach s list
unfolding AreAllowed SurvivesEach
survives_each s [] h ok = h
survives_each s (step ∷ list) h ok = (
  h,
  (
    λ q moments d moment image cut small. survives s step.account step.op step.now q h ok.0 image moments d moment cut small,
    survives_each (after s step) list (in_step_after s step.account step.op step.now h ok.0) ok.1,
  ),
)
