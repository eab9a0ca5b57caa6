-- A crash in opening or in settling leaves what opens to the same leaves.
use Rattle.std.proofs.Common.{◌≡◌, ℕ, ◌<◌, ◌^◌, inl, inr, Bool, true, false, cond, eqb, ltb, ◌||◌, Option, Some, None, List, refl, sym, ◌∙◌, ap, subst, arith}
use Rattle.std.specs.Prelude.{bytes_eq, unwrap_or}
use Rattle.pw_path.specs.Tree.{root, aux_of, no_hash}
use Rattle.pw_path.specs.Path.{root_of}
use Rattle.pw_log.specs.declared.entry.TheConstants.{INSERT, REMOVE, RESET_TREE, TRY, RESET}
use Rattle.pw_leaf.proofs.Cases.{on_result}
use Rattle.pw_chip.specs.declared.reply.Reply.{Reply}
use Rattle.pw_chip.specs.declared.reply.Reply.TheVariants.{RootUnknown}
use Rattle.pw_chip.specs.State.{ChipState, booted}
use Rattle.pw_chip.specs.Calls.{Remove}
use Rattle.pw_chip.specs.Step.{opened, is_replayed, replay_opened, replay_step, remove_step, step}
use Rattle.pw_chip.specs.Law.{values}
use Rattle.pw_chip.proofs.EraLemmas.{era_step}
use Rattle.label_tree.specs.Values.{with_value}
use Rattle.pin_ops.specs.declared.answer.Resync.{Resync}
use Rattle.pin_ops.specs.declared.answer.Resync.TheVariants as resync
use Rattle.pin_recovery.specs.Devices.{Leaves, Devices, tree_of, record_at, AreInStep}
use Rattle.pin_ops.specs.Resyncing.{lost, redone, replayed, replay_of, put_if_noted, missing, resynced}
use Rattle.pin_recovery.specs.LeafCalls.{LeafOp, stepped, IsLeafOp}
use Rattle.pin_recovery.specs.Recovery.{resync_of, leaves_by, words_by, undone, recovered, Recovers, between, booted_devices, IsOpeningImage, IsSettlingImage, RecoversEither, IsSettled}
use Rattle.pw_chip.proofs.StandingLemmas.{logged-root}
use Rattle.pin_recovery.proofs.BehindLemmas.{recovers_by, in_step_recovers}
use Rattle.pin_recovery.proofs.AtomicLemmas.{crash_atomic}

-- ---- a boot changes nothing that a resync looks at

-- choices by one test are equal where their sides are
both : {A : Type 0} (b : Bool) (x x' y y' : A) → x ≡ x' → y ≡ y' → cond b x y ≡ cond b x' y'
both b x x' y y' p q = λ i. cond b (p i) (q i)

-- what two choices have in common
both_by : {A B : Type 0} (f : A → B) (b : Bool) (x x' y y' : A) → f x ≡ f x' → f y ≡ f y' → f (cond b x y) ≡ f (cond b x' y')
both_by f true x x' y y' p q = p
both_by f false x x' y y' p q = q

-- a boot changes no answer of the chip's Replay
replay_booted : (w : ChipState) (moment label : ℕ) (aux : List (List (List ℕ))) (leaf : List ℕ) → (replay_step (booted w moment) label aux leaf).0 ≡ (replay_step w label aux leaf).0
unfolding replay_step
replay_booted w moment label aux leaf =
    let b = booted w moment in
    let first : Reply × ChipState → Reply = λ r. r.0 in
    let opens = opened w.keys w.log.older.root label aux leaf in
    let inner : replay_opened b opens ≡ replay_opened w opens = on_result (λ r. replay_opened b r ≡ replay_opened w r) opens (λ x q. refl) (λ r q. refl) in
    both_by first (ltb label 16384) _ _ (_, b) (_, w)
    (both_by first (is_replayed w.log.newest label) (replay_opened b opens, b) (replay_opened w opens, w) (RootUnknown, b) (RootUnknown, w) inner refl)
    refl

-- nor the record that it gives
replay_of_booted : (w : ChipState) (moment : ℕ) (v : ℕ → List ℕ) (leaf : Option (List ℕ)) → replay_of (booted w moment) v leaf ≡ replay_of w v leaf
replay_of_booted w moment v None = refl
replay_of_booted w moment v (Some leaf) = ap replayed (replay_booted w moment w.log.newest.label (aux_of v w.log.newest.label) leaf)

-- nor what is missing
missing_booted : (w : ChipState) (moment : ℕ) (v : ℕ → List ℕ) (leaf : Option (List ℕ)) → missing (booted w moment) v leaf ≡ missing w v leaf
unfolding missing
missing_booted w moment v leaf =
    both (eqb w.log.newest.operation INSERT) _ _ _ _ refl
    (both (eqb w.log.newest.operation REMOVE) _ _ _ _ refl
    (both (eqb w.log.newest.operation RESET_TREE) _ _ _ _ refl
    (both (eqb w.log.newest.operation TRY || eqb w.log.newest.operation RESET) _ _ _ _ (ap (put_if_noted w.log.newest) (replay_of_booted w moment v leaf)) refl)))

-- nor what a resync answers
pub resync_booted : (w : ChipState) (moment : ℕ) (v : ℕ → List ℕ) (leaf : Option (List ℕ)) → resynced (booted w moment) v leaf ≡ resynced w v leaf
unfolding resynced
resync_booted w moment v leaf =
    both (bytes_eq w.log.newest.root (root v)) resync.InStep resync.InStep _ _ refl
    (both (bytes_eq w.log.older.root (root v)) _ _ (lost w v) (lost w v)
    (both (bytes_eq (root (redone w v)) w.log.newest.root) _ _ (lost w v) (lost w v) (ap (λ o. unwrap_or o (lost w v)) (missing_booted w moment v leaf)) refl)
    refl)

-- ---- an insert is undone alike before and after a boot

-- nor the root that a remove leaves
removed_root : (w : ChipState) (moment label : ℕ) (aux : List (List (List ℕ))) (mac : List ℕ) (now : ℕ)
    → ((remove_step (booted w moment) label aux mac now).1).log.newest.root ≡ ((remove_step w label aux mac now).1).log.newest.root
unfolding remove_step
removed_root w moment label aux mac now =
    let top : Reply × ChipState → List ℕ = λ r. r.1.log.newest.root in
    both_by top (ltb label 16384) _ _ _ _
    (both_by top (bytes_eq (root_of label mac aux) w.log.newest.root) _ _ _ _
    (both_by top (bytes_eq mac no_hash) _ _ _ _ refl (logged-root (booted w moment) _ ∙ sym (logged-root w _)))
    refl)
    refl

-- an insert that is undone after a boot leaves devices in step where it does before
undone_booted : (w : ChipState) (moment : ℕ) (v : ℕ → List ℕ) (label now : ℕ) (t : Leaves) → AreInStep (record { words = undone w v label now; leaves = t })
    → AreInStep (record { words = undone (booted w moment) v label now; leaves = t })
unfolding step
undone_booted w moment v label now t h =
    let call = Remove label (aux_of (with_value v label w.log.newest.mac) label) w.log.newest.mac in
    let old = era_step w call now in
    let new = era_step (booted w moment) call now in
    record {
      leaves = h.leaves;
      root =
          removed_root w moment label (aux_of (with_value v label w.log.newest.mac) label) w.log.newest.mac now
          ∙ h.root ∙ ap (λ keys. root (values keys t)) (old.keys ∙ sym new.keys);
      boot = let b = new.boot in omega arith;
    }

-- devices that are in step are so after a boot
booted_in_step : (d : Devices) (moment : ℕ) → AreInStep d → AreInStep (booted_devices d moment)
booted_in_step d moment h = record { leaves = h.leaves; root = h.root; boot = omega arith }

-- and so after any answer is carried out
booted_by : (w : ChipState) (moment : ℕ) (v : ℕ → List ℕ) (answer : Resync) (now : ℕ) (t : Leaves) → AreInStep (record { words = words_by w v answer now; leaves = t })
    → AreInStep (record { words = words_by (booted w moment) v answer now; leaves = t })
booted_by w moment v resync.InStep now t h = booted_in_step (record { words = w; leaves = t }) moment h
booted_by w moment v (resync.Inserted label) now t h = undone_booted w moment v label now t h
booted_by w moment v (resync.Put label leaf) now t h = booted_in_step (record { words = w; leaves = t }) moment h
booted_by w moment v (resync.Removed label) now t h = booted_in_step (record { words = w; leaves = t }) moment h
booted_by w moment v resync.Emptied now t h = booted_in_step (record { words = w; leaves = t }) moment h
booted_by w moment v (resync.Lost host chip) now t h = booted_in_step (record { words = w; leaves = t }) moment h

-- what recovers does so after a boot
pub booted_recovers : (d : Devices) (t : Leaves) (moment : ℕ) → Recovers d t → Recovers (booted_devices d moment) t
booted_recovers d t moment r =
    let v = tree_of d in
    recovers_by (booted_devices d moment) t (resync_of d) (resync_booted d.words moment v (record_at d.words.keys (d.leaves d.words.log.newest.label))) r.found r.gives r.tree
    (λ now small. booted_by d.words moment v (resync_of d) now (leaves_by d.words.keys (resync_of d) d.leaves) (r.in_step now small))

-- what is recovered recovers itself
again : (d : Devices) (t : Leaves) (now : ℕ) → now < 2 ^ 40 → Recovers d t → Recovers (recovered d now) t
again d t now small r = subst (Recovers (recovered d now)) r.gives (in_step_recovers (recovered d now) (r.in_step now small))

-- ---- the laws

-- whatever a crash in opening leaves recovers to the same leaves
pub opening_images : (d : Devices) (t : Leaves) (moment : ℕ) (q : Devices) → Recovers d t → moment < 2 ^ 40 → IsOpeningImage d moment q → Recovers q t
opening_images d t moment q r small (inl e) = subst (λ z. Recovers z t) (sym e) r
opening_images d t moment q r small (inr (inl e)) = subst (λ z. Recovers z t) (sym e) (booted_recovers d t moment r)
opening_images d t moment q r small (inr (inr e)) = subst (λ z. Recovers z t) (sym e) (again (booted_devices d moment) t moment small (booted_recovers d t moment r))

-- what recovers to one of two leaves does so again
again_either : (old new d : Devices) (now : ℕ) → now < 2 ^ 40 → RecoversEither old new d → RecoversEither old new (recovered d now)
again_either old new d now small (inl r) = inl (again d old.leaves now small r)
again_either old new d now small (inr r) = inr (again d new.leaves now small r)

-- whatever a crash in settling leaves recovers to one of the two
pub settling_images : (d : Devices) (op : LeafOp) (now moment : ℕ) (q : Devices) → AreInStep d → IsLeafOp op → now < 2 ^ 40 → moment < 2 ^ 40
    → IsSettlingImage d (stepped d op now) moment q → RecoversEither d (stepped d op now) q
settling_images d op now moment q h ok small late (inl e) = inl (subst (λ z. Recovers z d.leaves) (sym e) (in_step_recovers d h))
settling_images d op now moment q h ok small late (inr (inl e)) =
    let all = crash_atomic d op now h ok small in subst (RecoversEither d (stepped d op now)) (sym e) all.middle
settling_images d op now moment q h ok small late (inr (inr (inl e))) =
    let all = crash_atomic d op now h ok small in inr (subst (λ z. Recovers z (stepped d op now).leaves) (sym e) all.last)
settling_images d op now moment q h ok small late (inr (inr (inr e))) =
    let all = crash_atomic d op now h ok small in
    subst (RecoversEither d (stepped d op now)) (sym e) (again_either d (stepped d op now) (between d (stepped d op now)) moment late all.middle)

-- what is settled is in step, with one of the two
settled_by : (old new d : Devices) (now : ℕ) → now < 2 ^ 40 → RecoversEither old new d → IsSettled old new (recovered d now)
settled_by old new d now small (inl r) = record { in_step = r.in_step now small; leaves = inl r.gives }
settled_by old new d now small (inr r) = record { in_step = r.in_step now small; leaves = inr r.gives }

-- settling ends with both devices in step, whether the words were stored or not
pub settling_ends : (d : Devices) (op : LeafOp) (now moment : ℕ) → AreInStep d → IsLeafOp op → now < 2 ^ 40 → moment < 2 ^ 40
    → IsSettled d (stepped d op now) (recovered d moment) × IsSettled d (stepped d op now) (recovered (between d (stepped d op now)) moment)
settling_ends d op now moment h ok small late =
    let all = crash_atomic d op now h ok small in
    (settled_by d (stepped d op now) d moment late (inl all.first), settled_by d (stepped d op now) (between d (stepped d op now)) moment late all.middle)
