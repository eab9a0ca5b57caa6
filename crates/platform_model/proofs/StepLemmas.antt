-- What a step leaves of each account.
use Rattle.std.proofs.Common.{◌≡◌, ◌≢◌, ℕ, ◌<◌, inl, inr, Bool, true, false, cond, eqb, Some, None, List, [], ◌∷◌, refl, sym, ◌∙◌, ap, subst}
use Rattle.std.specs.Prelude.{bytes_eq, option_map}
use Rattle.std.specs.FinMap.{insert, remove}
use Rattle.std.proofs.lemmas.Bool.{cases_eq, eq-eqb, ne_eqb}
use Rattle.pw_path.specs.Tree.{aux_of, no_hash}
use Rattle.pw_path.proofs.TreeLemmas.{root_of_true}
use Rattle.pw_path.specs.Path.{root_of}
use Rattle.pw_types.specs.Delay.{readiness}
use Rattle.pw_types.specs.declared.stamp.Stamp.{Stamp}
use Rattle.pw_types.specs.declared.delay.Readiness.{Readiness}
use Rattle.pw_types.specs.declared.delay.Readiness.TheVariants as delay
use Rattle.pw_leaf.specs.declared.keys.ChipKeys.{ChipKeys}
use Rattle.pw_leaf.specs.Contents.{Contents, new_contents, bumped, cleared}
use Rattle.pw_leaf.specs.LeafBytes.{leaf_bytes, leaf_mac}
use Rattle.pw_chip.specs.declared.reply.Reply.{Reply}
use Rattle.pw_chip.specs.declared.reply.Reply.TheVariants as reply
use Rattle.pw_chip.specs.State.{ChipState}
use Rattle.pw_chip.specs.Calls.{Insert, Remove, Try, Reset}
use Rattle.pw_chip.specs.Step.{tried, tried_when, try_opened, reset_at, reset_opened, try_step, reset_step, step}
use Rattle.pw_chip.specs.Ledger.{with_leaf, leaves_after}
use Rattle.pw_chip.specs.Law.{value_of, values}
use Rattle.pw_chip.proofs.EraLemmas.{era_step}
use Rattle.pw_chip.proofs.StepLemmas.{insert_step-ok}
use Rattle.pin_recovery.specs.Devices.{Leaves, Devices, record_of, AreInStep}
use Rattle.pin_recovery.specs.LeafCalls.{LeafOp, InsertLeaf, TryLeaf, ResetLeaf, RemoveLeaf, call_of, stepped, IsLeafOp}
use Rattle.pw_log.proofs.LogLemmas.{same_root}
use Rattle.pin_recovery.proofs.LeafLemmas.{opened_own}
use Rattle.pin_recovery.proofs.BehindLemmas.{remove_done}
use Rattle.pin_recovery.proofs.AtomicLemmas.{crash_atomic}
use Rattle.platform_model.specs.Views.{Platform, plain, owned, view_of, era_of}
use Rattle.platform_model.specs.Steps as steps
use Rattle.platform_model.specs.Steps.{Op, Looks, Puts, Removes, Asks, Step, with_records, owners_after, done_by, after, run, with_plain, leaves_done, done, fold, IsAllowedLeaf, IsAllowedOp, AreAllowed}
use Rattle.platform_model.proofs.ViewLemmas.{view_changed, view_other, view_inserted, view_inserted_other, records_own, records_other}

-- ---- a leaf after a call

-- the leaf after a try under this readiness
unfoldable pub tried_contents : Readiness → List ℕ → Stamp → Contents → Contents
tried_contents delay.Ready les now x = cond (bytes_eq x.les les) (cleared x) (bumped now x)
tried_contents (delay.Delayed until) les now x = x
tried_contents delay.Locked les now x = x

-- leaves with one set to what it was
pub with_itself : (t : Leaves) (label : ℕ) (x : Contents) → t label ≡ Some x → t ≡ with_leaf t label (Some x)
with_itself t label x e =
    let at : (i : ℕ) → t i ≡ with_leaf t label (Some x) i =
    λ i. elim (cases_eq i label) [
      | inl same ↦ ap t same ∙ e ∙ sym (rw (eq-eqb i label same) refl)
      | inr ne ↦ sym (rw (ne_eqb i label ne) refl)
    ] in
    λ j i. at i j

module _ (keys : ChipKeys) (t : Leaves) (label : ℕ) (x : Contents) (there : t label ≡ Some x) (aux : List (List (List ℕ))) (leaf : List ℕ) (stamp : Stamp) where
  -- a try that may come, right or wrong
  tried_right : (les : List ℕ) (b : Bool) → leaves_after stamp (Try label aux leaf les) (cond b (reply.Released (leaf_bytes keys (cleared x)) x.hes) (reply.Wrong (leaf_bytes keys (bumped stamp x)))) t
      ≡ with_leaf t label (Some (cond b (cleared x) (bumped stamp x)))
  unfolding leaves_after
  tried_right les true = ap (λ o. with_leaf t label o) (ap (option_map cleared) there)
  tried_right les false = ap (λ o. with_leaf t label o) (ap (option_map (bumped stamp)) there)

  -- the leaves after a try
  tried_leaves : (les : List ℕ) (r : Readiness) → leaves_after stamp (Try label aux leaf les) (tried_when r keys x les stamp) t ≡ with_leaf t label (Some (tried_contents r les stamp x))
  unfolding leaves_after tried_contents
  tried_leaves les delay.Ready = tried_right les (bytes_eq x.les les)
  tried_leaves les (delay.Delayed until) = with_itself t label x there
  tried_leaves les delay.Locked = with_itself t label x there

  -- the leaves after a reset
  reset_leaves : (reset : List ℕ) (b : Bool) → leaves_after stamp (Reset label aux leaf reset) (cond b (reply.Cleared (leaf_bytes keys (cleared x))) reply.ResetWrong) t
      ≡ with_leaf t label (Some (cond b (cleared x) x))
  unfolding leaves_after
  reset_leaves reset true = ap (λ o. with_leaf t label o) (ap (option_map cleared) there)
  reset_leaves reset false = with_itself t label x there

-- a try of a leaf, in plain
plain_tried : (r : Readiness) (les : List ℕ) (stamp : Stamp) (x : Contents) → plain (tried_contents r les stamp x) ≡ steps.tried_leaf r les stamp (plain x)
unfolding tried_contents
plain_tried delay.Ready les stamp x = plain_cond (bytes_eq x.les les)
  where
    plain_cond : (b : Bool) → plain (cond b (cleared x) (bumped stamp x)) ≡ cond b (plain (cleared x)) (plain (bumped stamp x))
    plain_cond true = refl
    plain_cond false = refl
plain_tried (delay.Delayed until) les stamp x = refl
plain_tried delay.Locked les stamp x = refl

-- a reset of a leaf, in plain
plain_reset : (b : Bool) (x : Contents) → plain (cond b (cleared x) x) ≡ cond b (plain (cleared x)) (plain x)
plain_reset true x = refl
plain_reset false x = refl

-- ---- what each call leaves

-- the boot and the moment of a step
unfoldable pub stamp_of : Devices → ℕ → Stamp
stamp_of d now = record { boot = d.words.boot; at = now }

module _ (d : Devices) (label now : ℕ) (h : AreInStep d) (lt : label < 16384) where
  -- what a try leaves of the devices
  pub try_leaves : (les : List ℕ) (x : Contents) → d.leaves label ≡ Some x
      → (stepped d (TryLeaf label les) now).leaves ≡ with_leaf d.leaves label (Some (tried_contents (readiness x.schedule x.wrong x.last (stamp_of d now) d.words.start) les (stamp_of d now) x))
  unfolding stepped call_of step try_step tried stamp_of
  try_leaves les x there =
      let keys = d.words.keys in
      let aux = aux_of (values keys d.leaves) label in
      let stamp : Stamp = record { boot = d.words.boot; at = now } in
      let opens = opened_own keys d.leaves label x d.words.log.newest.root lt h.leaves there h.root in
      let call = Try label aux (record_of keys (d.leaves label)) les in
      ap (λ o. leaves_after stamp call (try_step d.words label aux (record_of keys o) les now).0 d.leaves) there
      ∙ ap (λ r. leaves_after stamp call (try_opened d.words label aux les now r).0 d.leaves) opens
      ∙ tried_leaves keys d.leaves label x there aux (record_of keys (d.leaves label)) stamp les (readiness x.schedule x.wrong x.last stamp d.words.start)

  -- what a reset leaves
  pub resets : (reset : List ℕ) (x : Contents) → d.leaves label ≡ Some x
      → (stepped d (ResetLeaf label reset) now).leaves ≡ with_leaf d.leaves label (Some (cond (bytes_eq x.reset reset) (cleared x) x))
  unfolding stepped call_of step reset_step reset_at
  resets reset x there =
      let keys = d.words.keys in
      let aux = aux_of (values keys d.leaves) label in
      let stamp : Stamp = record { boot = d.words.boot; at = now } in
      let opens = opened_own keys d.leaves label x d.words.log.newest.root lt h.leaves there h.root in
      let call = Reset label aux (record_of keys (d.leaves label)) reset in
      ap (λ o. leaves_after stamp call (reset_step d.words label aux (record_of keys o) reset now).0 d.leaves) there
      ∙ ap (λ r. leaves_after stamp call (reset_opened d.words label aux reset now r).0 d.leaves) opens
      ∙ reset_leaves keys d.leaves label x there aux (record_of keys (d.leaves label)) stamp reset (bytes_eq x.reset reset)

  -- what an insert leaves
  pub inserts : (les hes reset : List ℕ) (schedule : List (ℕ × ℕ)) (iv : List ℕ) → d.leaves label ≡ None
      → (stepped d (InsertLeaf label les hes reset schedule iv) now).leaves ≡ with_leaf d.leaves label (Some (new_contents label les hes reset schedule iv))
  unfolding stepped call_of step leaves_after
  inserts les hes reset schedule iv free =
      let keys = d.words.keys in
      let v = values keys d.leaves in
      let aux = aux_of v label in
      let y = new_contents label les hes reset schedule iv in
      let stamp : Stamp = record { boot = d.words.boot; at = now } in
      let call = Insert label aux (v label) les hes reset schedule iv in
      let zero : v label ≡ no_hash = ap (value_of keys) free in
      let ok = insert_step-ok d.words label aux (v label) y now lt (same_root (root_of label (v label) aux) d.words.log.newest.root (root_of_true v label lt ∙ sym h.root)) (same_root (v label) no_hash zero) in
      ap (λ (q : Reply × ChipState). leaves_after stamp call q.0 d.leaves) ok

  -- what a remove leaves
  pub removes : (x : Contents) → d.leaves label ≡ Some x → leaf_mac d.words.keys x ≢ no_hash
      → (stepped d (RemoveLeaf label) now).leaves ≡ with_leaf d.leaves label None
  unfolding stepped call_of step leaves_after
  removes x there used =
      let keys = d.words.keys in
      let v = values keys d.leaves in
      let aux = aux_of v label in
      let stamp : Stamp = record { boot = d.words.boot; at = now } in
      let call = Remove label aux (v label) in
      let ok = remove_done d.words label aux (v label) now lt (root_of_true v label lt ∙ sym h.root) (λ e. used (sym (ap (value_of keys) there) ∙ e)) in
      ap (λ (q : Reply × ChipState). leaves_after stamp call q.0 d.leaves) ok

-- ---- what each account sees after a step

-- no call changes the era
era_kept : (s : Platform) (op : LeafOp) (now : ℕ) → era_of (record s { devices = stepped s.devices op now }) ≡ era_of s
unfolding stepped
era_kept s op now =
    let e = era_step s.devices.words (call_of s.devices.words.keys s.devices.leaves op) now in
    λ i. record { boot = e.boot i; start = e.start i }

-- no step does
pub era_after : (s : Platform) (account : ℕ) (op : Op) (now : ℕ) → era_of (done_by s account op now) ≡ era_of s
era_after s account Looks now = refl
era_after s account (Puts name bytes) now = refl
era_after s account (Removes name) now = refl
era_after s account (Asks op) now = era_kept s op now

-- the leaves that the step's account sees
pub own_leaves : (s : Platform) (account : ℕ) (op : LeafOp) (now : ℕ) → AreInStep s.devices → IsLeafOp op → IsAllowedLeaf s account op
    → owned (owners_after op account s.owners) (stepped s.devices op now).leaves account ≡ leaves_done (era_of s) op now (owned s.owners s.devices.leaves account)
unfolding IsLeafOp IsAllowedLeaf stamp_of
own_leaves s account (InsertLeaf label les hes reset schedule iv) now h ok free =
    ap (λ t. owned (λ i. cond (eqb i label) account (s.owners i)) t account) (inserts s.devices label now h ok.0 les hes reset schedule iv free)
    ∙ view_inserted s.owners s.devices.leaves label account free (new_contents label les hes reset schedule iv)
own_leaves s account (TryLeaf label les) now h ok here =
    let x = here.1 in
    let stamp : Stamp = record { boot = s.devices.words.boot; at = now } in
    let r = readiness x.0.schedule x.0.wrong x.0.last stamp s.devices.words.start in
    let seen : owned s.owners s.devices.leaves account label ≡ Some (plain x.0) = rw (eq-eqb (s.owners label) account here.0) (ap (option_map plain) x.1) in
    ap (λ t. owned s.owners t account) (try_leaves s.devices label now h ok les x.0 x.1)
    ∙ view_changed s.owners s.devices.leaves label account (Some (tried_contents r les stamp x.0)) here.0
    ∙ ap (λ y. with_plain (owned s.owners s.devices.leaves account) label (Some y)) (plain_tried r les stamp x.0)
    ∙ sym (ap (λ o. with_plain (owned s.owners s.devices.leaves account) label (option_map (steps.after_try (era_of s) les now) o)) seen)
own_leaves s account (ResetLeaf label reset) now h ok here =
    let x = here.1 in
    let seen : owned s.owners s.devices.leaves account label ≡ Some (plain x.0) = rw (eq-eqb (s.owners label) account here.0) (ap (option_map plain) x.1) in
    ap (λ t. owned s.owners t account) (resets s.devices label now h ok reset x.0 x.1)
    ∙ view_changed s.owners s.devices.leaves label account (Some (cond (bytes_eq x.0.reset reset) (cleared x.0) x.0)) here.0
    ∙ ap (λ y. with_plain (owned s.owners s.devices.leaves account) label (Some y)) (plain_reset (bytes_eq x.0.reset reset) x.0)
    ∙ sym (ap (λ o. with_plain (owned s.owners s.devices.leaves account) label (option_map (steps.after_reset reset) o)) seen)
own_leaves s account (RemoveLeaf label) now h ok here =
    let x = here.1 in
    ap (λ t. owned s.owners t account) (removes s.devices label now h ok x.0 x.1.0 x.1.1)
    ∙ view_changed s.owners s.devices.leaves label account None here.0

-- the leaves that another account sees
pub other_leaves : (s : Platform) (account : ℕ) (op : LeafOp) (now b : ℕ) → AreInStep s.devices → IsLeafOp op → IsAllowedLeaf s account op → b ≢ account
    → owned (owners_after op account s.owners) (stepped s.devices op now).leaves b ≡ owned s.owners s.devices.leaves b
unfolding IsLeafOp IsAllowedLeaf stamp_of
other_leaves s account (InsertLeaf label les hes reset schedule iv) now b h ok free ne =
    ap (λ t. owned (λ i. cond (eqb i label) account (s.owners i)) t b) (inserts s.devices label now h ok.0 les hes reset schedule iv free)
    ∙ view_inserted_other s.owners s.devices.leaves label account free (new_contents label les hes reset schedule iv) b ne
other_leaves s account (TryLeaf label les) now b h ok here ne =
    let x = here.1 in
    ap (λ t. owned s.owners t b) (try_leaves s.devices label now h ok les x.0 x.1)
    ∙ view_other s.owners s.devices.leaves label b _ (λ e. ne (sym e ∙ here.0))
other_leaves s account (ResetLeaf label reset) now b h ok here ne =
    let x = here.1 in
    ap (λ t. owned s.owners t b) (resets s.devices label now h ok reset x.0 x.1)
    ∙ view_other s.owners s.devices.leaves label b _ (λ e. ne (sym e ∙ here.0))
other_leaves s account (RemoveLeaf label) now b h ok here ne =
    let x = here.1 in
    ap (λ t. owned s.owners t b) (removes s.devices label now h ok x.0 x.1.0 x.1.1)
    ∙ view_other s.owners s.devices.leaves label b None (λ e. ne (sym e ∙ here.0))

-- a step's account has what its step makes of its contents
pub own_view : (s : Platform) (account : ℕ) (op : Op) (now : ℕ) → AreInStep s.devices → IsAllowedOp s account op now
    → view_of (done_by s account op now) account ≡ done (era_of s) op now (view_of s account)
own_view s account Looks now h ok = refl
own_view s account (Puts name bytes) now h ok =
    let e = records_own s.records account (insert (s.records account) name bytes) in λ i. record { records = e i; leaves = owned s.owners s.devices.leaves account }
own_view s account (Removes name) now h ok =
    let e = records_own s.records account (remove (s.records account) name) in λ i. record { records = e i; leaves = owned s.owners s.devices.leaves account }
own_view s account (Asks op) now h ok =
    let e = own_leaves s account op now h ok.1 ok.2 in λ i. record { records = s.records account; leaves = e i }

-- each other account has what it had
pub other_view : (s : Platform) (account : ℕ) (op : Op) (now b : ℕ) → AreInStep s.devices → IsAllowedOp s account op now → b ≢ account
    → view_of (done_by s account op now) b ≡ view_of s b
other_view s account Looks now b h ok ne = refl
other_view s account (Puts name bytes) now b h ok ne =
    let e = records_other s.records account (insert (s.records account) name bytes) b ne in λ i. record { records = e i; leaves = owned s.owners s.devices.leaves b }
other_view s account (Removes name) now b h ok ne =
    let e = records_other s.records account (remove (s.records account) name) b ne in λ i. record { records = e i; leaves = owned s.owners s.devices.leaves b }
other_view s account (Asks op) now b h ok ne =
    let e = other_leaves s account op now b h ok.1 ok.2 ne in λ i. record { records = s.records b; leaves = e i }

-- a step leaves the devices in step
pub in_step_after : (s : Platform) (account : ℕ) (op : Op) (now : ℕ) → AreInStep s.devices → IsAllowedOp s account op now → AreInStep (done_by s account op now).devices
in_step_after s account Looks now h ok = h
in_step_after s account (Puts name bytes) now h ok = h
in_step_after s account (Removes name) now h ok = h
in_step_after s account (Asks op) now h ok = let all = crash_atomic s.devices op now h ok.1 ok.0 in all.after

-- ---- the list

-- what an account has after any step
view_step : (s : Platform) (step : Step) (a : ℕ) → AreInStep s.devices → IsAllowedOp s step.account step.op step.now
    → view_of (after s step) a ≡ cond (eqb step.account a) (done (era_of s) step.op step.now (view_of s a)) (view_of s a)
view_step s step a h ok =
    elim (cases_eq step.account a) [
      | inl same ↦
          subst (λ b. view_of (after s step) b ≡ cond (eqb step.account b) (done (era_of s) step.op step.now (view_of s b)) (view_of s b)) same
          (rw (eq-eqb step.account step.account refl) (own_view s step.account step.op step.now h ok))
      | inr ne ↦ rw (ne_eqb step.account a ne) (other_view s step.account step.op step.now a h ok (λ e. ne (sym e)))
    ]

-- and after a list of them
pub folded : (s : Platform) (list : List Step) (account : ℕ) → AreInStep s.devices → AreAllowed s list → view_of (run s list) account ≡ fold (era_of s) account (view_of s account) list
unfolding run fold AreAllowed
folded s [] account h ok = refl
folded s (step ∷ list) account h ok =
    let next = in_step_after s step.account step.op step.now h ok.0 in
    folded (after s step) list account next ok.1
    ∙ (λ i. fold (era_after s step.account step.op step.now i) account (view_step s step account h ok.0 i) list)

-- the same contents, era, step and moment give the same contents
pub same_step : (s s' : Platform) (account : ℕ) (op : Op) (now : ℕ) → AreInStep s.devices → AreInStep s'.devices → IsAllowedOp s account op now → IsAllowedOp s' account op now
    → view_of s account ≡ view_of s' account → era_of s ≡ era_of s' → view_of (done_by s account op now) account ≡ view_of (done_by s' account op now) account
same_step s s' account op now h h' ok ok' e era =
    own_view s account op now h ok ∙ (λ i. done (era i) op now (e i)) ∙ sym (own_view s' account op now h' ok')
