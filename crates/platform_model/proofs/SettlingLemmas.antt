-- Settling after a step that failed.
use Rattle.std.proofs.Common.{◌≡◌, ◌⊎◌, ℕ, ◌<◌, ◌^◌, inl, inr, Some, None, Option, List, refl, sym, ◌∙◌, ap, subst}
use Rattle.std.specs.Prelude.{bytes_eq}
use Rattle.std.proofs.lemmas.Bool.{cases_eq, false≢true}
use Rattle.std.proofs.lemmas.Slice.Eq.{bytes_eq-Decides}
use Rattle.pw_path.specs.Tree.{aux_of, no_hash}
use Rattle.pw_path.specs.Path.{root_of}
use Rattle.pw_path.proofs.TreeLemmas.{root_of_true, set_value_other, set_value_same}
use Rattle.pw_types.specs.declared.era.Era.{Era}
use Rattle.pw_log.specs.declared.entry.LogEntry.{LogEntry}
use Rattle.pw_log.specs.declared.entry.TheConstants.{INSERT, NO_VERDICT}
use Rattle.pw_log.proofs.LogLemmas.{same_root}
use Rattle.pw_leaf.specs.Contents.{Contents, new_contents}
use Rattle.pw_leaf.proofs.Cases.{on_cond}
use Rattle.pw_chip.specs.declared.reply.Reply.{Reply}
use Rattle.pw_chip.specs.State.{ChipState}
use Rattle.pw_chip.specs.Calls.{Remove}
use Rattle.pw_chip.specs.Step.{logged, leaf_entry, step}
use Rattle.pw_chip.specs.Ledger.{with_leaf}
use Rattle.pw_chip.specs.Law.{value_of}
use Rattle.pw_chip.proofs.EraLemmas.{era_step}
use Rattle.pw_chip.proofs.StepLemmas.{insert_step-ok}
use Rattle.label_tree.specs.Values.{with_value}
use Rattle.pin_ops.specs.declared.answer.Resync.{Resync}
use Rattle.pin_ops.specs.declared.answer.Resync.TheVariants as resync
use Rattle.pin_recovery.specs.Devices.{Leaves, Devices, tree_of, record_at, AreInStep}
use Rattle.pin_recovery.specs.LeafCalls.{LeafOp, InsertLeaf, TryLeaf, ResetLeaf, RemoveLeaf, call_of, stepped, IsLeafOp}
use Rattle.pin_recovery.specs.Recovery.{Recovers, between, recovered, resync_of, words_by, leaves_by}
use Rattle.pin_recovery.proofs.BehindLemmas.{resynced-in_step, in_step_recovers, with_entry, insert_behind}
use Rattle.pin_recovery.proofs.AtomicLemmas.{crash_atomic}
use Rattle.platform_model.specs.Views.{Platform, View, owned, view_of, era_of}
use Rattle.platform_model.specs.Steps.{Op, Looks, Puts, Removes, Asks, Step, owners_after, done_by, IsAllowedLeaf, IsAllowedOp, IsAllowed}
use Rattle.platform_model.specs.Crashes.{halfway, IsImageOf, opened}
use Rattle.platform_model.specs.Settling.{brought_in_step, brought_back, IsUnsettled, IsUnsettledBy, without_record, unrecorded, settled, IsSettlingImage, IsInsert, IsSettledTo, Reopens}
use Rattle.platform_model.proofs.StepLemmas.{inserts, era_after, other_view, in_step_after}
use Rattle.platform_model.proofs.CrashLemmas as crash

-- ---- devices

-- the devices once an answer is carried out
abbrev by_answer : Devices → ℕ → Resync → Devices
by_answer d moment answer =
    record { words = words_by d.words (tree_of d) answer moment; leaves = leaves_by d.words.keys answer d.leaves }

-- devices that are in step are recovered to themselves
recovered_in_step : (d : Devices) (moment : ℕ) → AreInStep d → recovered d moment ≡ d
recovered_in_step d moment h =
    ap (by_answer d moment)
    (resynced-in_step d.words (tree_of d) (record_at d.words.keys (d.leaves d.words.log.newest.label)) h.root)

-- the era of words
abbrev era_in : ChipState → Era
era_in w = record { boot = w.boot; start = w.start }

-- no answer changes the era
era_by : (w : ChipState) (v : ℕ → List ℕ) (answer : Resync) (moment : ℕ) → era_in (words_by w v answer moment) ≡ era_in w
era_by w v resync.InStep moment = refl
era_by w v (resync.Inserted label) moment =
    let e =
    era_step w (Remove label (aux_of (with_value v label w.log.newest.mac) label) w.log.newest.mac) moment in
    λ i. record { boot = e.boot i; start = e.start i }
era_by w v (resync.Put label leaf) moment = refl
era_by w v (resync.Removed label) moment = refl
era_by w v resync.Emptied moment = refl
era_by w v (resync.Lost host chip) moment = refl

-- a leaf that is set and taken away again where there was none
taken_away : (t : Leaves) (label : ℕ) (o : Option Contents) → t label ≡ None
    → with_leaf (with_leaf t label o) label None ≡ t
taken_away t label o free =
    let at : (i : ℕ) → with_leaf (with_leaf t label o) label None i ≡ t i =
    λ i. elim (cases_eq i label) [
      | inl same ↦ rw same (set_value_same (with_leaf t label o) label None ∙ sym free)
      | inr ne ↦ set_value_other (with_leaf t label o) label None i ne ∙ set_value_other t label o i ne
    ] in
    λ j i. at i j

-- where there is none it needs no taking away
none_taken : (t : Leaves) (label : ℕ) → t label ≡ None → with_leaf t label None ≡ t
none_taken t label free =
    let at : (i : ℕ) → with_leaf t label None i ≡ t i =
    λ i. elim (cases_eq i label) [
      | inl same ↦ rw same (set_value_same t label None ∙ sym free)
      | inr ne ↦ set_value_other t label None i ne
    ] in
    λ j i. at i j

-- ---- an insert between its two writes

module _ (d : Devices) (label : ℕ) (les hes reset : List ℕ) (schedule : List (ℕ × ℕ)) (iv : List ℕ) (now : ℕ)
    (h : AreInStep d) (lt : label < 16384) (free : d.leaves label ≡ None) where
  -- the entry of the insert
  abbrev entry : LogEntry
  entry =
      leaf_entry d.words.keys INSERT NO_VERDICT label (aux_of (tree_of d) label)
      (new_contents label les hes reset schedule iv) (record { boot = d.words.boot; at = now })

  -- the words have it
  insert_words : (stepped d (InsertLeaf label les hes reset schedule iv) now).words ≡ logged d.words entry
  unfolding stepped call_of step
  insert_words =
      let v = tree_of d in
      let aux = aux_of v label in
      let zero : v label ≡ no_hash = ap (value_of d.words.keys) free in
      let ok =
      insert_step-ok d.words label aux (v label) (new_contents label les hes reset schedule iv) now lt
      (same_root (root_of label (v label) aux) d.words.log.newest.root (root_of_true v label lt ∙ sym h.root))
      (same_root (v label) no_hash zero) in
      ap (λ (q : Reply × ChipState). q.1) ok

  -- so it is undone
  insert_undone : Recovers (between d (stepped d (InsertLeaf label les hes reset schedule iv) now)) d.leaves
  unfolding logged
  insert_undone =
      let zero : tree_of d label ≡ no_hash = ap (value_of d.words.keys) free in
      subst (λ w. Recovers (record { words = w; leaves = d.leaves }) d.leaves) (sym insert_words)
      (on_cond (λ w. Recovers (record { words = w; leaves = d.leaves }) d.leaves)
      (bytes_eq entry.root d.words.log.newest.root) d.words (with_entry d.words entry) (λ same. in_step_recovers d h)
      (λ other. insert_behind d label (new_contents label les hes reset schedule iv)
      (record { boot = d.words.boot; at = now }) h lt zero
      (λ q. false≢true (sym other ∙ (bytes_eq-Decides entry.root d.words.log.newest.root).1 q))))

-- ---- a call that failed

module _ (moment : ℕ) (late : moment < 2 ^ 40) (s : Platform) (account : ℕ) (op : LeafOp) (now : ℕ)
    (h : AreInStep s.devices) (allowed : IsAllowedOp s account (Asks op) now) where
  abbrev done : Platform
  done = done_by s account (Asks op) now

  abbrev half : Platform
  half = halfway s account op now

  abbrev back : Platform
  back = brought_back s account op now moment

  -- between the two writes there are the leaves before the call, or, where it inserts none, those after it
  abbrev IsEither : Type 0
  IsEither =
      Recovers half.devices s.devices.leaves
      ⊎ ((IsInsert (Asks op) → ⊥) × Recovers half.devices (stepped s.devices op now).leaves)

-- what no insert leaves between its writes
either_of : (op : LeafOp) (d : Devices) (old new : Leaves) → (IsInsert (Asks op) → ⊥)
    → Recovers d old ⊎ Recovers d new → Recovers d old ⊎ ((IsInsert (Asks op) → ⊥) × Recovers d new)
either_of op d old new away (inl r) = inl r
either_of op d old new away (inr r) = inr (away, r)

-- which it is, for each call
either : (moment : ℕ) (s : Platform) (account : ℕ) (op : LeafOp) (now : ℕ) → (late : moment < 2 ^ 40) → (h : AreInStep s.devices)
    → (allowed : IsAllowedOp s account (Asks op) now) → IsEither moment late s account op now h allowed
unfolding IsLeafOp IsAllowedLeaf
either moment s account (InsertLeaf label les hes reset schedule iv) now late h allowed =
    let ok = allowed.1 in inl (insert_undone s.devices label les hes reset schedule iv now h ok.0 allowed.2)
either moment s account (TryLeaf label les) now late h allowed =
    let all = crash_atomic s.devices (TryLeaf label les) now h allowed.1 allowed.0 in
    either_of (TryLeaf label les) _ _ _ (λ n. n) all.middle
either moment s account (ResetLeaf label reset) now late h allowed =
    let all = crash_atomic s.devices (ResetLeaf label reset) now h allowed.1 allowed.0 in
    either_of (ResetLeaf label reset) _ _ _ (λ n. n) all.middle
either moment s account (RemoveLeaf label) now late h allowed =
    let all = crash_atomic s.devices (RemoveLeaf label) now h allowed.1 allowed.0 in
    either_of (RemoveLeaf label) _ _ _ (λ n. n) all.middle

-- ---- what accounts see once the chip was brought in step again

-- with the leaves before the call they see what they saw before it
sees_old : (moment : ℕ) (s : Platform) (account : ℕ) (op : LeafOp) (now b : ℕ) → IsAllowedLeaf s account op
    → (brought_back s account op now moment).devices.leaves ≡ s.devices.leaves
    → view_of (brought_back s account op now moment) b ≡ view_of s b
sees_old moment s account op now b allowed e =
    let same =
    ap (λ t. owned (owners_after op account s.owners) t b) e ∙ crash.owners_unseen s account op b allowed in
    λ i. record { records = s.records b; leaves = same i }

-- with those after it they see what they see after it
sees_new : (moment : ℕ) (s : Platform) (account : ℕ) (op : LeafOp) (now b : ℕ)
    → (brought_back s account op now moment).devices.leaves ≡ (stepped s.devices op now).leaves
    → view_of (brought_back s account op now moment) b ≡ view_of (done_by s account (Asks op) now) b
sees_new moment s account op now b e =
    let same = ap (λ t. owned (owners_after op account s.owners) t b) e in
    λ i. record { records = s.records b; leaves = same i }

-- the step that is settled
abbrev step_of : ℕ → Op → ℕ → Step
step_of account op now = record { account = account; op = op; now = now }

-- so it is settled
back_settled : (moment : ℕ) → moment < 2 ^ 40 → (s : Platform) (account : ℕ) (op : LeafOp) (now : ℕ) → AreInStep s.devices
    → IsAllowedOp s account (Asks op) now
    → Recovers (halfway s account op now).devices s.devices.leaves
    ⊎ ((IsInsert (Asks op) → ⊥) × Recovers (halfway s account op now).devices (stepped s.devices op now).leaves)
    → IsSettledTo s (step_of account (Asks op) now) (brought_back s account op now moment)
back_settled moment late s account op now h allowed (inl r) = record {
  in_step = r.in_step moment late;
  others = λ b ne. sees_old moment s account op now b allowed.2 r.gives;
  own = inl (sees_old moment s account op now account allowed.2 r.gives);
}
back_settled moment late s account op now h allowed (inr (away, r)) = record {
  in_step = r.in_step moment late;
  others = λ b ne. sees_new moment s account op now b r.gives ∙ other_view s account (Asks op) now b h allowed ne;
  own = inr (away, sees_new moment s account op now account r.gives);
}

-- where nothing came of it, it is settled
old_settled : (s : Platform) (step : Step) → AreInStep s.devices → IsSettledTo s step s
old_settled s step h = record { in_step = h; others = λ b ne. refl; own = inl refl }

-- where it was done, it is settled
new_settled : (s : Platform) (account : ℕ) (op : Op) (now : ℕ) → AreInStep s.devices → IsAllowedOp s account op now
    → (IsInsert op → ⊥) → IsSettledTo s (step_of account op now) (done_by s account op now)
new_settled s account op now h allowed away = record {
  in_step = in_step_after s account op now h allowed;
  others = λ b ne. other_view s account op now b h allowed ne;
  own = inr (away, refl);
}

-- ---- where settling begins, for a call

-- what is there once the record of an insert is removed
abbrev Begins : ℕ → Platform → ℕ → LeafOp → ℕ → Platform → Type 0
Begins moment s account op now z =
    (z ≡ s) ⊎ (z ≡ halfway s account op now)
    ⊎ ((IsInsert (Asks op) → ⊥) × (z ≡ done_by s account (Asks op) now))
    ⊎ (z ≡ brought_back s account op now moment)

-- no other call's record is removed
begins_plainly : (moment : ℕ) (s : Platform) (account : ℕ) (op : LeafOp) (now : ℕ) (q : Platform) → (IsInsert (Asks op) → ⊥)
    → IsUnsettled moment s account (Asks op) now q → Begins moment s account op now q
unfolding IsUnsettled IsImageOf
begins_plainly moment s account op now q away (inl (inl e)) = inl e
begins_plainly moment s account op now q away (inl (inr (inl e))) = inr (inl e)
begins_plainly moment s account op now q away (inl (inr (inr e))) = inr (inr (inl (away, e)))
begins_plainly moment s account op now q away (inr e) = inr (inr (inr e))

module _ (moment : ℕ) (s : Platform) (account label : ℕ) (les hes reset : List ℕ) (schedule : List (ℕ × ℕ))
    (iv : List ℕ) (now : ℕ) (h : AreInStep s.devices) (lt : label < 16384) (free : s.devices.leaves label ≡ None) where
  abbrev insertion : LeafOp
  insertion = InsertLeaf label les hes reset schedule iv

  -- the platform without the insert's record
  abbrev cut : Platform → Platform
  cut q = record q { devices = without_record q.devices label }

  -- with these leaves
  abbrev with_leaves : Platform → Leaves → Platform
  with_leaves q t = record q { devices = record { words = q.devices.words; leaves = t } }

  cut_old : cut s ≡ s
  cut_old = ap (with_leaves s) (none_taken s.devices.leaves label free)

  cut_half : cut (halfway s account insertion now) ≡ halfway s account insertion now
  cut_half = ap (with_leaves (halfway s account insertion now)) (none_taken s.devices.leaves label free)

  cut_done : cut (done_by s account (Asks insertion) now) ≡ halfway s account insertion now
  cut_done =
      ap (with_leaves (halfway s account insertion now))
      (ap (λ t. with_leaf t label None) (inserts s.devices label now h lt les hes reset schedule iv free)
      ∙ taken_away s.devices.leaves label (Some (new_contents label les hes reset schedule iv)) free)

  cut_back : cut (brought_back s account insertion now moment) ≡ brought_back s account insertion now moment
  cut_back =
      let r = insert_undone s.devices label les hes reset schedule iv now h lt free in
      ap (with_leaves (brought_back s account insertion now moment))
      (none_taken (brought_back s account insertion now moment).devices.leaves label
      (ap (λ (t : Leaves). t label) r.gives ∙ free))

  -- an insert's is
  begins_cut : (q : Platform) → IsUnsettled moment s account (Asks insertion) now q → Begins moment s account insertion now (cut q)
  unfolding IsUnsettled IsImageOf
  begins_cut q (inl (inl e)) = inl (ap cut e ∙ cut_old)
  begins_cut q (inl (inr (inl e))) = inr (inl (ap cut e ∙ cut_half))
  begins_cut q (inl (inr (inr e))) = inr (inl (ap cut e ∙ cut_done))
  begins_cut q (inr e) = inr (inr (inr (ap cut e ∙ cut_back)))

-- so it is for each call
begins : (moment : ℕ) (s : Platform) (account : ℕ) (op : LeafOp) (now : ℕ) (q : Platform) → AreInStep s.devices
    → IsAllowedOp s account (Asks op) now → IsUnsettled moment s account (Asks op) now q
    → Begins moment s account op now (unrecorded q (Asks op))
unfolding IsLeafOp IsAllowedLeaf
begins moment s account (InsertLeaf label les hes reset schedule iv) now q h allowed left =
    let ok = allowed.1 in
    begins_cut moment s account label les hes reset schedule iv now h ok.0 allowed.2 q left
begins moment s account (TryLeaf label les) now q h allowed left =
    begins_plainly moment s account (TryLeaf label les) now q (λ n. n) left
begins moment s account (ResetLeaf label reset) now q h allowed left =
    begins_plainly moment s account (ResetLeaf label reset) now q (λ n. n) left
begins moment s account (RemoveLeaf label) now q h allowed left =
    begins_plainly moment s account (RemoveLeaf label) now q (λ n. n) left

-- ---- where it ends

-- a platform that is in step is brought to itself
brought_to_itself : (moment : ℕ) (q : Platform) → AreInStep q.devices → brought_in_step moment q ≡ q
brought_to_itself moment q h =
    let e = recovered_in_step q.devices moment h in
    λ i. record { devices = e i; owners = q.owners; records = q.records }

-- what is settled, and that it may have been left
record IsEnd (moment : ℕ) (s : Platform) (account : ℕ) (op : Op) (now : ℕ) (z : Platform) : Type 0 where
  settled : IsSettledTo s (step_of account op now) z
  left : IsUnsettled moment s account op now z

module _ (moment : ℕ) (late : moment < 2 ^ 40) (s : Platform) (account : ℕ) (op : LeafOp) (now : ℕ)
    (h : AreInStep s.devices) (allowed : IsAllowedOp s account (Asks op) now) where
  abbrev Ends : Platform → Type 0
  Ends z = IsEnd moment s account (Asks op) now z

  ends_old : Ends s
  unfolding IsUnsettled IsImageOf
  ends_old = record { settled = old_settled s (step_of account (Asks op) now) h; left = inl (inl refl) }

  ends_back : Ends (brought_back s account op now moment)
  unfolding IsUnsettled
  ends_back = record {
    settled = back_settled moment late s account op now h allowed (either moment s account op now late h allowed);
    left = inr refl;
  }

  ends_new : (IsInsert (Asks op) → ⊥) → Ends (done_by s account (Asks op) now)
  unfolding IsUnsettled IsImageOf
  ends_new away = record {
    settled = new_settled s account (Asks op) now h allowed away;
    left = inl (inr (inr refl));
  }

  -- wherever it begins it ends so
  ends_from : (z : Platform) → Begins moment s account op now z → Ends (brought_in_step moment z)
  ends_from z (inl e) =
      subst Ends (sym (ap (brought_in_step moment) e ∙ brought_to_itself moment s h)) ends_old
  ends_from z (inr (inl e)) = subst Ends (sym (ap (brought_in_step moment) e)) ends_back
  ends_from z (inr (inr (inl (away, e)))) =
      let in_step = in_step_after s account (Asks op) now h allowed in
      subst Ends
      (sym (ap (brought_in_step moment) e ∙ brought_to_itself moment (done_by s account (Asks op) now) in_step))
      (ends_new away)
  ends_from z (inr (inr (inr e))) =
      let there = ends_back.settled in
      subst Ends
      (sym (ap (brought_in_step moment) e
      ∙ brought_to_itself moment (brought_back s account op now moment) there.in_step)) ends_back

  -- and it may begin anew at each moment
  begins_left : (z : Platform) → Begins moment s account op now z → IsUnsettled moment s account (Asks op) now z
  unfolding IsUnsettled IsImageOf
  begins_left z (inl e) = inl (inl e)
  begins_left z (inr (inl e)) = inl (inr (inl e))
  begins_left z (inr (inr (inl (away, e)))) = inl (inr (inr e))
  begins_left z (inr (inr (inr e))) = inr e

-- ---- settling, for each step

-- a step on records leaves the devices as they were
record_end : (moment : ℕ) (s : Platform) (account : ℕ) (op : Op) (now : ℕ) (q : Platform) → AreInStep q.devices
    → IsEnd moment s account op now q → IsEnd moment s account op now (brought_in_step moment q)
record_end moment s account op now q h end =
    subst (IsEnd moment s account op now) (sym (brought_to_itself moment q h)) end

-- it ends in step, and may begin anew where it ends
ends : (moment : ℕ) (s : Platform) (account : ℕ) (op : Op) (now : ℕ) (q : Platform) → moment < 2 ^ 40
    → AreInStep s.devices → IsAllowedOp s account op now → IsUnsettled moment s account op now q
    → IsEnd moment s account op now (settled moment op q)
unfolding IsUnsettled IsImageOf
ends moment s account Looks now q late h allowed e =
    subst (λ z. IsEnd moment s account Looks now (brought_in_step moment z)) (sym e)
    (record_end moment s account Looks now s h
    (record { settled = old_settled s (step_of account Looks now) h; left = refl }))
ends moment s account (Puts name bytes) now q late h allowed (inl e) =
    subst (λ z. IsEnd moment s account (Puts name bytes) now (brought_in_step moment z)) (sym e)
    (record_end moment s account (Puts name bytes) now s h
    (record { settled = old_settled s (step_of account (Puts name bytes) now) h; left = inl refl }))
ends moment s account (Puts name bytes) now q late h allowed (inr e) =
    subst (λ z. IsEnd moment s account (Puts name bytes) now (brought_in_step moment z)) (sym e)
    (record_end moment s account (Puts name bytes) now (done_by s account (Puts name bytes) now) h
    (record { settled = new_settled s account (Puts name bytes) now h allowed (λ n. n); left = inr refl }))
ends moment s account (Removes name) now q late h allowed (inl e) =
    subst (λ z. IsEnd moment s account (Removes name) now (brought_in_step moment z)) (sym e)
    (record_end moment s account (Removes name) now s h
    (record { settled = old_settled s (step_of account (Removes name) now) h; left = inl refl }))
ends moment s account (Removes name) now q late h allowed (inr e) =
    subst (λ z. IsEnd moment s account (Removes name) now (brought_in_step moment z)) (sym e)
    (record_end moment s account (Removes name) now (done_by s account (Removes name) now) h
    (record { settled = new_settled s account (Removes name) now h allowed (λ n. n); left = inr refl }))
ends moment s account (Asks op) now q late h allowed left =
    ends_from moment late s account op now h allowed (unrecorded q (Asks op))
    (begins moment s account op now q h allowed left)

-- what is there once an insert's record is removed may have been left
cut_left : (moment : ℕ) (s : Platform) (account : ℕ) (op : Op) (now : ℕ) (q : Platform) → moment < 2 ^ 40
    → AreInStep s.devices → IsAllowedOp s account op now → IsUnsettled moment s account op now q
    → IsUnsettled moment s account op now (unrecorded q op)
cut_left moment s account Looks now q late h allowed left = left
cut_left moment s account (Puts name bytes) now q late h allowed left = left
cut_left moment s account (Removes name) now q late h allowed left = left
cut_left moment s account (Asks op) now q late h allowed left =
    begins_left moment late s account op now h allowed (unrecorded q (Asks op))
    (begins moment s account op now q h allowed left)

-- ---- the laws of settling

-- settling ends in step
pub settling_ends : (moment : ℕ) (s q : Platform) (step : Step) → moment < 2 ^ 40 → AreInStep s.devices
    → IsAllowed s step → IsUnsettledBy moment s step q → IsSettledTo s step (settled moment step.op q)
settling_ends moment s q step late h allowed left =
    let end = ends moment s step.account step.op step.now q late h allowed left in end.settled

-- what it leaves where it fails may have been left before
pub settling_left : (moment : ℕ) (s q image : Platform) (step : Step) → moment < 2 ^ 40 → AreInStep s.devices
    → IsAllowed s step → IsUnsettledBy moment s step q → IsSettlingImage moment step.op q image
    → IsUnsettledBy moment s step image
settling_left moment s q image step late h allowed left (inl e) = subst (IsUnsettledBy moment s step) (sym e) left
settling_left moment s q image step late h allowed left (inr (inl e)) =
    subst (IsUnsettledBy moment s step) (sym e)
    (cut_left moment s step.account step.op step.now q late h allowed left)
settling_left moment s q image step late h allowed left (inr (inr e)) =
    let end = ends moment s step.account step.op step.now q late h allowed left in
    subst (IsUnsettledBy moment s step) (sym e) end.left

-- what a crash in the step leaves may be settled
pub image_left : (moment : ℕ) (s : Platform) (account : ℕ) (op : Op) (now : ℕ) (q : Platform)
    → IsImageOf s account op now q → IsUnsettled moment s account op now q
unfolding IsUnsettled
image_left moment s account Looks now q image = image
image_left moment s account (Puts name bytes) now q image = image
image_left moment s account (Removes name) now q image = image
image_left moment s account (Asks op) now q image = inl image

-- ---- openings

-- what is brought back is opened to what accounts see of it
back_reopens : (moment : ℕ) (s : Platform) (step : Step) (z : Platform) → IsSettledTo s step z → Reopens s step z
back_reopens moment s step z end moments d late cut small =
    let o = crash.opened_to z z.devices.leaves moments d late (in_step_recovers z.devices end.in_step) cut small in
    let same : (b : ℕ) → view_of (opened z d late) b ≡ view_of z b =
    λ b. crash.seen z d late z.devices.leaves b o in
    record {
      in_step = o.in_step;
      others = λ b ne. same b ∙ end.others b ne;
      own = either_own (same step.account) end.own;
    }
  where
    either_own : {v w old new : View} → v ≡ w
        → (w ≡ old) ⊎ ((IsInsert step.op → ⊥) × (w ≡ new)) → (v ≡ old) ⊎ (v ≡ new)
    either_own e (inl f) = inl (e ∙ f)
    either_own e (inr (away, f)) = inr (e ∙ f)

-- whatever was left is opened to the views before the step or after it
pub left_reopens : (moment : ℕ) (s : Platform) (account : ℕ) (op : Op) (now : ℕ) (q : Platform) → moment < 2 ^ 40
    → AreInStep s.devices → IsAllowedOp s account op now → IsUnsettled moment s account op now q
    → Reopens s (step_of account op now) q
unfolding IsUnsettled
left_reopens moment s account Looks now q late h allowed image =
    crash.survives s account Looks now q h allowed image
left_reopens moment s account (Puts name bytes) now q late h allowed image =
    crash.survives s account (Puts name bytes) now q h allowed image
left_reopens moment s account (Removes name) now q late h allowed image =
    crash.survives s account (Removes name) now q h allowed image
left_reopens moment s account (Asks op) now q late h allowed (inl image) =
    crash.survives s account (Asks op) now q h allowed image
left_reopens moment s account (Asks op) now q late h allowed (inr e) =
    let end = ends_back moment late s account op now h allowed in
    subst (Reopens s (step_of account (Asks op) now)) (sym e)
    (back_reopens moment s (step_of account (Asks op) now) (brought_back s account op now moment) end.settled)

-- ---- the era

-- an unsettled platform is of the era before the step
left_era : (moment : ℕ) (s : Platform) (account : ℕ) (op : Op) (now : ℕ) (q : Platform)
    → IsUnsettled moment s account op now q → era_of q ≡ era_of s
unfolding IsUnsettled IsImageOf
left_era moment s account Looks now q e = ap era_of e
left_era moment s account (Puts name bytes) now q (inl e) = ap era_of e
left_era moment s account (Puts name bytes) now q (inr e) = ap era_of e
left_era moment s account (Removes name) now q (inl e) = ap era_of e
left_era moment s account (Removes name) now q (inr e) = ap era_of e
left_era moment s account (Asks op) now q (inl (inl e)) = ap era_of e
left_era moment s account (Asks op) now q (inl (inr (inl e))) = ap era_of e ∙ era_after s account (Asks op) now
left_era moment s account (Asks op) now q (inl (inr (inr e))) = ap era_of e ∙ era_after s account (Asks op) now
left_era moment s account (Asks op) now q (inr e) =
    let d = (halfway s account op now).devices in
    ap era_of e ∙ era_by d.words (tree_of d) (resync_of d) moment ∙ era_after s account (Asks op) now

-- settling keeps it
pub settled_era : (moment : ℕ) (s q : Platform) (step : Step) → moment < 2 ^ 40 → AreInStep s.devices
    → IsAllowed s step → IsUnsettledBy moment s step q → era_of (settled moment step.op q) ≡ era_of s
settled_era moment s q step late h allowed left =
    let end = ends moment s step.account step.op step.now q late h allowed left in
    left_era moment s step.account step.op step.now (settled moment step.op q) end.left
