-- Each chip call with its record is there whole or not at all, and the tree follows it.
use Rattle.std.proofs.Common.{◌≡◌, ◌≢◌, ◌⊎◌, ℕ, ◌<◌, ◌^◌, inl, inr, true, false, ltb, Option, Some, None, List, [], refl, sym, ◌∙◌, ap, subst, arith}
use Rattle.std.specs.Prelude.{bytes_eq, option_map}
use Rattle.std.proofs.lemmas.Bool.{lt-ltb, ne_eqb, eq-eqb, false≢true}
use Rattle.std.proofs.lemmas.Slice.Eq.{bytes_eq-Decides}
use Rattle.pw_path.specs.Tree.{root, aux_of, no_hash}
use Rattle.pw_path.specs.Path.{root_of}
use Rattle.pw_types.specs.Schedule.{limit_of}
use Rattle.pw_types.specs.declared.stamp.Stamp.{Stamp}
use Rattle.pw_types.proofs.DelayLemmas.{below_limit}
use Rattle.pw_log.specs.declared.entry.LogEntry.{LogEntry}
use Rattle.pw_log.specs.declared.entry.TheConstants.{INSERT, TRY, RESET, NO_VERDICT, RIGHT, WRONG}
use Rattle.pw_leaf.specs.declared.fault.LeafFault.TheVariants.{BadLength}
use Rattle.pw_leaf.specs.Contents.{Contents, IsContents, new_contents, bumped, cleared}
use Rattle.pw_leaf.specs.LeafBytes.{leaf_bytes, leaf_mac}
use Rattle.pw_leaf.specs.Reading.{check_at, look_at, mac_of}
use Rattle.pw_leaf.proofs.Cases.{on_cond}
use Rattle.pw_chip.specs.declared.reply.Reply.{Reply}
use Rattle.pw_chip.specs.declared.reply.Reply.TheVariants.{Done, Inserted, LeafInvalid, LabelUsed, LabelEmpty}
use Rattle.pw_chip.specs.State.{ChipState}
use Rattle.pw_chip.specs.Calls.{CallData, Insert, Remove, Try, Reset}
use Rattle.pw_chip.specs.Step.{logged, is_replayed, redone_by, is_full, opened, try_opened, after_try, reset_opened, after_reset, leaf_entry, insert_step, remove_step, try_step, reset_step, step}
use Rattle.pw_chip.specs.Ledger.{with_leaf, leaves_after}
use Rattle.pw_chip.specs.Law.{value_of, values}
use Rattle.label_tree.specs.Values.{with_value}
use Rattle.pin_ops.specs.Following.{values_after}
use Rattle.pin_recovery.specs.Devices.{Leaves, Devices, tree_of, record_of, AreLeaves, AreInStep}
use Rattle.pin_recovery.specs.LeafCalls.{LeafOp, InsertLeaf, TryLeaf, ResetLeaf, RemoveLeaf, call_of, label_of, stepped, IsLeafOp}
use Rattle.pin_recovery.specs.Recovery.{Recovers, IsCrashAtomic}
use Rattle.pw_leaf.proofs.ChangeLemmas.{IsContents-cleared, IsContents-bumped}
use Rattle.pw_chip.proofs.CallLemmas.{on_tried, on_reset}
use Rattle.pin_recovery.proofs.LeafLemmas.{root_leaf, values_with, leaves_with, new_is_contents, mac_is, opened_own}
use Rattle.pin_recovery.proofs.BehindLemmas.{in_step_recovers, with_entry, in_step_logged, Changes, leaf_behind, insert_behind, removal, remove_behind}

-- ---- a new log entry

-- a call that changes nothing is crash-atomic
stays : (d : Devices) → AreInStep d → IsCrashAtomic d d
stays d h = let r = in_step_recovers d h in record { after = h; first = r; middle = inl r; last = r }

-- between the two writes the host lacks the entry, or nothing where the root stayed
middle_of : (d : Devices) (t : Leaves) (e : LogEntry) → AreInStep d
    → (e.root ≢ d.words.log.newest.root → Recovers (record { words = with_entry d.words e; leaves = d.leaves }) d.leaves ⊎ Recovers (record { words = with_entry d.words e; leaves = d.leaves }) t)
    → Recovers (record { words = logged d.words e; leaves = d.leaves }) d.leaves ⊎ Recovers (record { words = logged d.words e; leaves = d.leaves }) t
unfolding logged
middle_of d t e h behind =
    on_cond (λ v. Recovers (record { words = v; leaves = d.leaves }) d.leaves ⊎ Recovers (record { words = v; leaves = d.leaves }) t) (bytes_eq e.root d.words.log.newest.root) d.words (with_entry d.words e)
    (λ same. inl (in_step_recovers d h))
    (λ other. behind (λ q. false≢true (sym other ∙ (bytes_eq-Decides e.root d.words.log.newest.root).1 q)))

-- a call that adds an entry, where opening one entry behind is known
entry_atomic : (d : Devices) (t : Leaves) (e : LogEntry) → AreInStep d → AreLeaves t → e.root ≡ root (values d.words.keys t)
    → (e.root ≢ d.words.log.newest.root → Recovers (record { words = with_entry d.words e; leaves = d.leaves }) d.leaves ⊎ Recovers (record { words = with_entry d.words e; leaves = d.leaves }) t)
    → IsCrashAtomic d (record { words = logged d.words e; leaves = t })
entry_atomic d t e h leaves r behind = record {
  after = in_step_logged d.words t e leaves h.boot r;
  first = in_step_recovers d h;
  middle = middle_of d t e h behind;
  last = in_step_recovers (record { words = logged d.words e; leaves = t }) (in_step_logged d.words t e leaves h.boot r);
}

-- ---- what a call leaves

-- a call at the label with that reply and those words is crash-atomic, and the tree that follows the reply is that of the leaves
record IsCarriedOut (d : Devices) (label : ℕ) (call : CallData) (now : ℕ) (r : Reply × ChipState) : Type 0 where
  crash : IsCrashAtomic d (record { words = r.1; leaves = leaves_after (record { boot = d.words.boot; at = now }) call r.0 d.leaves })
  tree : values_after r.0 label (tree_of d) ≡ values d.words.keys (leaves_after (record { boot = d.words.boot; at = now }) call r.0 d.leaves)

-- a try or a reset that changed its leaf
leaf_atomic : (d : Devices) (label : ℕ) (x : Contents) (e : LogEntry) (o : Option Contents) → AreInStep d → label < 16384 → d.leaves label ≡ Some x → e.label ≡ label → is_replayed e label ≡ true
    → Changes e → is_full e.verdict x ≡ false → IsContents (redone_by e.verdict e.stamp x) → (redone_by e.verdict e.stamp x).label ≡ label
    → e.mac ≡ leaf_mac d.words.keys (redone_by e.verdict e.stamp x) → e.root ≡ root_of label e.mac (aux_of (tree_of d) label)
    → o ≡ Some (redone_by e.verdict e.stamp x)
    → IsCrashAtomic d (record { words = logged d.words e; leaves = with_leaf d.leaves label o })
leaf_atomic d label x e o h lt there el is changes room good own m r oe =
    let z = redone_by e.verdict e.stamp x in
    let t = with_leaf d.leaves label (Some z) in
    let leaves : AreLeaves t = leaves_with d.leaves label (Some z) h.leaves (λ y q. let same : z ≡ y = cc q in subst (λ u. IsContents u × (u.label ≡ label)) same (good, own)) in
    let root_is : e.root ≡ root (values d.words.keys t) = r ∙ ap (λ hash. root_of label hash (aux_of (tree_of d) label)) m ∙ root_leaf d.words.keys d.leaves label (Some z) lt in
    let all = entry_atomic d t e h leaves root_is (λ ne. inr (leaf_behind d label x e h lt there el is changes room good own m r ne)) in
    subst (λ u. IsCrashAtomic d (record { words = logged d.words e; leaves = with_leaf d.leaves label u })) (sym oe) all

-- the tree with the record's MAC is that of the leaves with its contents
leaf_follows : (d : Devices) (label : ℕ) (z : Contents) (o : Option Contents) → IsContents z → o ≡ Some z
    → with_value (tree_of d) label (mac_of (leaf_bytes d.words.keys z)) ≡ values d.words.keys (with_leaf d.leaves label o)
leaf_follows d label z o good oe =
    values_with d.words.keys d.leaves label o (mac_of (leaf_bytes d.words.keys z)) (mac_is d.words.keys z good ∙ ap (value_of d.words.keys) (sym oe))

-- no bytes are no record
try_none : (w : ChipState) (label : ℕ) (aux : List (List (List ℕ))) (les : List ℕ) (now : ℕ) → label < 16384 → try_step w label aux [] les now ≡ (LeafInvalid (BadLength 0), w)
unfolding try_step opened check_at look_at
try_none w label aux les now lt = rw (lt-ltb label 16384 lt) refl

-- nor for a reset
reset_none : (w : ChipState) (label : ℕ) (aux : List (List (List ℕ))) (reset : List ℕ) (now : ℕ) → label < 16384 → reset_step w label aux [] reset now ≡ (LeafInvalid (BadLength 0), w)
unfolding reset_step opened check_at look_at
reset_none w label aux reset now lt = rw (lt-ltb label 16384 lt) refl

-- ---- the calls

-- a try, by its answer
try_carried : (d : Devices) (label : ℕ) (les : List ℕ) (now : ℕ) (o : Option Contents) → d.leaves label ≡ o → AreInStep d → label < 16384 → now < 2 ^ 40
    → IsCarriedOut d label (Try label (aux_of (tree_of d) label) (record_of d.words.keys o) les) now (step d.words (Try label (aux_of (tree_of d) label) (record_of d.words.keys o) les) now)
unfolding step try_step leaves_after
try_carried d label les now None there h lt small =
    let aux = aux_of (tree_of d) label in
    subst (IsCarriedOut d label (Try label aux [] les) now) (sym (try_none d.words label aux les now lt)) (record { crash = stays d h; tree = refl })
try_carried d label les now (Some x) there h lt small =
    let w = d.words in
    let keys = w.keys in
    let aux = aux_of (tree_of d) label in
    let call = Try label aux (leaf_bytes keys x) les in
    let stamp : Stamp = record { boot = w.boot; at = now } in
    let good = h.leaves.each label x there in
    let own = h.leaves.labels label x there in
    let opens = opened_own keys d.leaves label x w.log.newest.root lt h.leaves there h.root in
    subst (λ r. IsCarriedOut d label call now (try_opened w label aux les now r)) (sym opens)
    (on_tried (λ reply. IsCarriedOut d label call now (reply, after_try w label aux x stamp reply)) keys x les stamp w.start
    (record {
      crash =
          leaf_atomic d label x (leaf_entry keys TRY RIGHT label aux (cleared x) stamp) (option_map cleared (d.leaves label)) h lt there refl (eq-eqb label label refl)
          (record { blank = refl; tree = refl; insert = refl; remove = refl; either = refl }) refl (IsContents-cleared x good) own refl refl (ap (option_map cleared) there);
      tree = leaf_follows d label (cleared x) (option_map cleared (d.leaves label)) (IsContents-cleared x good) (ap (option_map cleared) there);
    })
    (λ ready.
    let below = below_limit x.schedule x.wrong x.last stamp w.start good.schedule (λ q. cc (sym ready ∙ q)) in
    let bumps = IsContents-bumped x stamp good below h.boot small in
    record {
      crash =
          leaf_atomic d label x (leaf_entry keys TRY WRONG label aux (bumped stamp x) stamp) (option_map (bumped stamp) (d.leaves label)) h lt there refl (eq-eqb label label refl)
          (record { blank = refl; tree = refl; insert = refl; remove = refl; either = refl }) (ne_eqb x.wrong (limit_of x.schedule) (λ e. omega arith)) bumps own refl refl (ap (option_map (bumped stamp)) there);
      tree = leaf_follows d label (bumped stamp x) (option_map (bumped stamp) (d.leaves label)) bumps (ap (option_map (bumped stamp)) there);
    })
    (λ u. record { crash = stays d h; tree = refl }) (record { crash = stays d h; tree = refl }))

-- a reset, by its answer
reset_carried : (d : Devices) (label : ℕ) (reset : List ℕ) (now : ℕ) (o : Option Contents) → d.leaves label ≡ o → AreInStep d → label < 16384
    → IsCarriedOut d label (Reset label (aux_of (tree_of d) label) (record_of d.words.keys o) reset) now (step d.words (Reset label (aux_of (tree_of d) label) (record_of d.words.keys o) reset) now)
unfolding step reset_step leaves_after
reset_carried d label reset now None there h lt =
    let aux = aux_of (tree_of d) label in
    subst (IsCarriedOut d label (Reset label aux [] reset) now) (sym (reset_none d.words label aux reset now lt)) (record { crash = stays d h; tree = refl })
reset_carried d label reset now (Some x) there h lt =
    let w = d.words in
    let keys = w.keys in
    let aux = aux_of (tree_of d) label in
    let call = Reset label aux (leaf_bytes keys x) reset in
    let stamp : Stamp = record { boot = w.boot; at = now } in
    let good = h.leaves.each label x there in
    let own = h.leaves.labels label x there in
    let opens = opened_own keys d.leaves label x w.log.newest.root lt h.leaves there h.root in
    subst (λ r. IsCarriedOut d label call now (reset_opened w label aux reset now r)) (sym opens)
    (on_reset (λ reply. IsCarriedOut d label call now (reply, after_reset w label aux x stamp reply)) keys x reset
    (record {
      crash =
          leaf_atomic d label x (leaf_entry keys RESET NO_VERDICT label aux (cleared x) stamp) (option_map cleared (d.leaves label)) h lt there refl (eq-eqb label label refl)
          (record { blank = refl; tree = refl; insert = refl; remove = refl; either = refl }) refl (IsContents-cleared x good) own refl refl (ap (option_map cleared) there);
      tree = leaf_follows d label (cleared x) (option_map cleared (d.leaves label)) (IsContents-cleared x good) (ap (option_map cleared) there);
    })
    (record { crash = stays d h; tree = refl }))

-- an insert, accepted or refused
insert_carried : (d : Devices) (label : ℕ) (les hes reset : List ℕ) (schedule : List (ℕ × ℕ)) (iv : List ℕ) (now : ℕ) → AreInStep d → IsContents (new_contents label les hes reset schedule iv)
    → IsCarriedOut d label (Insert label (aux_of (tree_of d) label) (tree_of d label) les hes reset schedule iv) now (step d.words (Insert label (aux_of (tree_of d) label) (tree_of d label) les hes reset schedule iv) now)
unfolding step insert_step leaves_after
insert_carried d label les hes reset schedule iv now h good =
    let w = d.words in
    let keys = w.keys in
    let v = tree_of d in
    let aux = aux_of v label in
    let y = new_contents label les hes reset schedule iv in
    let call = Insert label aux (v label) les hes reset schedule iv in
    let stamp : Stamp = record { boot = w.boot; at = now } in
    let e = leaf_entry keys INSERT NO_VERDICT label aux y stamp in
    let t = with_leaf d.leaves label (Some y) in
    let lt = good.label in
    on_cond (IsCarriedOut d label call now) (ltb label 16384) _ _
    (λ _. on_cond (IsCarriedOut d label call now) (bytes_eq (root_of label (v label) aux) w.log.newest.root) _ _
    (λ _. on_cond (IsCarriedOut d label call now) (bytes_eq (v label) no_hash) (Inserted (leaf_bytes keys y), logged w e) (LabelUsed, w)
    (λ empty.
    let zero : v label ≡ no_hash = (bytes_eq-Decides (v label) no_hash).0 empty in
    let leaves : AreLeaves t = leaves_with d.leaves label (Some y) h.leaves (λ x q. let same : y ≡ x = cc q in subst (λ u. IsContents u × (u.label ≡ label)) same (good, refl)) in
    record {
      crash = entry_atomic d t e h leaves (root_leaf keys d.leaves label (Some y) lt) (λ ne. inl (insert_behind d label y stamp h lt zero ne));
      tree = leaf_follows d label y (Some y) good refl;
    })
    (λ _. record { crash = stays d h; tree = refl }))
    (λ _. record { crash = stays d h; tree = refl }))
    (λ _. record { crash = stays d h; tree = refl })

-- a remove, done or refused
remove_carried : (d : Devices) (label now : ℕ) → AreInStep d → label < 16384
    → IsCarriedOut d label (Remove label (aux_of (tree_of d) label) (tree_of d label)) now (step d.words (Remove label (aux_of (tree_of d) label) (tree_of d label)) now)
unfolding step remove_step leaves_after
remove_carried d label now h lt =
    let w = d.words in
    let keys = w.keys in
    let v = tree_of d in
    let aux = aux_of v label in
    let call = Remove label aux (v label) in
    let e = removal w label aux now in
    let t = with_leaf d.leaves label None in
    on_cond (IsCarriedOut d label call now) (ltb label 16384) _ _
    (λ _. on_cond (IsCarriedOut d label call now) (bytes_eq (root_of label (v label) aux) w.log.newest.root) _ _
    (λ _. on_cond (IsCarriedOut d label call now) (bytes_eq (v label) no_hash) (LabelEmpty, w) (Done, logged w e)
    (λ _. record { crash = stays d h; tree = refl })
    (λ _. record {
      crash = entry_atomic d t e h (leaves_with d.leaves label None h.leaves (λ x q. cc q)) (root_leaf keys d.leaves label None lt) (λ ne. inr (remove_behind d label now h lt ne));
      tree = values_with keys d.leaves label None no_hash refl;
    }))
    (λ _. record { crash = stays d h; tree = refl }))
    (λ _. record { crash = stays d h; tree = refl })

-- each of the four
carried : (d : Devices) (op : LeafOp) (now : ℕ) → AreInStep d → IsLeafOp op → now < 2 ^ 40
    → IsCarriedOut d (label_of op) (call_of d.words.keys d.leaves op) now (step d.words (call_of d.words.keys d.leaves op) now)
unfolding call_of IsLeafOp
carried d (InsertLeaf label les hes reset schedule iv) now h ok small = insert_carried d label les hes reset schedule iv now h (new_is_contents label les hes reset schedule iv ok)
carried d (TryLeaf label les) now h ok small = try_carried d label les now (d.leaves label) refl h ok small
carried d (ResetLeaf label reset) now h ok small = reset_carried d label reset now (d.leaves label) refl h ok
carried d (RemoveLeaf label) now h ok small = remove_carried d label now h ok

-- each chip call with its record is there whole or not at all
pub crash_atomic : (d : Devices) (op : LeafOp) (now : ℕ) → AreInStep d → IsLeafOp op → now < 2 ^ 40 → IsCrashAtomic d (stepped d op now)
unfolding stepped
crash_atomic d op now h ok small = let c = carried d op now h ok small in c.crash

-- the tree that follows the reply, under the keys before the call
pub tree_carried : (d : Devices) (op : LeafOp) (now : ℕ) → AreInStep d → IsLeafOp op → now < 2 ^ 40
    → values_after (step d.words (call_of d.words.keys d.leaves op) now).0 (label_of op) (tree_of d) ≡ values d.words.keys (stepped d op now).leaves
unfolding stepped
tree_carried d op now h ok small = let c = carried d op now h ok small in c.tree
