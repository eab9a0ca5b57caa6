-- A host that lacks the newest entry: what opening makes of it.
use Rattle.std.proofs.Common.{◌≡◌, ◌≢◌, ℕ, ◌<◌, ◌^◌, inl, inr, true, false, cond, eqb, ◌||◌, Option, Some, None, List, refl, sym, ◌∙◌, ap, subst}
use Rattle.std.specs.Prelude.{bytes_eq, unwrap_or}
use Rattle.std.proofs.lemmas.Slice.Eq.{bytes_eq-Decides}
use Rattle.std.proofs.lemmas.Bool.{cases_eq, lt-ltb}
use Rattle.pw_path.specs.Tree.{root, aux_of, AgreeBut, no_hash}
use Rattle.pw_path.specs.Path.{root_of}
use Rattle.pw_path.proofs.TreeLemmas.{root_of_true, aux_of_same, set_value_other, set_value_same}
use Rattle.pw_types.specs.declared.stamp.Stamp.{Stamp}
use Rattle.pw_log.specs.declared.entry.LogEntry.{LogEntry}
use Rattle.pw_log.specs.declared.entry.TheConstants.{BLANK, INSERT, REMOVE, RESET_TREE, TRY, RESET, NO_VERDICT}
use Rattle.pw_log.specs.declared.answer.LogAnswer.TheVariants.{One}
use Rattle.pw_log.specs.Entries.{pushed}
use Rattle.pw_leaf.specs.Contents.{Contents, IsContents}
use Rattle.pw_leaf.specs.LeafBytes.{leaf_bytes, leaf_mac}
use Rattle.pw_leaf.specs.Reading.{mac_of}
use Rattle.pw_leaf.proofs.Cases.{on_cond}
use Rattle.pw_chip.specs.declared.reply.Reply.{Reply}
use Rattle.pw_chip.specs.declared.reply.Reply.TheVariants.{Done, Replayed}
use Rattle.pw_chip.specs.State.{ChipState}
use Rattle.pw_chip.specs.Step.{logged, is_replayed, redone_by, is_full, leaf_entry, remove_step, replay_step, step}
use Rattle.pw_chip.specs.Ledger.{with_leaf}
use Rattle.pw_chip.specs.Law.{values}
use Rattle.pw_chip.proofs.StepLemmas.{replay_step-done}
use Rattle.label_tree.specs.Values.{with_value}
use Rattle.label_tree.proofs.NodeLemmas.{root_with}
use Rattle.log_replay.specs.declared.replaying.Replay.TheVariants as plan
use Rattle.log_replay.specs.Replaying.{plan_of, applied}
use Rattle.pin_ops.specs.declared.answer.Resync.{Resync}
use Rattle.pin_ops.specs.declared.answer.Resync.TheVariants as resync
use Rattle.pin_ops.specs.Following.{IsFound}
use Rattle.pin_ops.specs.Resyncing.{lost, redone, replayed, replay_of, put_if_noted, missing, resynced}
use Rattle.pin_recovery.specs.Devices.{Leaves, Devices, tree_of, record_at, held_in, AreLeaves, AreInStep}
use Rattle.pin_recovery.specs.Recovery.{resync_of, leaves_by, words_by, tree_by, undone, Recovers}
use Rattle.pw_log.proofs.LogLemmas.{same_root, other_root}
use Rattle.pin_recovery.proofs.LeafLemmas.{root_leaf, values_with, leaves_with, mac_is, held_written, opened_own}

-- ---- the log's answer

-- a host with the newest root is in step
pub resynced-in_step : (w : ChipState) (v : ℕ → List ℕ) (leaf : Option (List ℕ)) → w.log.newest.root ≡ root v → resynced w v leaf ≡ resync.InStep
unfolding resynced
resynced-in_step w v leaf e = rw (same_root w.log.newest.root (root v) e) refl

-- a host that lacks the newest entry, and can redo it
resynced-behind : (w : ChipState) (v : ℕ → List ℕ) (leaf : Option (List ℕ)) (answer : Resync) → w.log.newest.root ≢ root v → w.log.older.root ≡ root v
    → root (redone w v) ≡ w.log.newest.root → missing w v leaf ≡ Some answer → resynced w v leaf ≡ answer
unfolding resynced
resynced-behind w v leaf answer ne e reaches is =
    rw (other_root w.log.newest.root (root v) ne)
    (rw (same_root w.log.older.root (root v) e)
    (ap (λ b. cond b (unwrap_or (missing w v leaf) (lost w v)) (lost w v)) (same_root (root (redone w v)) w.log.newest.root reaches)
    ∙ ap (λ o. unwrap_or o (lost w v)) is))

-- ---- opening by a known answer

-- devices whose resync has this answer recover by it
pub recovers_by : (d : Devices) (t : Leaves) (answer : Resync) → resync_of d ≡ answer → IsFound answer → leaves_by d.words.keys answer d.leaves ≡ t
    → tree_by answer d.words.log.newest.mac (tree_of d) ≡ values d.words.keys t
    → ((now : ℕ) → now < 2 ^ 40 → AreInStep (record { words = words_by d.words (tree_of d) answer now; leaves = leaves_by d.words.keys answer d.leaves }))
    → Recovers d t
recovers_by d t answer e found gives tree in_step = record {
  found = subst IsFound (sym e) found;
  gives = ap (λ a. leaves_by d.words.keys a d.leaves) e ∙ gives;
  tree = ap (λ a. tree_by a d.words.log.newest.mac (tree_of d)) e ∙ tree;
  in_step = λ now small. subst (λ a. AreInStep (record { words = words_by d.words (tree_of d) a now; leaves = leaves_by d.words.keys a d.leaves })) (sym e) (in_step now small);
}

-- devices that are in step open to their leaves
pub in_step_recovers : (d : Devices) → AreInStep d → Recovers d d.leaves
in_step_recovers d h =
    recovers_by d d.leaves resync.InStep (resynced-in_step d.words (tree_of d) (record_at d.words.keys (d.leaves d.words.log.newest.label)) h.root) tt refl refl (λ now small. h)

-- ---- a new log entry

-- the words with one more entry
abbrev pub with_entry : ChipState → LogEntry → ChipState
with_entry w e = record w { log = pushed w.log e }

-- the words with an entry whose root is that of the leaves
pub in_step_logged : (w : ChipState) (t : Leaves) (e : LogEntry) → AreLeaves t → w.boot < 2 ^ 64 → e.root ≡ root (values w.keys t) → AreInStep (record { words = logged w e; leaves = t })
unfolding logged
in_step_logged w t e leaves boot r =
    on_cond (λ v. AreInStep (record { words = v; leaves = t })) (bytes_eq e.root w.log.newest.root) w (with_entry w e)
    (λ same. record { leaves = leaves; root = sym ((bytes_eq-Decides e.root w.log.newest.root).0 same) ∙ r; boot = boot })
    (λ _. record { leaves = leaves; root = r; boot = boot })

-- ---- one entry behind: a leaf that a try or a reset changed

-- an entry of a try or a reset, by its tests
pub record Changes (e : LogEntry) : Type 0 where
  pub blank : eqb e.operation BLANK ≡ false
  pub tree : eqb e.operation RESET_TREE ≡ false
  pub insert : eqb e.operation INSERT ≡ false
  pub remove : eqb e.operation REMOVE ≡ false
  pub either : eqb e.operation TRY || eqb e.operation RESET ≡ true

-- it puts its MAC
planned : (e : LogEntry) → Changes e → plan_of (One e) ≡ plan.Put e
planned e h = rw h.blank (rw h.tree (rw h.remove refl))

-- and asks the chip for its record
asked : (w : ChipState) (v : ℕ → List ℕ) (leaf : Option (List ℕ)) → Changes w.log.newest → missing w v leaf ≡ put_if_noted w.log.newest (replay_of w v leaf)
unfolding missing
asked w v leaf h = rw h.insert (rw h.remove (rw h.tree (rw h.either refl)))

-- the chip gives the record, and opening puts it
pub leaf_behind : (d : Devices) (label : ℕ) (x : Contents) (e : LogEntry) → AreInStep d → label < 16384 → d.leaves label ≡ Some x → e.label ≡ label → is_replayed e label ≡ true
    → Changes e → is_full e.verdict x ≡ false → IsContents (redone_by e.verdict e.stamp x) → (redone_by e.verdict e.stamp x).label ≡ label
    → e.mac ≡ leaf_mac d.words.keys (redone_by e.verdict e.stamp x) → e.root ≡ root_of label e.mac (aux_of (tree_of d) label)
    → e.root ≢ d.words.log.newest.root
    → Recovers (record { words = with_entry d.words e; leaves = d.leaves }) (with_leaf d.leaves label (Some (redone_by e.verdict e.stamp x)))
leaf_behind d label x e h lt there el is changes room good own m r ne =
    let w = with_entry d.words e in
    let keys = d.words.keys in
    let v = tree_of d in
    let z = redone_by e.verdict e.stamp x in
    let t = with_leaf d.leaves label (Some z) in
    let leaf = leaf_bytes keys z in
    let kept = record_at keys (d.leaves e.label) in
    let opens = opened_own keys d.leaves label x d.words.log.newest.root lt h.leaves there h.root in
    let done : replay_step w label (aux_of v label) (leaf_bytes keys x) ≡ (Replayed leaf, w) =
    replay_step-done w label (aux_of v label) (leaf_bytes keys x) e lt refl is x opens false room (Replayed leaf) refl in
    let given : replay_of w v kept ≡ Some leaf =
    ap (λ l. replay_of w v (record_at keys (d.leaves l))) el
    ∙ ap (λ o. replay_of w v (record_at keys o)) there
    ∙ ap (λ l. replayed (replay_step w l (aux_of v l) (leaf_bytes keys x)).0) el
    ∙ ap (λ (q : Reply × ChipState). replayed q.0) done in
    let noted : put_if_noted e (Some leaf) ≡ Some (resync.Put e.label leaf) = rw (same_root (mac_of leaf) e.mac (mac_is keys z good ∙ sym m)) refl in
    let answer : missing w v kept ≡ Some (resync.Put e.label leaf) = asked w v kept changes ∙ ap (put_if_noted e) given ∙ noted in
    let reaches : root (redone w v) ≡ e.root =
    ap (λ p. root (applied p v)) (planned e changes) ∙ ap (λ l. root (with_value v l e.mac)) el ∙ sym (root_with v label e.mac lt) ∙ sym r in
    let behind = resynced-behind w v kept (resync.Put e.label leaf) (λ q. ne (q ∙ sym h.root)) h.root reaches answer in
    let after : leaves_by keys (resync.Put e.label leaf) d.leaves ≡ t = ap (λ l. with_leaf d.leaves l (held_in keys leaf)) el ∙ ap (with_leaf d.leaves label) (held_written keys z good) in
    let leaves : AreLeaves t = leaves_with d.leaves label (Some z) h.leaves (λ y q. let same : z ≡ y = cc q in subst (λ u. IsContents u × (u.label ≡ label)) same (good, own)) in
    recovers_by (record { words = w; leaves = d.leaves }) t (resync.Put e.label leaf) behind tt after
    (ap (λ l. with_value v l (mac_of leaf)) el ∙ values_with keys d.leaves label (Some z) (mac_of leaf) (mac_is keys z good))
    (λ now small. subst (λ u. AreInStep (record { words = w; leaves = u })) (sym after)
    (record { leaves = leaves; root = r ∙ ap (λ hash. root_of label hash (aux_of v label)) m ∙ root_leaf keys d.leaves label (Some z) lt; boot = h.boot }))

-- ---- one entry behind: an insert, which opening undoes

-- the entry of a leaf's removal
abbrev pub removal : ChipState → ℕ → List (List (List ℕ)) → ℕ → LogEntry
removal w label aux now = record { operation = REMOVE; label = label; root = root_of label no_hash aux; mac = no_hash; verdict = NO_VERDICT; stamp = record { boot = w.boot; at = now } }

-- a remove by the MAC that stands there is done
pub remove_done : (w : ChipState) (label : ℕ) (aux : List (List (List ℕ))) (mac : List ℕ) (now : ℕ) → label < 16384 → root_of label mac aux ≡ w.log.newest.root → mac ≢ no_hash
    → remove_step w label aux mac now ≡ (Done, logged w (removal w label aux now))
unfolding remove_step
remove_done w label aux mac now lt e ne = rw (lt-ltb label 16384 lt) (rw (same_root (root_of label mac aux) w.log.newest.root e) (rw (other_root mac no_hash ne) refl))

-- other labels keep their values
agree : (v : ℕ → List ℕ) (label : ℕ) (hash : List ℕ) → AgreeBut label v (with_value v label hash)
unfolding AgreeBut
agree v label hash = λ j ne. set_value_other v label hash j ne

-- the words once an inserted leaf is removed again
undone_in_step : (w : ChipState) (t : Leaves) (label : ℕ) (now : ℕ) → label < 16384 → AreLeaves t → w.boot < 2 ^ 64 → values w.keys t label ≡ no_hash
    → root_of label w.log.newest.mac (aux_of (values w.keys t) label) ≡ w.log.newest.root → w.log.newest.mac ≢ no_hash
    → AreInStep (record { words = undone w (values w.keys t) label now; leaves = t })
unfolding step
undone_in_step w t label now lt leaves boot zero r ne =
    let v = values w.keys t in
    let mac = w.log.newest.mac in
    let aux = aux_of (with_value v label mac) label in
    let same : aux ≡ aux_of v label = aux_of_same v (with_value v label mac) label (agree v label mac) in
    let e = removal w label aux now in
    let done = remove_done w label aux mac now lt (ap (root_of label mac) same ∙ r) ne in
    let back : e.root ≡ root v = ap (root_of label no_hash) same ∙ ap (λ m. root_of label m (aux_of v label)) (sym zero) ∙ root_of_true v label lt in
    subst (λ (q : Reply × ChipState). AreInStep (record { words = q.1; leaves = t })) (sym done) (in_step_logged w t e leaves boot back)

-- an empty label that was given a value, and lost it again
taken_again : (v : ℕ → List ℕ) (label : ℕ) (hash : List ℕ) → v label ≡ no_hash → with_value (with_value v label hash) label no_hash ≡ v
taken_again v label hash zero =
    let at : (i : ℕ) → with_value (with_value v label hash) label no_hash i ≡ v i =
    λ i. elim (cases_eq i label) [
      | inl same ↦ rw same (set_value_same (with_value v label hash) label no_hash ∙ sym zero)
      | inr ne ↦ set_value_other (with_value v label hash) label no_hash i ne ∙ set_value_other v label hash i ne
    ] in
    λ j i. at i j

-- opening sets the value, and the chip removes the leaf again
pub insert_behind : (d : Devices) (label : ℕ) (y : Contents) (stamp : Stamp) → AreInStep d → label < 16384 → tree_of d label ≡ no_hash
    → root_of label (leaf_mac d.words.keys y) (aux_of (tree_of d) label) ≢ d.words.log.newest.root
    → Recovers (record { words = with_entry d.words (leaf_entry d.words.keys INSERT NO_VERDICT label (aux_of (tree_of d) label) y stamp); leaves = d.leaves }) d.leaves
unfolding missing
insert_behind d label y stamp h lt zero ne =
    let keys = d.words.keys in
    let v = tree_of d in
    let e = leaf_entry keys INSERT NO_VERDICT label (aux_of v label) y stamp in
    let w = with_entry d.words e in
    let leaf = record_at keys (d.leaves label) in
    let answer : missing w v leaf ≡ Some (resync.Inserted label) = rw (same_root (v label) no_hash zero) refl in
    let behind = resynced-behind w v leaf (resync.Inserted label) (λ q. ne (q ∙ sym h.root)) h.root (sym (root_with v label (leaf_mac keys y) lt)) answer in
    let used : leaf_mac keys y ≢ no_hash =
    λ q. ne (ap (λ m. root_of label m (aux_of v label)) (q ∙ sym zero) ∙ root_of_true v label lt ∙ sym h.root) in
    recovers_by (record { words = w; leaves = d.leaves }) d.leaves (resync.Inserted label) behind tt refl (taken_again v label (leaf_mac keys y) zero)
    (λ now small. undone_in_step w d.leaves label now lt h.leaves h.boot zero refl used)

-- ---- one entry behind: a remove

-- opening removes the record
pub remove_behind : (d : Devices) (label now : ℕ) → AreInStep d → label < 16384
    → root_of label no_hash (aux_of (tree_of d) label) ≢ d.words.log.newest.root
    → Recovers (record { words = with_entry d.words (removal d.words label (aux_of (tree_of d) label) now); leaves = d.leaves }) (with_leaf d.leaves label None)
unfolding missing
remove_behind d label now h lt ne =
    let keys = d.words.keys in
    let v = tree_of d in
    let w = with_entry d.words (removal d.words label (aux_of v label) now) in
    let leaf = record_at keys (d.leaves label) in
    let behind = resynced-behind w v leaf (resync.Removed label) (λ q. ne (q ∙ sym h.root)) h.root (sym (root_with v label no_hash lt)) refl in
    recovers_by (record { words = w; leaves = d.leaves }) (with_leaf d.leaves label None) (resync.Removed label) behind tt refl (values_with keys d.leaves label None no_hash refl)
    (λ at small. record { leaves = leaves_with d.leaves label None h.leaves (λ x q. cc q); root = root_leaf keys d.leaves label None lt; boot = h.boot })
