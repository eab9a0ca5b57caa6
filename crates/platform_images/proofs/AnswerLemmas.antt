-- Which answers a resync gives.
use Rattle.std.proofs.Common.{◌≡◌, ℕ, ◌<◌, ◌≤◌, ◌^◌, inl, inr, Bool, true, false, eqb, ltb, ◌||◌, ◌&&◌}
use Rattle.std.proofs.Common.{Option, None, Some, Ok, List, refl, sym, ◌∙◌, ap, subst, arith}
use Rattle.std.proofs.Common.{true≢false}
use Rattle.std.specs.Prelude.{IsSome, bytes_eq, nat_le, unwrap_or}
use Rattle.std.proofs.lemmas.Bool.{cases_eq, eqb-true, eq-eqb}
use Rattle.std.proofs.lemmas.Slice.Eq.{bytes_eq-Decides}
use Rattle.pw_path.specs.Tree.{root, aux_of, no_hash}
use Rattle.pw_path.specs.Path.{root_of}
use Rattle.pw_types.specs.Schedule.{limit_of}
use Rattle.pw_log.specs.declared.entry.LogEntry.{LogEntry}
use Rattle.pw_log.specs.declared.entry.TheConstants.{INSERT, REMOVE, RESET_TREE, TRY, RESET, WRONG}
use Rattle.pw_log.specs.declared.answer.LogAnswer.TheVariants.{One}
use Rattle.pw_leaf.specs.declared.keys.ChipKeys.{ChipKeys}
use Rattle.pw_leaf.specs.Contents.{Contents, IsContents, bumped, cleared}
use Rattle.pw_leaf.specs.LeafBytes.{leaf_bytes}
use Rattle.pw_leaf.specs.Reading.{mac_of, check_at}
use Rattle.pw_leaf.proofs.Cases.{on_cond}
use Rattle.pw_leaf.proofs.ChangeLemmas.{IsContents-bumped, IsContents-cleared}
use Rattle.pw_leaf.proofs.RecordLemmas.{check_at-leaf_bytes}
use Rattle.pw_chip.specs.declared.reply.Reply.{Reply}
use Rattle.pw_chip.specs.declared.reply.Reply.TheVariants.{Locked, Replayed, RootUnknown, LabelInvalid}
use Rattle.pw_chip.specs.State.{ChipState}
use Rattle.pw_chip.specs.Step.{opened, is_replayed, redone_by, is_full, replay_opened, replay_step, opened_on}
use Rattle.pw_chip.specs.Law.{value_of, values}
use Rattle.pw_chip.specs.WordsBytes.{IsWords}
use Rattle.label_tree.specs.Values.{with_value, used_below}
use Rattle.log_replay.specs.Replaying.{plan_of, applied}
use Rattle.pin_ops.specs.declared.answer.Resync.{Resync}
use Rattle.pin_ops.specs.declared.answer.Resync.TheVariants.{InStep, Inserted, Put, Removed, Emptied, Lost}
use Rattle.pin_ops.specs.Resyncing.{lost, redone, redo, replayed, replay_of, put_if_noted, missing, resynced}
use Rattle.pin_recovery.specs.Devices.{Leaves, Devices, AreLeaves, tree_of, record_at}
use Rattle.pin_recovery.specs.Recovery.{resync_of}

-- ---- a leaf that is redone

-- a leaf that isn't full has a try left
room : (wrong limit : ℕ) → wrong ≤ limit → eqb wrong limit ≡ false → wrong < limit
room wrong limit within e =
    elim (cases_eq wrong limit) [
      | inl same ↦ absurd (true≢false (sym (eq-eqb wrong limit same) ∙ e))
      | inr ne ↦ omega (arith, ne)
    ]

-- what an entry that is kept makes of a leaf's contents is a leaf's
redone_good : (e : LogEntry) (x : Contents) → IsContents x → e.stamp.boot < 2 ^ 64 → e.stamp.at < 2 ^ 40
    → is_full e.verdict x ≡ false → IsContents (redone_by e.verdict e.stamp x)
redone_good e x is boot moment free =
    on_cond IsContents (eqb e.verdict WRONG) (bumped e.stamp x) (cleared x)
    (λ wrong. IsContents-bumped x e.stamp is
    (room x.wrong (limit_of x.schedule) is.wrong
    (subst (λ (b : Bool). (b && eqb x.wrong (limit_of x.schedule)) ≡ false) wrong free)) boot moment)
    (λ _. IsContents-cleared x is)

-- and of the same label
redone_label : (e : LogEntry) (x : Contents) → (redone_by e.verdict e.stamp x).label ≡ x.label
redone_label e x =
    on_cond (λ (y : Contents). y.label ≡ x.label) (eqb e.verdict WRONG) (bumped e.stamp x) (cleared x) (λ _. refl)
    (λ _. refl)

-- ---- the answers

-- a remove empties its label
dropped : (e : LogEntry) (v : ℕ → List ℕ) → eqb e.operation REMOVE ≡ true
    → applied (plan_of (One e)) v
    ≡ with_value v e.label no_hash
dropped e v is =
    let same : e.operation ≡ REMOVE = eqb-true e.operation REMOVE is in
    rw same refl

-- an empty label that is emptied changes nothing
emptied_same : (v : ℕ → List ℕ) (label : ℕ) → v label ≡ no_hash → with_value v label no_hash ≡ v
emptied_same v label zero =
    let at : (i : ℕ) → with_value v label no_hash i ≡ v i =
    λ i. on_cond (λ (hash : List ℕ). hash ≡ v i) (eqb i label) no_hash (v i)
    (λ same. sym zero ∙ ap v (sym (eqb-true i label same))) (λ _. refl) in
    λ j i. at i j

-- a label whose value isn't that of an empty one has a leaf
used_some : (keys : ChipKeys) (t : Leaves) (label : ℕ) → (values keys t label ≡ no_hash → ⊥) → IsSome (t label)
used_some keys t label used = by (t label) refl
  where
    by : (o : Option Contents) → t label ≡ o → IsSome o
    by None e = absurd (used (ap (value_of keys) e))
    by (Some x) e = refl

module _ (d : Devices) (is : IsWords d.words) (leaves : AreLeaves d.leaves) (P : Resync → Type 0)
    (in_step : P InStep) (gone : (host chip : List ℕ) → P (Lost host chip))
    (inserted : P (Inserted d.words.log.newest.label)) (emptied : P Emptied)
    (removed : IsSome (d.leaves d.words.log.newest.label) → P (Removed d.words.log.newest.label))
    (put : (x : Contents) → IsSome (d.leaves d.words.log.newest.label) → IsContents x
    → x.label ≡ d.words.log.newest.label → P (Put d.words.log.newest.label (leaf_bytes d.words.keys x))) where
  abbrev newest : LogEntry
  newest = d.words.log.newest

  abbrev kept : Option (List ℕ)
  kept = record_at d.words.keys (d.leaves newest.label)

  -- the claim of what is missing, where that can be redone
  abbrev Q : Option Resync → Type 0
  Q o = P (unwrap_or o (lost d.words (tree_of d)))

  -- nothing can be redone
  none : Q None
  none = gone (root (tree_of d)) newest.root

  -- a replayed record, if the entry has its MAC
  noted : (x : Contents) → d.leaves newest.label ≡ Some x → is_full newest.verdict x ≡ false
      → Q (put_if_noted newest (Some (leaf_bytes d.words.keys (redone_by newest.verdict newest.stamp x))))
  noted x there free =
      let z = redone_by newest.verdict newest.stamp x in
      on_cond Q (bytes_eq (mac_of (leaf_bytes d.words.keys z)) newest.mac)
      (Some (Put newest.label (leaf_bytes d.words.keys z))) None
      (λ _. put z (subst (λ (o : Option Contents). IsSome o) (sym there) refl)
      (redone_good newest x (leaves.each newest.label x there) is.newest.boot is.newest.ranges.moment free)
      (redone_label newest x ∙ leaves.labels newest.label x there))
      (λ _. none)

  -- what a reply gives
  abbrev R : Reply → Type 0
  R r = Q (put_if_noted newest (replayed r))

  -- a leaf that opens, of the entry's label
  opens : (x : Contents) → d.leaves newest.label ≡ Some x → R (replay_opened d.words (Ok x))
  opens x there =
      on_cond R (is_full newest.verdict x) Locked
      (Replayed (leaf_bytes d.words.keys (redone_by newest.verdict newest.stamp x))) (λ _. none) (noted x there)

  -- the label's own record, opened or not
  opened_leaf : (x : Contents) (aux : List (List (List ℕ))) → d.leaves newest.label ≡ Some x
      → R (replay_opened d.words
      (opened d.words.keys d.words.log.older.root newest.label aux (leaf_bytes d.words.keys x)))
  unfolding opened
  opened_leaf x aux there =
      let leaf = leaf_bytes d.words.keys x in
      let top = d.words.log.older.root in
      on_cond (λ r. R (replay_opened d.words r)) (ltb newest.label 16384)
      (opened_on top newest.label aux leaf (check_at d.words.keys leaf)) _
      (λ _. subst (λ r. R (replay_opened d.words (opened_on top newest.label aux leaf r)))
      (sym (check_at-leaf_bytes d.words.keys x (leaves.each newest.label x there)))
      (on_cond (λ r. R (replay_opened d.words r)) (eqb x.label newest.label) _ _
      (λ _. on_cond (λ r. R (replay_opened d.words r)) (bytes_eq (root_of newest.label (mac_of leaf) aux) top) (Ok x) _
      (λ _. opens x there) (λ _. none))
      (λ _. none)))
      (λ _. none)

  -- the chip's Replay of the label's own record
  replays : (x : Contents) → d.leaves newest.label ≡ Some x
      → R (replay_step d.words newest.label (aux_of (tree_of d) newest.label) (leaf_bytes d.words.keys x)).0
  unfolding replay_step
  replays x there =
      let aux = aux_of (tree_of d) newest.label in
      on_cond (λ (q : Reply × ChipState). R q.0) (ltb newest.label 16384) _ (LabelInvalid, d.words)
      (λ _. on_cond (λ (q : Reply × ChipState). R q.0) (is_replayed newest newest.label) _ (RootUnknown, d.words)
      (λ _. opened_leaf x aux there) (λ _. none))
      (λ _. none)

  -- a try or a reset
  changed : (o : Option Contents) → d.leaves newest.label ≡ o
      → Q (put_if_noted newest (replay_of d.words (tree_of d) (record_at d.words.keys o)))
  changed None e = none
  changed (Some x) e = replays x e

  -- a remove, where the host lacks it
  removes : root (redone d.words (tree_of d)) ≡ newest.root → bytes_eq newest.root (root (tree_of d)) ≡ false
      → eqb newest.operation REMOVE ≡ true → P (Removed newest.label)
  removes reaches apart remove =
      removed (used_some d.words.keys d.leaves newest.label (λ zero.
      true≢false (sym ((bytes_eq-Decides newest.root (root (tree_of d))).1
      (sym reaches ∙ ap root (dropped newest (tree_of d) remove ∙ emptied_same (tree_of d) newest.label zero)))
      ∙ apart)))

  -- what is missing
  lacks : root (redone d.words (tree_of d)) ≡ newest.root → bytes_eq newest.root (root (tree_of d)) ≡ false
      → Q (missing d.words (tree_of d) kept)
  unfolding missing
  lacks reaches apart =
      on_cond Q (eqb newest.operation INSERT) _ _
      (λ _. on_cond Q (bytes_eq (tree_of d newest.label) no_hash) (Some (Inserted newest.label)) None (λ _. inserted)
      (λ _. none))
      (λ _. on_cond Q (eqb newest.operation REMOVE) (Some (Removed newest.label)) _ (removes reaches apart)
      (λ _. on_cond Q (eqb newest.operation RESET_TREE) _ _
      (λ _. on_cond Q (nat_le (used_below (tree_of d) 16384) 1) (Some Emptied) None (λ _. emptied) (λ _. none))
      (λ _. on_cond Q (eqb newest.operation TRY || eqb newest.operation RESET) _ None
      (λ _. changed (d.leaves newest.label) refl) (λ _. none))))

  -- A claim holds of a resync's answer, where it holds of each that may come: a record is put only in place of one at
  -- its label, and is that of a leaf there; a record is removed only where one is.
  pub by_answer : P (resync_of d)
  unfolding resynced
  by_answer =
      on_cond P (bytes_eq newest.root (root (tree_of d))) InStep _ (λ _. in_step)
      (λ apart. on_cond P (bytes_eq d.words.log.older.root (root (tree_of d))) (redo d.words (tree_of d) kept)
      (lost d.words (tree_of d))
      (λ _. on_cond P (bytes_eq (root (redone d.words (tree_of d))) newest.root)
      (unwrap_or (missing d.words (tree_of d) kept) (lost d.words (tree_of d))) (lost d.words (tree_of d))
      (λ reaches. lacks ((bytes_eq-Decides (root (redone d.words (tree_of d))) newest.root).0 reaches) apart)
      (λ _. none))
      (λ _. none))
