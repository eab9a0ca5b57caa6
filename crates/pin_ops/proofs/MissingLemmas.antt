-- What is missing on a host, and the tree's values once it is redone.
use Rattle.std.proofs.Common.{◌≡◌, ◌⊎◌, ℕ, inl, inr, Bool, true, false, cond, eqb, ltb, ◌||◌, Option, Some, None, List, refl, sym, ◌∙◌, ap, subst}
use Rattle.std.specs.Prelude.{bytes_eq, nat_le}
use Rattle.std.proofs.lemmas.Bool.{eqb-true}
use Rattle.std.proofs.lemmas.Slice.Eq.{bytes_eq-Decides}
use Rattle.pw_path.specs.Tree.{aux_of, no_hash}
use Rattle.pw_log.specs.declared.entry.LogEntry.{LogEntry}
use Rattle.pw_log.specs.declared.entry.TheConstants.{INSERT, REMOVE, RESET_TREE, TRY, RESET}
use Rattle.pw_log.specs.declared.answer.LogAnswer.TheVariants.{One}
use Rattle.pw_leaf.specs.Reading.{mac_of}
use Rattle.pw_leaf.proofs.Cases.{on_cond}
use Rattle.pw_chip.specs.declared.reply.Reply.{Reply}
use Rattle.pw_chip.specs.State.{ChipState}
use Rattle.pw_chip.specs.Calls.{Replay}
use Rattle.pw_chip.specs.Step.{is_replayed, replay_step, step}
use Rattle.label_tree.specs.Values.{with_value, used_below}
use Rattle.log_replay.specs.declared.replaying.Replay.TheVariants as plan
use Rattle.log_replay.specs.Replaying.{plan_of, applied}
use Rattle.pin_ops.specs.declared.answer.Resync.{Resync}
use Rattle.pin_ops.specs.declared.answer.Resync.TheVariants as resync
use Rattle.pin_ops.specs.Following.{values_by}
use Rattle.pin_ops.specs.Resyncing.{replay_of, replayed, put_if_noted, missing}

-- ---- the chip's Replay

-- a Replay changes no word
pub replay_keeps : (w : ChipState) (label : ℕ) (aux : List (List (List ℕ))) (leaf : List ℕ) (now : ℕ) → (step w (Replay label aux leaf) now).1 ≡ w
unfolding step replay_step
replay_keeps w label aux leaf now =
    let P : Reply × ChipState → Type 0 = λ r. r.1 ≡ w in
    on_cond P (ltb label 16384) _ _ (λ _. on_cond P (is_replayed w.log.newest label) _ _ (λ _. refl) (λ _. refl)) (λ _. refl)

-- the record that it is answered with
pub replay_is : (w w' : ChipState) (values : ℕ → List ℕ) (label : ℕ) (leaf : List ℕ) (reply : Reply) → label ≡ w.log.newest.label
    → step w (Replay label (aux_of values label) leaf) 0 ≡ (reply, w') → replayed reply ≡ replay_of w values (Some leaf)
unfolding step
replay_is w w' values label leaf reply e is =
    sym (ap (λ l. replayed (replay_step w l (aux_of values l) leaf).0) (sym e) ∙ ap (λ (q : Reply × ChipState). replayed q.0) is)

-- ---- the values once an entry is redone

-- the plan of an entry of this operation
planned : (e : LogEntry) (operation : ℕ) → e.operation ≡ operation
    → plan_of (One e) ≡ cond (eqb operation 0) plan.Nothing (cond (eqb operation 1) plan.Empty (cond (eqb operation 3) (plan.Drop e.label) (plan.Put e)))
planned e operation is = λ i. cond (eqb (is i) 0) plan.Nothing (cond (eqb (is i) 1) plan.Empty (cond (eqb (is i) 3) (plan.Drop e.label) (plan.Put e)))

-- what a choice of two operations says
either : (a b c : ℕ) → eqb a b || eqb a c ≡ true → (a ≡ b) ⊎ (a ≡ c)
either a b c h = by (eqb a b) refl h
  where
    by : (x : Bool) → eqb a b ≡ x → x || eqb a c ≡ true → (a ≡ b) ⊎ (a ≡ c)
    by true e h = inl (eqb-true a b e)
    by false e h = inr (eqb-true a c h)

-- a record that is put has the entry's MAC
put_values : (e : LogEntry) (values : ℕ → List ℕ) (made : Option (List ℕ)) (found : Resync) → Some found ≡ put_if_noted e made → with_value values e.label e.mac ≡ values_by found e.mac values
put_values e values None found is = absurd (cc is)
put_values e values (Some leaf) found is =
    on_cond (λ o. Some found ≡ o → with_value values e.label e.mac ≡ values_by found e.mac values) (bytes_eq (mac_of leaf) e.mac) (Some (resync.Put e.label leaf)) None
    (λ same q.
    let f : resync.Put e.label leaf ≡ found = cc q in
    ap (with_value values e.label) (sym ((bytes_eq-Decides (mac_of leaf) e.mac).0 same)) ∙ ap (λ answer. values_by answer e.mac values) f)
    (λ _ q. absurd (cc q)) is

-- the plan leaves the values that the answer names
pub found_values : (w : ChipState) (e : LogEntry) (values : ℕ → List ℕ) (leaf : Option (List ℕ)) (found : Resync) → e ≡ w.log.newest → Some found ≡ missing w values leaf
    → applied (plan_of (One e)) values ≡ values_by found e.mac values
unfolding missing
found_values w e values leaf found newest is =
    subst (λ (z : LogEntry). applied (plan_of (One z)) values ≡ values_by found z.mac values) (sym newest)
    (let n = w.log.newest in
    let P : Option Resync → Type 0 = λ o. Some found ≡ o → applied (plan_of (One n)) values ≡ values_by found n.mac values in
    let redone : (operation : ℕ) (answer : Resync) → n.operation ≡ operation → Some found ≡ Some answer
    → applied (cond (eqb operation 0) plan.Nothing (cond (eqb operation 1) plan.Empty (cond (eqb operation 3) (plan.Drop n.label) (plan.Put n)))) values ≡ values_by answer n.mac values
    → applied (plan_of (One n)) values ≡ values_by found n.mac values =
    λ operation answer o q h. let f : answer ≡ found = cc q in ap (λ p. applied p values) (planned n operation o) ∙ h ∙ ap (λ a. values_by a n.mac values) f in
    on_cond P (eqb n.operation INSERT) _ _
    (λ insert. on_cond P (bytes_eq (values n.label) no_hash) _ _
    (λ _ q. redone 2 (resync.Inserted n.label) (eqb-true n.operation 2 insert) q refl) (λ _ q. absurd (cc q)))
    (λ _. on_cond P (eqb n.operation REMOVE) _ _
    (λ remove q. redone 3 (resync.Removed n.label) (eqb-true n.operation 3 remove) q refl)
    (λ _. on_cond P (eqb n.operation RESET_TREE) _ _
    (λ tree. on_cond P (nat_le (used_below values 16384) 1) _ _
    (λ _ q. redone 1 resync.Emptied (eqb-true n.operation 1 tree) q refl) (λ _ q. absurd (cc q)))
    (λ _. on_cond P (eqb n.operation TRY || eqb n.operation RESET) _ _
    (λ changes q. elim (either n.operation TRY RESET changes) [
      | inl o ↦ ap (λ p. applied p values) (planned n 4 o) ∙ put_values n values (replay_of w values leaf) found q
      | inr o ↦ ap (λ p. applied p values) (planned n 5 o) ∙ put_values n values (replay_of w values leaf) found q
    ])
    (λ _ q. absurd (cc q)))))
    is)
