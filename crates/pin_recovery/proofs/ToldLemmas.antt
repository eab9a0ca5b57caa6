-- The replay of an entry gives the values that the entry tells.
use Rattle.std.proofs.Common.{◌≡◌, ℕ, inl, inr, false, cond, eqb, List, refl, sym, ◌∙◌, ap}
use Rattle.std.proofs.lemmas.Bool.{cases_eq, ne_eqb}
use Rattle.pw_path.specs.Tree.{no_hash}
use Rattle.pw_log.specs.declared.entry.LogEntry.{LogEntry}
use Rattle.pw_log.specs.declared.entry.TheConstants.{BLANK, RESET_TREE, REMOVE}
use Rattle.pw_log.specs.declared.answer.LogAnswer.TheVariants.{One}
use Rattle.pw_chip.specs.Told.{told}
use Rattle.log_replay.specs.declared.replaying.Replay.TheVariants as plan
use Rattle.log_replay.specs.Replaying.{plan_of, applied}

module _ (e : LogEntry) (v : ℕ → List ℕ) (i : ℕ) where
  -- what an entry of this operation plans for the label
  planned_at : ℕ → List ℕ
  planned_at op = applied (cond (eqb op 0) plan.Nothing (cond (eqb op 1) plan.Empty (cond (eqb op 3) (plan.Drop e.label) (plan.Put e)))) v i

  -- what an entry of this operation tells of the label
  told_at : ℕ → List ℕ
  told_at op = cond (eqb op 1) no_hash (cond (eqb op 0) (v i) (cond (eqb i e.label) e.mac (v i)))

  -- where both are one at the entry's operation, the replay gives what is told
  at_operation : (op : ℕ) → e.operation ≡ op → planned_at op ≡ told_at op → applied (plan_of (One e)) v i ≡ told e v i
  unfolding planned_at told_at
  at_operation op is same = ap planned_at is ∙ same ∙ sym (ap told_at is)

  -- an entry that isn't blank, a reset or a remove
  puts : (eqb e.operation 0 ≡ false) → (eqb e.operation 1 ≡ false) → (eqb e.operation 3 ≡ false)
      → applied (plan_of (One e)) v i ≡ told e v i
  puts blank tree remove = rw blank (rw tree (rw remove refl))

  -- each entry does, where a remove leaves no MAC
  pub replay_told : (e.operation ≡ REMOVE → e.mac ≡ no_hash) → applied (plan_of (One e)) v i ≡ told e v i
  unfolding planned_at told_at
  replay_told empties =
      elim (cases_eq e.operation BLANK) [
        | inl blank ↦ at_operation 0 blank refl
        | inr not_blank ↦ elim (cases_eq e.operation RESET_TREE) [
          | inl tree ↦ at_operation 1 tree refl
          | inr not_tree ↦ elim (cases_eq e.operation REMOVE) [
            | inl remove ↦ at_operation 3 remove (ap (λ hash. cond (eqb i e.label) hash (v i)) (sym (empties remove)))
            | inr not_remove ↦ puts (ne_eqb e.operation 0 not_blank) (ne_eqb e.operation 1 not_tree) (ne_eqb e.operation 3 not_remove)
          ]
        ]
      ]
