-- No call changes the keys or the boot.
use Rattle.std.proofs.Common.{ℕ, ltb, List, refl}
use Rattle.std.specs.Prelude.{bytes_eq}
use Rattle.pw_path.specs.Path.{root_of}
use Rattle.pw_path.specs.Tree.{no_hash}
use Rattle.pw_log.specs.declared.entry.LogEntry.{LogEntry}
use Rattle.pw_log.specs.Entries.{pushed}
use Rattle.pw_types.specs.declared.stamp.Stamp.{Stamp}
use Rattle.pw_leaf.specs.Contents.{Contents}
use Rattle.pw_leaf.proofs.Cases.{on_cond, on_result}
use Rattle.pw_chip.specs.declared.reply.Reply.{Reply}
use Rattle.pw_chip.specs.declared.reply.Reply.TheVariants.{Released, Wrong, Cleared}
use Rattle.pw_chip.specs.State.{ChipState, IsSameEra}
use Rattle.pw_chip.specs.Calls.{CallData, ResetTree, Insert, Remove, Try, Reset, GetLog, Replay}
use Rattle.pw_chip.specs.Step.{logged, opened, try_opened, after_try, reset_opened, after_reset, is_replayed, reset_tree_step, insert_step, remove_step, try_step, reset_step, replay_step, step}

era_stays : (w : ChipState) → IsSameEra w w
era_stays w = record { keys = refl; boot = refl; start = refl }

era_logged : (w : ChipState) (e : LogEntry) → IsSameEra w (logged w e)
unfolding logged
era_logged w e = on_cond (IsSameEra w) (bytes_eq e.root w.log.newest.root) w (record w { log = pushed w.log e }) (λ _. era_stays w) (λ _. record { keys = refl; boot = refl; start = refl })

era_after_try : (w : ChipState) (label : ℕ) (aux : List (List (List ℕ))) (x : Contents) (now : Stamp) (reply : Reply) → IsSameEra w (after_try w label aux x now reply)
era_after_try w label aux x now (Released leaf hes) = era_logged w _
era_after_try w label aux x now (Wrong leaf) = era_logged w _
era_after_try w label aux x now _ = era_stays w

era_after_reset : (w : ChipState) (label : ℕ) (aux : List (List (List ℕ))) (x : Contents) (now : Stamp) (reply : Reply) → IsSameEra w (after_reset w label aux x now reply)
era_after_reset w label aux x now (Cleared leaf) = era_logged w _
era_after_reset w label aux x now _ = era_stays w

-- what holds of a choice's words holds of both sides
era_insert : (w : ChipState) (label : ℕ) (aux : List (List (List ℕ))) (mac : List ℕ) (x : Contents) (now : ℕ) → IsSameEra w (insert_step w label aux mac x now).1
unfolding insert_step
era_insert w label aux mac x now =
    let P : Reply × ChipState → Type 0 = λ r. IsSameEra w r.1 in
    on_cond P (ltb label 16384) _ _
    (λ _. on_cond P (bytes_eq (root_of label mac aux) w.log.newest.root) _ _
    (λ _. on_cond P (bytes_eq mac no_hash) _ _ (λ _. era_logged w _) (λ _. era_stays w))
    (λ _. era_stays w))
    (λ _. era_stays w)

era_remove : (w : ChipState) (label : ℕ) (aux : List (List (List ℕ))) (mac : List ℕ) (now : ℕ) → IsSameEra w (remove_step w label aux mac now).1
unfolding remove_step
era_remove w label aux mac now =
    let P : Reply × ChipState → Type 0 = λ r. IsSameEra w r.1 in
    on_cond P (ltb label 16384) _ _
    (λ _. on_cond P (bytes_eq (root_of label mac aux) w.log.newest.root) _ _
    (λ _. on_cond P (bytes_eq mac no_hash) _ _ (λ _. era_stays w) (λ _. era_logged w _))
    (λ _. era_stays w))
    (λ _. era_stays w)

era_replay : (w : ChipState) (label : ℕ) (aux : List (List (List ℕ))) (leaf : List ℕ) → IsSameEra w (replay_step w label aux leaf).1
unfolding replay_step
era_replay w label aux leaf =
    let P : Reply × ChipState → Type 0 = λ r. IsSameEra w r.1 in
    on_cond P (ltb label 16384) _ _
    (λ _. on_cond P (is_replayed w.log.newest label) _ _ (λ _. era_stays w) (λ _. era_stays w))
    (λ _. era_stays w)

-- no call changes them
pub era_step : (w : ChipState) (call : CallData) (now : ℕ) → IsSameEra w (step w call now).1
unfolding step reset_tree_step try_step reset_step
era_step w ResetTree now = era_logged w _
era_step w (Insert label aux mac les hes reset schedule iv) now = era_insert w label aux mac _ now
era_step w (Remove label aux mac) now = era_remove w label aux mac now
era_step w (Try label aux leaf les) now =
    on_result (λ r. IsSameEra w (try_opened w label aux les now r).1) (opened w.keys w.log.newest.root label aux leaf)
    (λ x _. era_after_try w label aux x _ _) (λ r _. era_stays w)
era_step w (Reset label aux leaf reset) now =
    on_result (λ r. IsSameEra w (reset_opened w label aux reset now r).1) (opened w.keys w.log.newest.root label aux leaf)
    (λ x _. era_after_reset w label aux x _ _) (λ r _. era_stays w)
era_step w (GetLog host) now = era_stays w
era_step w (Replay label aux leaf) now = era_replay w label aux leaf
