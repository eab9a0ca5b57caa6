-- The chip removes what the tree has at a label.
use Rattle.std.proofs.Common.{◌≡◌, ℕ, ◌<◌, ltb, List, sym, ◌∙◌, ap, subst}
use Rattle.std.specs.Prelude.{bytes_eq}
use Rattle.std.proofs.lemmas.Slice.Eq.{bytes_eq-Decides}
use Rattle.std.proofs.lemmas.Bool.{lt-ltb}
use Rattle.pw_path.specs.Tree.{root, aux_of, no_hash}
use Rattle.pw_path.specs.Path.{root_of}
use Rattle.pw_path.proofs.TreeLemmas.{root_of_true}
use Rattle.pw_leaf.proofs.Cases.{on_cond}
use Rattle.pw_log.proofs.LogLemmas.{same_root}
use Rattle.pw_chip.specs.declared.reply.Reply.{Reply}
use Rattle.pw_chip.specs.State.{ChipState}
use Rattle.pw_chip.specs.Calls.{Remove}
use Rattle.pw_chip.specs.Step.{remove_step, step}
use Rattle.pw_chip.proofs.StandingLemmas.{logged-root}
use Rattle.label_tree.specs.Values.{with_value}
use Rattle.label_tree.proofs.NodeLemmas.{root_with}
use Rattle.chip_replay.specs.Carrying.{removed_words}

-- Where the tree's root was the chip's newest, it is so once the label has nothing: the chip removes the leaf, and where
-- nothing was there it stays as it was.
pub removed_in_step : (w : ChipState) (v : ℕ → List ℕ) (label now : ℕ) → label < 16384 → w.log.newest.root ≡ root v
    → (removed_words w v label now).log.newest.root ≡ root (with_value v label no_hash)
unfolding step remove_step
removed_in_step w v label now lt is =
    let aux = aux_of v label in
    let path : root_of label (v label) aux ≡ w.log.newest.root = root_of_true v label lt ∙ sym is in
    let P : Reply × ChipState → Type 0 = λ q. q.1.log.newest.root ≡ root (with_value v label no_hash) in
    on_cond P (ltb label 16384) _ _
    (λ _. on_cond P (bytes_eq (root_of label (v label) aux) w.log.newest.root) _ _
    (λ _. on_cond P (bytes_eq (v label) no_hash) _ _
    (λ none. sym path ∙ ap (λ m. root_of label m aux) ((bytes_eq-Decides (v label) no_hash).0 none) ∙ root_with v label no_hash lt)
    (λ _. logged-root w _ ∙ root_with v label no_hash lt))
    (λ other. absurd (cc (sym (same_root (root_of label (v label) aux) w.log.newest.root path) ∙ other))))
    (λ past. absurd (cc (sym (lt-ltb label 16384 lt) ∙ past)))

-- what is known of the words that were asked for is known of those that came
pub removed_by : (w w' : ChipState) (v : ℕ → List ℕ) (label number : ℕ) (aux : List (List (List ℕ))) (mac : List ℕ) (now : ℕ) (reply : Reply)
    → number ≡ label → aux ≡ aux_of v label → mac ≡ v label → step w (Remove number aux mac) now ≡ (reply, w')
    → (P : ChipState → Type 0) → P (removed_words w v label now) → P w'
removed_by w w' v label number aux mac now reply ne ae me is P p =
    subst P (sym (λ i. (step w (Remove (ne i) (ae i) (me i)) now).1) ∙ ap (λ (q : Reply × ChipState). q.1) is) p
