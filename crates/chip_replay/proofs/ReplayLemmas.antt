-- What the log answered is carried out, and told in the form of the laws.
use Rattle.std.proofs.Common.{◌≡◌, ℕ, List, refl, ◌∙◌, ap, subst}
use Rattle.pw_path.specs.Tree.{aux_of, no_hash}
use Rattle.pw_path.proofs.TreeLemmas.{set_value_same}
use Rattle.pw_chip.specs.State.{ChipState}
use Rattle.pw_chip.specs.Calls.{Remove}
use Rattle.pw_chip.specs.Step.{step}
use Rattle.label_tree.specs.Values.{with_value}
use Rattle.pin_ops.specs.declared.answer.Resync.{Resync}
use Rattle.pin_ops.specs.declared.answer.Resync.TheVariants.{InStep, Inserted, Put, Removed, Emptied, Lost}
use Rattle.pin_ops.specs.Following.{values_by}
use Rattle.pin_recovery.specs.Recovery.{words_by, tree_by}
use Rattle.chip_replay.specs.Carrying.{words_after, values_then}

-- the words after an answer that the tree follows already
pub next_is : (w : ChipState) (v t : ℕ → List ℕ) (answer : Resync) (now : ℕ) → t ≡ values_by answer w.log.newest.mac v
    → words_after w t answer now ≡ words_by w v answer now
next_is w v t InStep now is = refl
next_is w v t (Inserted label) now is =
    let mac = w.log.newest.mac in
    let at : t label ≡ mac = ap (λ (f : ℕ → List ℕ). f label) is ∙ set_value_same v label mac in
    λ i. (step w (Remove label (aux_of (is i) label) (at i)) now).1
next_is w v t (Put label bytes) now is = refl
next_is w v t (Removed label) now is = refl
next_is w v t Emptied now is = refl
next_is w v t (Lost host chip) now is = refl

-- the tree after it
pub tree_is : (w : ChipState) (v t : ℕ → List ℕ) (answer : Resync) → t ≡ values_by answer w.log.newest.mac v
    → values_then answer t ≡ tree_by answer w.log.newest.mac v
tree_is w v t InStep is = is
tree_is w v t (Inserted label) is = ap (λ (f : ℕ → List ℕ). with_value f label no_hash) is
tree_is w v t (Put label bytes) is = is
tree_is w v t (Removed label) is = is
tree_is w v t Emptied is = is
tree_is w v t (Lost host chip) is = is

-- what is known by one answer and its words is known by equal ones
pub by_answer : (P : ChipState → Resync → Type 0) (next next' : ChipState) (answer answer' : Resync) → next ≡ next' → answer ≡ answer' → P next answer → P next' answer'
by_answer P next next' answer answer' n a p = subst (λ w. P w answer') n (subst (P next) a p)
