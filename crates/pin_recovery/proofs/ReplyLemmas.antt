-- What the chip answers a host that is in step.
use Rattle.std.proofs.Common.{ℕ, sym, ◌∙◌, ap}
use Rattle.pw_path.specs.Tree.{aux_of, no_hash}
use Rattle.pw_path.specs.Path.{root_of}
use Rattle.pw_path.proofs.TreeLemmas.{root_of_true}
use Rattle.pw_leaf.specs.Contents.{new_contents}
use Rattle.pw_chip.specs.declared.reply.Reply.{Reply}
use Rattle.pw_chip.specs.State.{ChipState}
use Rattle.pw_chip.specs.Step.{try_opened, reset_opened, try_step, reset_step, step}
use Rattle.pw_chip.specs.Law.{value_of, values}
use Rattle.pw_chip.proofs.StepLemmas.{insert_step-ok}
use Rattle.pin_recovery.specs.Devices.{Devices, record_of, AreInStep}
use Rattle.pin_recovery.specs.LeafCalls.{LeafOp, InsertLeaf, TryLeaf, ResetLeaf, RemoveLeaf, call_of, IsLeafOp, IsAnswered}
use Rattle.pw_log.proofs.LogLemmas.{same_root}
use Rattle.pin_recovery.proofs.LeafLemmas.{opened_own}
use Rattle.pin_recovery.proofs.BehindLemmas.{remove_done}

-- each call is answered by the leaf at its label
pub answered : (d : Devices) (op : LeafOp) (now : ℕ) → AreInStep d → IsLeafOp op → IsAnswered d op now
unfolding call_of step try_step reset_step IsLeafOp IsAnswered
answered d (InsertLeaf label les hes reset schedule iv) now h ok = λ free.
    let v = values d.words.keys d.leaves in
    let aux = aux_of v label in
    let made = insert_step-ok d.words label aux (v label) (new_contents label les hes reset schedule iv) now ok.0
    (same_root (root_of label (v label) aux) d.words.log.newest.root (root_of_true v label ok.0 ∙ sym h.root)) (same_root (v label) no_hash (ap (value_of d.words.keys) free)) in
    ap (λ (q : Reply × ChipState). q.0) made
answered d (TryLeaf label les) now h ok = λ x there.
    let keys = d.words.keys in
    let aux = aux_of (values keys d.leaves) label in
    ap (λ o. (try_step d.words label aux (record_of keys o) les now).0) there
    ∙ ap (λ r. (try_opened d.words label aux les now r).0) (opened_own keys d.leaves label x d.words.log.newest.root ok h.leaves there h.root)
answered d (ResetLeaf label reset) now h ok = λ x there.
    let keys = d.words.keys in
    let aux = aux_of (values keys d.leaves) label in
    ap (λ o. (reset_step d.words label aux (record_of keys o) reset now).0) there
    ∙ ap (λ r. (reset_opened d.words label aux reset now r).0) (opened_own keys d.leaves label x d.words.log.newest.root ok h.leaves there h.root)
answered d (RemoveLeaf label) now h ok = λ x there used.
    let v = values d.words.keys d.leaves in
    let aux = aux_of v label in
    let made = remove_done d.words label aux (v label) now ok (root_of_true v label ok ∙ sym h.root) (λ e. used (sym (ap (value_of d.words.keys) there) ∙ e)) in
    ap (λ (q : Reply × ChipState). q.0) made
