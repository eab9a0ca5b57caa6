-- The tree that follows the reply is that of the leaves after the call.
use Rattle.std.proofs.Common.{◌≡◌, ℕ, ◌<◌, ◌^◌, sym, ◌∙◌, ap}
use Rattle.pw_chip.specs.Law.{values}
use Rattle.pw_chip.proofs.EraLemmas.{era_step}
use Rattle.pin_ops.specs.Following.{values_after}
use Rattle.pin_recovery.specs.Devices.{Devices, tree_of, AreInStep}
use Rattle.pin_recovery.specs.LeafCalls.{LeafOp, call_of, label_of, reply_to, stepped, IsLeafOp}
use Rattle.pin_recovery.proofs.AtomicLemmas.{tree_carried}

-- under the keys after the call, which are those before it
pub follows : (d : Devices) (op : LeafOp) (now : ℕ) → AreInStep d → IsLeafOp op → now < 2 ^ 40
    → values_after (reply_to d op now) (label_of op) (tree_of d) ≡ tree_of (stepped d op now)
unfolding stepped
follows d op now h ok small =
    let era = era_step d.words (call_of d.words.keys d.leaves op) now in
    tree_carried d op now h ok small ∙ ap (λ keys. values keys (stepped d op now).leaves) (sym era.keys)
