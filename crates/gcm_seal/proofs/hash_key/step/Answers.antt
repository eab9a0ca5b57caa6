use Rattle.std.proofs.Common.{◌≡◌, ◌*◌, ap₂, ◌∙◌, bit_xor}
use Rattle.std.specs.Int.{bit_at}
use Rattle.gcm_seal.proofs.BitRule.{bit_one, bit_none}
use Rattle.gcm_seal.proofs.hash_key.step.Goals as goal
use Rattle.gcm_seal.proofs.hash_key.step.Goals.{then-x-k-eq1, else-x-k-eq1}

pub returns : goal.returns
returns c =
    let x = c.args.x in
    let part : c.if-x-k-eq1.added ≡ bit_at x c.args.k * c.args.h = elim c.if-x-k-eq1.branch [
      | then-x-k-eq1 w ↦ w.added-is ∙ bit_one x c.args.k c.args.h w.if-x-k-eq1.true
      | else-x-k-eq1 w ↦ w.added-is ∙ bit_none x c.args.k c.args.h w.if-x-k-eq1.false
    ] in
    ap₂ bit_xor part c.shifted.ensures
