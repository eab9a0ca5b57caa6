use Rattle.secret_stash.proofs.KeptLemmas.{kept_without}
use Rattle.secret_stash.proofs.stash.Stash.drop_block.Goals as goal

-- what is left is kept
pub invariant_of-self : goal.invariant_of-self
invariant_of-self c = rw c.take_block.ensures.value (kept_without _ _ c.self.invariant)
