use Rattle.hmac_sha.specs.Hmac.{hmac}
use Rattle.hmac_sha.specs.Pieces.{HasTaken}
use Rattle.hmac_sha.proofs.pieces.Mac.finish.Goals as goal

pub returns : goal.returns
unfolding HasTaken hmac
returns c = λ key text h. rw (c.as_slice.ensures, c.finalize-digest.ensures _ h.0) at (c.finalize.ensures _ (c.update.ensures _ h.1))
