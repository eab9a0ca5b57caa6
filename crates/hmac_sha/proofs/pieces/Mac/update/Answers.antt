use Rattle.std.proofs.Common.{append_assoc}
use Rattle.hmac_sha.specs.Pieces.{HasTaken}
use Rattle.hmac_sha.proofs.pieces.Mac.update.Goals as goal

pub returns : goal.returns
unfolding HasTaken
returns c = λ key text h. (rw append_assoc at (c.update.ensures _ h.0), h.1)
