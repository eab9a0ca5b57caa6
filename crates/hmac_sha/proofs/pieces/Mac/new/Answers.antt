use Rattle.std.proofs.Common.{[]}
use Rattle.std.proofs.lemmas.List.{append-nil}
use Rattle.hmac_sha.specs.Pieces.{HasTaken}
use Rattle.hmac_sha.proofs.pieces.Mac.new.Goals as goal

pub returns : goal.returns
unfolding HasTaken
returns c = (
  rw append-nil (rw (c.as_slice.ensures, c.padded.ensures, c.key_block-block.ensures) at (c.update.ensures [] c.new-inner.ensures)),
  rw (c.as_slice-2.ensures, c.padded-2.ensures, c.key_block-block.ensures) at (c.update-2.ensures [] c.new-outer.ensures),
)
