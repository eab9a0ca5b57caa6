use Rattle.hmac_sha.proofs.BlockLemmas.{key_block_short}
use Rattle.hmac_sha.proofs.pads.key_block.Goals as goal

pub returns-then-key-le64 : goal.returns-then-key-le64
returns-then-key-le64 c = key_block_short c.args.key.now _ c.if-key-le64.true c.copy_from_slice.ensures.after
