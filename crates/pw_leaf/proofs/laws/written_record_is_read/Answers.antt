use Rattle.pw_leaf.proofs.RecordLemmas.{check_at-leaf_bytes}
use Rattle.pw_leaf.proofs.laws.written_record_is_read.Goals as goal

pub returns : goal.returns
returns c = check_at-leaf_bytes
