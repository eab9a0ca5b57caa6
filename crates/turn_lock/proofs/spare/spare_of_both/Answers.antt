-- A seat with a spare number has the last one, so only one of the two has any.
use Rattle.std.proofs.Common.{rules}
use Rattle.turn_lock.proofs.Counts.{range_with_len-append}
use Rattle.turn_lock.proofs.spare.spare_of_both.Goals as goal

pub returns-then-spare-end : goal.returns-then-spare-end
returns-then-spare-end c = range_with_len-append _ _ _ c.requires (search rules)
