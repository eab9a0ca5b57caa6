use Rattle.std.proofs.Common.{sym}
use Rattle.leaf_calls.proofs.keeping.keep.Goals as goal

pub returns-in-Ok-clause-durable : goal.returns-in-Ok-clause-durable
returns-in-Ok-clause-durable g c =
    rw (sym c.due_of-due.ensures.value) (rw (sym c.write.ensures) c.in-Ok.ensures.durable)
