-- What was collected, with what is still below, is the whole stack.
use Rattle.std.proofs.Common.{◌≡◌, ◌++◌, map}
use Rattle.link_chain.proofs.chain.Chain.in_order.Given as goal

abbrev pub invariant-loop-at : goal.invariant-loop-at
invariant-loop-at g l = map (λ entry. entry.now) l.all.items ++ l.at ≡ l.initial.at
