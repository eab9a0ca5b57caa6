-- The callers have the numbers of the first seat, which are all, and each has made its turns.
use Rattle.std.proofs.Common.{arith, ◌≡◌, ◌++◌, List, take, drop, length, ap, sym, subst}
use Rattle.std.specs.Prelude.{All}
use Rattle.std.proofs.lemmas.Grind.{common_steps}
use Rattle.shared_sum.specs.Callers.{HaveAllNumbers, HasKnownTurns, EachKeepsNumbers, EachAfterTurns}
use Rattle.shared_sum.specs.declared.callers.Caller.{Caller}
use Rattle.shared_sum.proofs.Counts.{count_in-kept}
use Rattle.shared_sum.proofs.Turns.{each_knows}
use Rattle.shared_sum.proofs.threads.lock_after_turns.Goals as goal

pub returns-clause-numbers : goal.returns-clause-numbers
returns-clause-numbers g c =
    let old : List Caller = c.in-Ok-callers_of.all.items in
    let new : List Caller = c.add_all.new.callers in
    let lent : c.as_mut_slice.result.now ≡ old = c.as_mut_slice.ensures.value in
    let size = c.add_all.ensures.numbers.count in
    let whole : take c.in-Ok-callers_of.all.len (new ++ drop (length new) old) ≡ new =
    grind (arith, common_steps) in
    let keeps = subst (λ some. EachKeepsNumbers some new) lent c.add_all.ensures.numbers in
    subst (HaveAllNumbers c.in-Ok.lock.id) (sym whole) (λ number below.
    let kept = count_in-kept number old new keeps in
    let split = c.in-Ok-callers_of.ensures.numbers number in
    let callers = ap (λ seat. seat.lock.callers) c.in-Ok.ensures.seat in
    let first = c.in-Ok.ensures.numbers number (omega arith) in omega arith)

pub returns-clause-turns : goal.returns-clause-turns
returns-clause-turns g c =
    let old : List Caller = c.in-Ok-callers_of.all.items in
    let new : List Caller = c.add_all.new.callers in
    let lent : c.as_mut_slice.result.now ≡ old = c.as_mut_slice.ensures.value in
    let size = c.add_all.ensures.numbers.count in
    let whole : take c.in-Ok-callers_of.all.len (new ++ drop (length new) old) ≡ new =
    grind (arith, common_steps) in
    let first = c.in-Ok.ensures.seat in
    let fresh = c.in-Ok-callers_of.ensures.fresh (ap (λ seat. seat.own) first)
    (ap (λ seat. seat.joined) first) in
    let after = subst (λ some. EachAfterTurns some new) lent c.add_all.ensures.after in
    subst (All (HasKnownTurns c.args.turns)) (sym whole)
    (each_knows c.args.turns old new fresh after c.in-Ok-add_all.ensures.all)
