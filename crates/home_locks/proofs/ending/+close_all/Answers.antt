-- The last account is closed behind the others.
use Rattle.std.proofs.Common.{Some}
use Rattle.std.proofs.lemmas.List.Elements.{All-pop}
use Rattle.home_locks.specs.Accounts.{started_at}
use Rattle.home_locks.specs.Closing.{IsWhole}
use Rattle.home_locks.proofs.ClosingLemmas.{own_of_shared, closes_more, closes_parts}
use Rattle.home_locks.proofs.ending.+close_all.Goals as goal

-- Its seat of the platform's lock is the one that it was opened with.
pub joined_on-requires-clause-own : goal.joined_on-requires-clause-own
joined_on-requires-clause-own g t c =
    let shared = c.args.shared.now in
    let era = (g.K.Platform.Device.seen shared.first.device).era in
    let whole = All-pop
    (λ part. IsWhole era shared.id part.lock.id part.lock.first.seat part.lock.first.era part.seat) _ _
    (Some c.in-Some.part) c.in-Some.ensures.items c.requires.parts in
    own_of_shared (g.K.AccountTurns.rules c.in-Some.part.lock.first.era) g.K.AccountTurns.ready era _ shared.id _ _ _ _ _ _ _ c.unwrap.result
    c.into_seat-own.result whole.1 c.close-account.ensures.stands c.unwrap.ensures c.into_seat-own.ensures.value

pub returns-clause-closes : goal.returns-clause-closes
returns-clause-closes g t c =
    let shared = c.args.shared.now in
    let era = (g.K.Platform.Device.seen shared.first.device).era in
    let items = c.in-Some.ensures.items in
    let whole = All-pop
    (λ part. IsWhole era shared.id part.lock.id part.lock.first.seat part.lock.first.era part.seat) _ _
    (Some c.in-Some.part) items c.requires.parts in
    closes_parts (g.K.AccountTurns.rules era) shared.id (λ part. part.lock.first.seat) (λ part. part.seat)
    (λ part. started_at part.lock.first.seat part.lock.first.state) _ _ _ _ _ _ items
    (closes_more g.K.AccountTurns.rules g.K.AccountTurns.ready era c.in-Some.part.lock.first.era shared.id _ _ _ _ _ _ _ _ _ _ _
    c.unwrap.result c.into_seat-own.result _ _ _ _ c.close_all-first.ensures.closes whole.1
    c.close-account.ensures.stands c.close-account.ensures.entries c.unwrap.ensures c.into_seat-own.ensures.value
    c.push_reserved.ensures.items c.joined_on.ensures)
