-- The accounts that were opened are closed, and what their seats knew is known.
use Rattle.std.proofs.Common.{map, reverse}
use Rattle.board_device.specs.Device.{seen_by}
use Rattle.home_opening.specs.Locks.{AccountSeen, account_seen}
use Rattle.home_opening.specs.Numbers.{known_at}
use Rattle.home_opening.specs.declared.account.OpenedAccount.{OpenedAccount}
use Rattle.home_opening.proofs.KnownLemmas.{failure_kept, openings_closed, steps_kept}
use Rattle.home_opening.proofs.OpenedLemmas.{refused_for}
use Rattle.home_opening.proofs.opening.open_accounts.Goals as goal

abbrev seen_of : {B : Type 0} → OpenedAccount B → AccountSeen
seen_of a = account_seen a.lock.id a.lock.first.seat a.lock.first.state a.lock.first.era a.seat

pub returns-in-Err-open_all-clause-knows : goal.returns-in-Err-open_all-clause-knows
returns-in-Err-open_all-clause-knows g c =
    openings_closed (seen_by g.B.Board.faults c.args.shared.now.first.device) c.args.shared.now.id c.args.opening.now
    c.in-Err-open_all.seat c.close_accounts.result (map seen_of c.open_all.new.accounts.items)
    c.close_accounts.ensures.known c.in-Err-open_all.ensures.knows c.in-Err-open_all.ensures.each

pub returns-in-Err-open_all-clause-refused : goal.returns-in-Err-open_all-clause-refused
returns-in-Err-open_all-clause-refused g c =
    let seat = c.in-Err-open_all.seat in
    let whole = c.close_accounts.result in
    let more = reverse (known_at (map seen_of c.open_all.new.accounts.items)) in
    let known = c.close_accounts.ensures.known in
    refused_for (seen_by g.B.Board.faults c.args.shared.now.first.device) c.args.shared.now.id c.args.opening.now
    c.in-Err-open_all.fault seat whole
    (λ failed. failure_kept seat whole more known failed)
    (λ account own knows. steps_kept seat whole more known account own knows)
    c.in-Err-open_all.ensures.refused
