-- One account is opened, and then the others.
use Rattle.std.proofs.Common.{rules, ◌≡◌, ℕ, ◌+◌, [], ◌∷◌, ◌++◌, map, vec_len, sym, ap, ◌∙◌, subst}
use Rattle.std.proofs.lemmas.List.{map-append}
use Rattle.board_device.specs.Device.{seen_by}
use Rattle.share_api.specs.declared.step.Step.{Step}
use Rattle.turn_lock.specs.Seats.{SeatView}
use Rattle.home_opening.specs.Locks.{AccountSeen, account_seen}
use Rattle.home_opening.specs.Numbers.{KnowsFailure, KnowsSteps}
use Rattle.home_opening.specs.Opened.{IsOpenedAt}
use Rattle.home_opening.specs.declared.account.OpenedAccount.{OpenedAccount}
use Rattle.home_opening.proofs.KnownLemmas.{failure_joined, steps_joined}
use Rattle.home_opening.proofs.OpenedLemmas.{refused_for}
use Rattle.home_opening.proofs.NumberLemmas.{one_number, numbers_over, numbers_refused, opened_more}
use Rattle.home_opening.proofs.opening.+open_others.Goals as goal

abbrev seen_of : {B : Type 0} → OpenedAccount B → AccountSeen
seen_of a = account_seen a.lock.id a.lock.first.seat a.lock.first.state a.lock.first.era a.seat

pub returns-in-Ok-clause-opened : goal.returns-in-Ok-clause-opened
returns-in-Ok-clause-opened g t c =
    let device = seen_by g.B.Board.faults c.args.shared.now.first.device in
    let account = vec_len c.args.accounts.now + 1 in
    let caller : c.split-rest.result.1.caller ≡ account = search rules in
    let names : c.args.names.now ≡ c.in-Some.name.now ∷ c.in-Some.names.now = search rules in
    let pushed : c.push_reserved.new.self.items ≡ c.args.accounts.now.items ++ c.in-Ok.account ∷ [] = search rules in
    let next : vec_len c.push_reserved.new.self + 1 ≡ account + 1 = search rules in
    opened_more c.open_others.result device c.args.shared.now.id c.args.opening.now account
    (vec_len c.push_reserved.new.self + 1) c.args.names.now c.in-Some.names.now c.in-Some.name.now
    (seen_of c.in-Ok.account) (map seen_of c.args.accounts.now.items) (map seen_of c.push_reserved.new.self.items)
    (map seen_of c.open_others.new.accounts.items) names next
    (ap (map seen_of) pushed ∙ map-append seen_of c.args.accounts.now.items (c.in-Ok.account ∷ []))
    (subst (λ (n : ℕ). IsOpenedAt device c.args.shared.now.id c.args.opening.now n c.in-Some.name.now
    (seen_of c.in-Ok.account).at) caller c.in-Ok.ensures.opened)
    c.open_others.ensures.opened

pub returns-in-Ok-clause-numbers : goal.returns-in-Ok-clause-numbers
returns-in-Ok-clause-numbers g t c =
    let device = seen_by g.B.Board.faults c.args.shared.now.first.device in
    let shared = c.args.shared.now.id in
    let given = c.split-rest.result.1 in
    let new : given ≡ Rattle.turn_lock.specs.Seats.new_seat shared given.caller [] = search rules in
    let pushed : c.push_reserved.new.self.items ≡ c.args.accounts.now.items ++ c.in-Ok.account ∷ [] = search rules in
    numbers_refused c.open_others.result c.args.rest c.split-rest.result.0 given (seen_of c.in-Ok.account)
    (map seen_of c.args.accounts.now.items) (map seen_of c.open_others.new.accounts.items)
    c.split-rest.ensures.numbers
    (one_number shared device.era c.args.opening.now.clients given (seen_of c.in-Ok.account).at new
    c.in-Ok.ensures.opened.of)
    (numbers_over c.open_others.result c.split-rest.result.0
    (map seen_of c.args.accounts.now.items ++ seen_of c.in-Ok.account ∷ [])
    (map seen_of c.push_reserved.new.self.items) (map seen_of c.open_others.new.accounts.items)
    (ap (map seen_of) pushed ∙ map-append seen_of c.args.accounts.now.items (c.in-Ok.account ∷ []))
    c.open_others.ensures.numbers)

pub returns-in-Err-clause-refused : goal.returns-in-Err-clause-refused
returns-in-Err-clause-refused g t c =
    let given = c.in-Err.given in
    refused_for (seen_by g.B.Board.faults c.args.shared.now.first.device) c.args.shared.now.id c.args.opening.now
    c.in-Err.fault given c.join.result
    (λ failed. subst KnowsFailure (sym c.join.ensures.seat) (failure_joined c.split-rest.result.0 given failed))
    (λ account own known. subst (λ (seat : SeatView Step). KnowsSteps seat account own) (sym c.join.ensures.seat)
    (steps_joined c.split-rest.result.0 given account own known))
    c.in-Err.ensures.refused
