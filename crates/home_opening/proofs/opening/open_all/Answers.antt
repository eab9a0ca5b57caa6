-- The others were opened, and then the first account.
use Rattle.std.proofs.Common.{rules, ◌≡◌, ◌+◌, ◌-◌, ◌∷◌, ◌++◌, map, length, vec_len, ap, ◌∙◌}
use Rattle.board_device.specs.Device.{seen_by}
use Rattle.home_opening.specs.Locks.{AccountSeen, account_seen}
use Rattle.home_opening.specs.declared.account.OpenedAccount.{OpenedAccount}
use Rattle.home_opening.proofs.NumberLemmas.{first_refused}
use Rattle.home_opening.proofs.OpenedLemmas.{rotated, all_opened, all_new}
use Rattle.home_opening.proofs.opening.open_all.Goals as goal

abbrev seen_of : {B : Type 0} → OpenedAccount B → AccountSeen
seen_of a = account_seen a.lock.id a.lock.first.seat a.lock.first.state a.lock.first.era a.seat

pub returns-in-Ok-clause-opened : goal.returns-in-Ok-clause-opened
returns-in-Ok-clause-opened g c =
    let device = seen_by g.B.Board.faults c.args.shared.now.first.device in
    let others = c.open_others.new.accounts.items in
    let pushed = c.push_reserved.new.self.items in
    let names : c.args.names.now ≡ c.unwrap.result.0.now ∷ c.unwrap.result.1.now = search rules in
    let count : length pushed - 1 ≡ length others = search rules in
    let whole : c.rotate_right.new.self.items ≡ c.in-Ok.account ∷ others =
    rotated others pushed _ c.in-Ok.account (length pushed - 1) (search rules) count (search rules) in
    let zero : c.in_ok-rest.rest.caller ≡ 0 = search rules in
    let one : vec_len c.args.accounts.now + 1 ≡ 1 = search rules in
    all_opened device c.args.shared.now.id c.args.opening.now c.in_ok-rest.rest.caller (vec_len c.args.accounts.now + 1)
    c.args.names.now c.unwrap.result.1.now c.unwrap.result.0.now (seen_of c.in-Ok.account)
    (map seen_of c.args.accounts.now.items) (map seen_of others) (map seen_of c.rotate_right.new.self.items) names
    (ap (map seen_of) whole) (ap (map seen_of) c.requires.none) zero one c.in-Ok.ensures.opened
    c.in_ok-rest.ensures.opened

pub returns-in-Ok-clause-new : goal.returns-in-Ok-clause-new
returns-in-Ok-clause-new g c =
    let others = c.open_others.new.accounts.items in
    let pushed = c.push_reserved.new.self.items in
    let count : length pushed - 1 ≡ length others = search rules in
    let whole : c.rotate_right.new.self.items ≡ c.in-Ok.account ∷ others =
    rotated others pushed _ c.in-Ok.account (length pushed - 1) (search rules) count (search rules) in
    all_new c.args.shared.now.id c.args.opening.now.era c.args.opening.now.clients c.in_ok-rest.rest.caller
    (seen_of c.in-Ok.account) (map seen_of others) (map seen_of c.rotate_right.new.self.items)
    (ap (map seen_of) whole) (search rules) c.in-Ok.ensures.first c.open_others.ensures.new

pub returns-in-Err-clause-numbers : goal.returns-in-Err-clause-numbers
returns-in-Err-clause-numbers g c =
    let device = seen_by g.B.Board.faults c.args.shared.now.first.device in
    let opened = c.in_ok-rest.ensures.opened in
    let accounts = map seen_of c.open_others.new.accounts.items in
    let more : length c.args.names.now - 1 ≡ length c.unwrap.result.1.now = search rules in
    let one : vec_len c.args.accounts.now + 1 ≡ 1 = search rules in
    let are : accounts ≡ opened.0 =
    opened.1 ∙ ap (λ xs. map seen_of xs ++ opened.0) c.requires.none in
    first_refused device c.args.shared.now.id c.args.opening.now c.unwrap.result.1.now c.args.first
    c.in_ok-rest.rest c.in-Err.refused.1 (length c.args.names.now - 1) accounts (vec_len c.args.accounts.now + 1)
    opened.0 are one opened.2 c.requires.first more c.in_ok-rest.ensures.rest c.in-Err.ensures.kept
