-- The last account is closed, its seat joined, and then the others are.
use Rattle.std.proofs.Common.{rules, [], ◌∷◌, Option, map, refl, sym, ap, ◌∙◌, subst}
use Rattle.std.specs.Prelude.{IsSome}
use Rattle.std.proofs.lemmas.List.{map-append}
use Rattle.platform_lock.specs.Seats.{AccountView}
use Rattle.home_opening.specs.Locks.{AccountSeen, account_seen}
use Rattle.home_opening.specs.declared.account.OpenedAccount.{OpenedAccount}
use Rattle.home_opening.proofs.ClosingLemmas.{first_seat_is, known_joined, new_last, own_known, own_lock, own_number}
use Rattle.home_opening.proofs.NumberLemmas.{numbers_joined}
use Rattle.home_opening.proofs.closing.+close_accounts.Goals as goal

abbrev seen_of : {B : Type 0} → OpenedAccount B → AccountSeen
seen_of a = account_seen a.lock.id a.lock.first.seat a.lock.first.state a.lock.first.era a.seat

pub close_account-own-requires-clause-first : goal.close_account-own-requires-clause-first
close_account-own-requires-clause-first g t c =
    let new = c.requires.new in
    (new_last seen_of c.args.shared.now.id new.0 new.1 _ _ c.in-Some.account c.in-Some.ensures.items new.2).2

pub close_account-own-requires-clause-some : goal.close_account-own-requires-clause-some
close_account-own-requires-clause-some g t c =
    let new = c.requires.new in
    let last = new_last seen_of c.args.shared.now.id new.0 new.1 _ _ c.in-Some.account c.in-Some.ensures.items new.2 in
    subst (λ (o : Option AccountView). IsSome o) (sym last.1.1.start_is) refl

pub join-requires-clause-other : goal.join-requires-clause-other
join-requires-clause-other g t c =
    let new = c.requires.new in
    let shared = c.args.shared.now.id in
    let last = new_last seen_of shared new.0 new.1 _ _ c.in-Some.account c.in-Some.ensures.items new.2 in
    let of = last.1.1 in
    let own = first_seat_is _ of.start c.close_account-own.result of.start_is c.close_account-own.ensures in
    own_lock shared new.0 new.1 last.1.0 _ c.close_account-own.result of own

pub close_accounts-requires : goal.close_accounts-requires
close_accounts-requires g t c κs within =
    let new = c.requires.new in
    let last = new_last seen_of c.args.shared.now.id new.0 new.1 _ _ c.in-Some.account c.in-Some.ensures.items new.2 in
    (search rules, (within, (search rules, (new.0, new.1, last.0))))

pub returns-clause-numbers : goal.returns-clause-numbers
returns-clause-numbers g t c =
    let new = c.requires.new in
    let shared = c.args.shared.now.id in
    let last = new_last seen_of shared new.0 new.1 _ _ c.in-Some.account c.in-Some.ensures.items new.2 in
    let of = last.1.1 in
    let own = first_seat_is _ of.start c.close_account-own.result of.start_is c.close_account-own.ensures in
    numbers_joined c.args.seat c.close_account-own.result c.join.result c.close_accounts.result
    (seen_of c.in-Some.account) _ _
    (ap (map seen_of) c.in-Some.ensures.items ∙ map-append seen_of _ (c.in-Some.account ∷ [])) c.join.ensures.numbers
    (own_number shared new.0 new.1 last.1.0 _ c.close_account-own.result of own) c.close_accounts.ensures.numbers

pub returns-clause-known : goal.returns-clause-known
returns-clause-known g t c =
    let new = c.requires.new in
    let shared = c.args.shared.now.id in
    let last = new_last seen_of shared new.0 new.1 _ _ c.in-Some.account c.in-Some.ensures.items new.2 in
    let of = last.1.1 in
    let own = first_seat_is _ of.start c.close_account-own.result of.start_is c.close_account-own.ensures in
    known_joined c.args.seat c.close_account-own.result c.join.result c.close_accounts.result
    (seen_of c.in-Some.account) _ _
    (ap (map seen_of) c.in-Some.ensures.items ∙ map-append seen_of _ (c.in-Some.account ∷ [])) c.join.ensures.seat
    (own_known shared new.0 new.1 last.1.0 _ c.close_account-own.result of own) c.close_accounts.ensures.known
