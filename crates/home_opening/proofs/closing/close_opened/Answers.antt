-- The last account's seat is the one that the others' are joined to.
use Rattle.std.proofs.Common.{◌≡◌, [], ◌∷◌, ◌++◌, Option, map, refl, sym, ap, ◌∙◌, subst}
use Rattle.std.specs.Prelude.{IsSome}
use Rattle.std.specs.Option.{option_to_list}
use Rattle.std.proofs.lemmas.List.{map-append}
use Rattle.platform_lock.specs.Seats.{AccountView}
use Rattle.home_opening.specs.Locks.{AccountSeen, account_seen}
use Rattle.home_opening.specs.declared.account.OpenedAccount.{OpenedAccount}
use Rattle.home_opening.proofs.ClosingLemmas.{first_seat_is, known_first, new_last, numbers_first, own_known, own_lock, own_number}
use Rattle.home_opening.proofs.closing.close_opened.Goals as goal

abbrev seen_of : {B : Type 0} → OpenedAccount B → AccountSeen
seen_of a = account_seen a.lock.id a.lock.first.seat a.lock.first.state a.lock.first.era a.seat

pub close_account-first-requires-clause-first : goal.close_account-first-requires-clause-first
close_account-first-requires-clause-first g c =
    let new = c.requires.new in
    let shared = c.args.shared.now.id in
    let account = c.unwrap-last.result in
    let items : c.args.accounts.items ≡ c.pop.new.self.items ++ account ∷ [] =
    c.pop.ensures.items ∙ ap (λ last. c.pop.new.self.items ++ option_to_list last) c.unwrap-last.ensures in
    let last = new_last seen_of shared new.0 new.1 _ _ account items new.2 in
    last.2

pub close_account-first-requires-clause-some : goal.close_account-first-requires-clause-some
close_account-first-requires-clause-some g c =
    let new = c.requires.new in
    let shared = c.args.shared.now.id in
    let account = c.unwrap-last.result in
    let items : c.args.accounts.items ≡ c.pop.new.self.items ++ account ∷ [] =
    c.pop.ensures.items ∙ ap (λ last. c.pop.new.self.items ++ option_to_list last) c.unwrap-last.ensures in
    let last = new_last seen_of shared new.0 new.1 _ _ account items new.2 in
    subst (λ (o : Option AccountView). IsSome o) (sym last.1.1.start_is) refl

pub close_accounts-requires-clause-of : goal.close_accounts-requires-clause-of
close_accounts-requires-clause-of g c =
    let new = c.requires.new in
    let shared = c.args.shared.now.id in
    let account = c.unwrap-last.result in
    let items : c.args.accounts.items ≡ c.pop.new.self.items ++ account ∷ [] =
    c.pop.ensures.items ∙ ap (λ last. c.pop.new.self.items ++ option_to_list last) c.unwrap-last.ensures in
    let last = new_last seen_of shared new.0 new.1 _ _ account items new.2 in
    let of = last.1.1 in
    let own = first_seat_is _ of.start c.close_account-first.result of.start_is c.close_account-first.ensures in
    own_lock shared new.0 new.1 last.1.0 _ c.close_account-first.result of own

pub close_accounts-requires-clause-new : goal.close_accounts-requires-clause-new
close_accounts-requires-clause-new g c =
    let new = c.requires.new in
    let shared = c.args.shared.now.id in
    let account = c.unwrap-last.result in
    let items : c.args.accounts.items ≡ c.pop.new.self.items ++ account ∷ [] =
    c.pop.ensures.items ∙ ap (λ last. c.pop.new.self.items ++ option_to_list last) c.unwrap-last.ensures in
    let last = new_last seen_of shared new.0 new.1 _ _ account items new.2 in
    (new.0, new.1, last.0)

pub returns-clause-numbers : goal.returns-clause-numbers
returns-clause-numbers g c =
    let new = c.requires.new in
    let shared = c.args.shared.now.id in
    let account = c.unwrap-last.result in
    let items : c.args.accounts.items ≡ c.pop.new.self.items ++ account ∷ [] =
    c.pop.ensures.items ∙ ap (λ last. c.pop.new.self.items ++ option_to_list last) c.unwrap-last.ensures in
    let last = new_last seen_of shared new.0 new.1 _ _ account items new.2 in
    let of = last.1.1 in
    let own = first_seat_is _ of.start c.close_account-first.result of.start_is c.close_account-first.ensures in
    numbers_first c.close_account-first.result c.close_accounts.result (seen_of account) _ _
    (ap (map seen_of) items ∙ map-append seen_of _ (account ∷ []))
    (own_number shared new.0 new.1 last.1.0 _ c.close_account-first.result of own) c.close_accounts.ensures.numbers

pub returns-clause-known : goal.returns-clause-known
returns-clause-known g c =
    let new = c.requires.new in
    let shared = c.args.shared.now.id in
    let account = c.unwrap-last.result in
    let items : c.args.accounts.items ≡ c.pop.new.self.items ++ account ∷ [] =
    c.pop.ensures.items ∙ ap (λ last. c.pop.new.self.items ++ option_to_list last) c.unwrap-last.ensures in
    let last = new_last seen_of shared new.0 new.1 _ _ account items new.2 in
    let of = last.1.1 in
    let own = first_seat_is _ of.start c.close_account-first.result of.start_is c.close_account-first.ensures in
    known_first c.close_account-first.result c.close_accounts.result (seen_of account) _ _
    (ap (map seen_of) items ∙ map-append seen_of _ (account ∷ []))
    (own_known shared new.0 new.1 last.1.0 _ c.close_account-first.result of own) c.close_accounts.ensures.known
