-- The first of the accounts is the one that is asked, or a later one is.
use Rattle.std.proofs.Common.{rules, ◌≡◌, ◌∷◌, ℕ, true, false, refl, subst}
use Rattle.std.proofs.lemmas.Option.{IfSome_then}
use Rattle.std.specs.Prelude.{bytes_eq}
use Rattle.std.specs.List.{AllByRecursion}
use Rattle.pw_types.specs.Moment.{cut_moment}
use Rattle.account_machine.specs.Asked.{account_of}
use Rattle.client_output.specs.Turns.{Makes}
use Rattle.request_turns.specs.Taken.{Gives}
use Rattle.request_turns.proofs.Placing.{makes_here, makes_later}
use Rattle.request_turns.proofs.among.+take_turns_among.Goals as goal

pub returns-then-eq-clause-makes : goal.returns-then-eq-clause-makes
returns-then-eq-clause-makes g t c = λ caller all.
    let own = g.S.TurnSeat.own in
    let request = c.args.request.now in
    let seat = c.unwrap.result.0.now in
    let rest = c.unwrap.result.1.now in
    let after = c.take_turns.new.seat in
    let told = c.take_turns.result in
    let names : c.args.names.now ≡ c.in_ok-name.name.now ∷ c.in_ok-name.names.now = search rules in
    let seats : c.args.seats.now ≡ seat ∷ rest = search rules in
    let is : bytes_eq c.in_ok-name.name.now (account_of request) ≡ true = search rules in
    let first = (subst (AllByRecursion (λ seat. (g.S.TurnSeat.bare seat).caller ≡ caller)) seats all).0 in
    makes_here own caller c.args.moment request told c.args.names.now c.in_ok-name.names.now c.in_ok-name.name.now
    c.args.seats.now rest (after ∷ rest) seat after names seats refl is c.requires.apart
    (subst (λ (k : ℕ). Gives (Makes k (cut_moment c.args.moment) request) (own seat) (own after) told) first
    c.take_turns.ensures.makes)

pub returns-clause-makes : goal.returns-clause-makes
returns-clause-makes g t c =
    let own = g.S.TurnSeat.own in
    let request = c.args.request.now in
    let seat = c.unwrap.result.0.now in
    let rest = c.unwrap.result.1.now in
    let names : c.args.names.now ≡ c.in_ok-name.name.now ∷ c.in_ok-name.names.now = search rules in
    let seats : c.args.seats.now ≡ seat ∷ rest = search rules in
    let is : bytes_eq c.in_ok-name.name.now (account_of request) ≡ false = search rules in
    IfSome_then c.take_turns_among.result c.take_turns_among.ensures.makes
    (λ told makes caller all.
    makes_later own caller c.args.moment request told c.args.names.now c.in_ok-name.names.now c.in_ok-name.name.now
    c.args.seats.now rest (seat ∷ c.take_turns_among.new.seats) c.take_turns_among.new.seats seat names seats refl is
    (makes caller (subst (AllByRecursion (λ seat. (g.S.TurnSeat.bare seat).caller ≡ caller)) seats all).1))
