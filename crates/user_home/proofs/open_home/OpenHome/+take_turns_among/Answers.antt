-- The first of the accounts is the one that is asked.
use Rattle.std.proofs.Common.{rules, ◌≡◌, ◌∷◌, true, map}
use Rattle.std.specs.Prelude.{bytes_eq}
use Rattle.account_machine.specs.Asked.{account_of}
use Rattle.request_turns.specs.Named.{are_apart}
use Rattle.user_home.proofs.ClientSlots.{makes_first}
use Rattle.user_home.proofs.open_home.OpenHome.+take_turns_among.Goals as goal

pub returns-then-eq-clause-makes : goal.returns-then-eq-clause-makes
returns-then-eq-clause-makes g t c = λ caller are.
    let home = c.args.self.now in
    let request = c.args.request.now in
    let name = c.in_ok-name.name.now in
    let lock = c.unwrap.result.0.now.id in
    let others = map (λ lock. lock.id) c.unwrap.result.1.now in
    let slot = c.unwrap-2.result.0.now in
    let rest = c.unwrap-2.result.1.now in
    let names : home.names ≡ name ∷ c.in_ok-name.names.now = search rules in
    let locks : home.locks ≡ lock ∷ others = search rules in
    let slots : c.args.slots.now ≡ slot ∷ rest = search rules in
    let is : bytes_eq name (account_of request) ≡ true = search rules in
    let apart : are_apart home.names ≡ true = search rules in
    makes_first c.args.moment request c.take_turns_at.result home.names name c.in_ok-name.names.now home.locks lock
    others caller c.args.slots.now slot c.take_turns_at.new.slot rest names locks slots is apart are
    c.take_turns_at.ensures.makes
