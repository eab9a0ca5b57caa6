use Rattle.std.proofs.Common.{◌<◌, ◌≤◌, length, sym, ◌∙◌, ap, arith}
use Rattle.std.specs.List.{remove}
use Rattle.account_machine.specs.Sessions.{place_of, ended}
use Rattle.account_machine.proofs.Places.{ended-place, ended-none}
use Rattle.account_machine.proofs.session.Sessions.end.Goals as goal

-- the token's session stands there
pub returns-then-place-len : goal.returns-then-place-len
returns-then-place-len c =
    let kept = c.self.inside.kept.items in
    let place = c.place_of-place.ensures ∙ ap (place_of c.args.token.now) c.deref.ensures.value in
    let inside : place_of c.args.token.now kept < length kept = omega (arith, place, c.if-place-len.true, c.len.ensures, c.deref.ensures.len, ap length c.deref.ensures.value) in
    c.remove.ensures.items ∙ ap (remove kept) place ∙ sym (ended-place kept c.args.token.now inside) ∙ ap (ended c.args.token.now) c.self.view_is

-- there is no such session
pub returns-else-place-len : goal.returns-else-place-len
returns-else-place-len c =
    let kept = c.self.inside.kept.items in
    let place = c.place_of-place.ensures ∙ ap (place_of c.args.token.now) c.deref.ensures.value in
    let outside : length kept ≤ place_of c.args.token.now kept = omega (arith, place, c.if-place-len.false, c.len.ensures, c.deref.ensures.len, ap length c.deref.ensures.value) in
    sym c.self.view_is ∙ sym (ended-none kept c.args.token.now outside) ∙ ap (ended c.args.token.now) c.self.view_is
