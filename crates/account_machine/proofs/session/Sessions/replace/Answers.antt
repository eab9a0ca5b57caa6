use Rattle.std.proofs.Common.{◌<◌, ◌≤◌, length, set, sym, ◌∙◌, ap, arith}
use Rattle.account_machine.specs.Sessions.{place_of, replaced}
use Rattle.account_machine.proofs.Places.{replaced-place, replaced-none}
use Rattle.account_machine.proofs.session.Sessions.replace.Goals as goal

-- the token's session stands there
pub returns-then-place-len : goal.returns-then-place-len
returns-then-place-len c =
    let kept = c.self.inside.kept.items in
    let place = c.place_of-place.ensures ∙ ap (place_of c.args.token.now) c.deref.ensures.value in
    let inside : place_of c.args.token.now kept < length kept = omega (arith, place, c.if-place-len.true, c.len.ensures, c.deref.ensures.len, ap length c.deref.ensures.value) in
    ap (λ at. set kept at c.args.next) place ∙ sym (replaced-place kept c.args.token.now c.args.next inside) ∙ ap (replaced c.args.token.now c.args.next) c.self.view_is

-- there is no such session
pub returns-else-place-len : goal.returns-else-place-len
returns-else-place-len c =
    let kept = c.self.inside.kept.items in
    let place = c.place_of-place.ensures ∙ ap (place_of c.args.token.now) c.deref.ensures.value in
    let outside : length kept ≤ place_of c.args.token.now kept = omega (arith, place, c.if-place-len.false, c.len.ensures, c.deref.ensures.len, ap length c.deref.ensures.value) in
    sym c.self.view_is ∙ sym (replaced-none kept c.args.token.now c.args.next outside) ∙ ap (replaced c.args.token.now c.args.next) c.self.view_is
