-- The seat's numbers are all those of its lock, which is this one.
use Rattle.std.proofs.Common.{◌≡◌, ◌<◌, ℕ, ap, sym, ◌∙◌, subst}
use Rattle.turn_lock.specs.Seats.{HasEachNumber}
use Rattle.turn_lock.proofs.lock.Turnstile.close.Goals as goal

pub last_content-value-requires-clause-numbers : goal.last_content-value-requires-clause-numbers
last_content-value-requires-clause-numbers g c number below =
    let callers : c.seat.inside.end ≡ c.self.inside.table.shared.key.callers =
    ap (λ seat. seat.lock.callers) c.seat.view_is
    ∙ (ap (λ id. id.callers) c.requires.of ∙ sym (ap (λ lock. lock.id.callers) c.self.view_is)) in
    let all = subst HasEachNumber (sym c.seat.view_is) c.requires.numbers in
    all number (subst (λ (n : ℕ). number < n) (sym callers) below)
