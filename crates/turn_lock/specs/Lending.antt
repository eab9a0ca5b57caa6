-- What a held lock lends: its value, and the entry of its link.
use Rattle.std.specs.Borrow.{Lends, MutBor, Fml, RattleType}
use Rattle.turn_lock.specs.Seats.{HeldView}
use Rattle.turn_lock.specs.contracts.held.HeldOf.{the_row}

abbrev pub LendsValue : (T E : RattleType)
    → MutBor (HeldView T.Denot E.Denot) → MutBor T.Denot → Fml
LendsValue T E held value = Lends (the_row T E) T held value (λ w. record held.now { value = w })

abbrev pub LendsEntry : (T E : RattleType)
    → MutBor (HeldView T.Denot E.Denot) → MutBor E.Denot → Fml
LendsEntry T E held entry = Lends (the_row T E) E held entry (λ w. record held.now { entry = w })
