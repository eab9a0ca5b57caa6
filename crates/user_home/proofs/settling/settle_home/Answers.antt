-- The locks come with their joined seats in their order, and each book is what its joined seat recalls.
use Rattle.std.proofs.Common.{◌≡◌, ℕ, List, map, length, sym, ap, ◌∙◌, subst}
use Rattle.std.proofs.lemmas.List.{length-map}
use Rattle.std.specs.List.{AllByRecursion}
use Rattle.board_device.specs.Device.{era_of}
use Rattle.client_seats.specs.Clients.{ClientView, client_view, known_at}
use Rattle.client_seats.specs.Gathering.{Knows}
use Rattle.home_locks.specs.Accounts.{Started}
use Rattle.home_locks.specs.Meanings.{client_of}
use Rattle.home_locks.specs.declared.account.Entry.{Entry}
use Rattle.home_seats.specs.Seats.{LockSeen}
use Rattle.platform_core.specs.Held as held
use Rattle.turn_lock.specs.Lists.{entries_of}
use Rattle.turn_lock.specs.Seats.{Lock, SeatView}
use Rattle.turn_meaning.specs.declared.taken.TurnTaken.{TurnTaken}
use Rattle.user_accounts.specs.Settled.{UsersMoved, UsersSettle}
use Rattle.user_state.specs.declared.state.UserState.{UserState}
use Rattle.user_home.specs.Ending.{CanEnd}
use Rattle.user_home.proofs.EndingLemmas.{as_many, each_image, each_recalled}
use Rattle.user_home.proofs.PartLemmas.{LockedUser, UserWhole, whole_locks, whole_starts}
use Rattle.user_home.proofs.settling.settle_home.Goals as goal

pub close_locks-device-requires-clause-can : goal.close_locks-device-requires-clause-can
close_locks-device-requires-clause-can g c =
    let home = c.args.home in
    subst (λ (locks : List LockSeen). CanEnd home.shared.id (era_of home.shared.first.device) locks home.idle)
    (sym (whole_locks c.gather_seats-wholes.result.items home.locks.items c.gather_seats-wholes.ensures.locks))
    c.requires.can

pub returns-clause-many : goal.returns-clause-many
returns-clause-many g c =
    let wholes : List (UserWhole g.row.B.Denot) = c.gather_seats-wholes.result.items in
    as_many (map (λ (w : UserWhole g.row.B.Denot). w.seat) wholes) c.close_locks-device.result.books.items
    c.close_locks-device.ensures.own
    ∙ length-map wholes (λ (w : UserWhole g.row.B.Denot). w.seat)
    ∙ sym (length-map wholes (λ (w : UserWhole g.row.B.Denot). w.lock))
    ∙ ap (λ (locks : List (Lock (LockedUser g.row.B.Denot))). length locks) c.gather_seats-wholes.ensures.locks

pub returns-clause-settled : goal.returns-clause-settled
returns-clause-settled g c =
    let first = c.args.home.shared.first.device in
    let device = c.close_locks-device.result.device in
    let disk = g.B.Board.disk in
    let settled = c.close_locks-device.ensures.settled in (
      device,
      settled.0,
      c.into_board.ensures.value ∙ ap held.board_of c.into_platform.ensures.value,
      settled.1,
      subst (λ (starts : List (Started UserState)). UsersMoved first starts settled.0
          c.close_locks-device.result.books.items)
          (whole_starts c.gather_seats-wholes.result.items c.args.home.locks.items c.gather_seats-wholes.ensures.locks)
          settled.2,
      λ opened. subst (λ (starts : List (Started UserState)). UsersSettle disk first device starts settled.0
          c.close_locks-device.result.books.items)
          (whole_starts c.gather_seats-wholes.result.items c.args.home.locks.items c.gather_seats-wholes.ensures.locks)
          (settled.3 opened),
    )

pub returns-clause-own : goal.returns-clause-own
returns-clause-own g c =
    let wholes : List (UserWhole g.row.B.Denot) = c.gather_seats-wholes.result.items in
    let clients : List (ClientView (Entry TurnTaken)) = map client_view c.args.clients.items in
    let Q : ℕ → SeatView (Entry TurnTaken) → Type 0 = λ account seat. Knows (known_at account clients) seat in
    let R : ℕ → List (Entry TurnTaken) → Type 0 = λ account book.
    AllByRecursion (λ known. entries_of client_of known.0 book ≡ known.1) (known_at account clients) in
    each_recalled Q R (map (λ (w : UserWhole g.row.B.Denot). w.seat) wholes)
    c.close_locks-device.result.books.items
    (λ account seat book knows recalls.
    c.known_entries_are_in_the_book.ensures book clients account seat knows recalls)
    c.close_locks-device.ensures.own
    (each_image Q (λ (w : UserWhole g.row.B.Denot). w.seat) wholes c.gather_seats-wholes.ensures.knows)
