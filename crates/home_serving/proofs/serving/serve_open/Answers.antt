-- The home that is lent has the names and the locks of the home.
use denote.Exit.{yes}
use denote.Param.{copied, param}
use denote.Param.Send.{arg_send, param_send}
use mir.Syntax.{static}
use Rattle.std.proofs.Common.{arith, ◌≡◌, All, map, length, sym, ap, subst, ◌∙◌}
use Rattle.std.specs.Prelude.{IfSome}
use Rattle.account_machine.specs.contracts.user.Durable as Durable
use Rattle.account_machine.specs.contracts.user.User as User
use Rattle.board_device.specs.contracts.stepping.BoardDeviceDevice.TheImpl as stepping
use Rattle.client_lines.specs.Seats.{AreSeatsOf}
use Rattle.client_seats.specs.Clients.{client_view}
use Rattle.turn_meaning.specs.contracts.taken.TurnTaken as TurnTaken
use Rattle.user_accounts.specs.contracts.asked.TurnAsked as TurnAsked
use Rattle.user_accounts.specs.contracts.part.AccountPart as AccountPart
use Rattle.user_accounts.specs.contracts.told.TurnTold as TurnTold
use Rattle.user_accounts.specs.contracts.turns.UserTurns as UserTurns
use Rattle.user_home.specs.Open.{HomeView, bare_slot}
use Rattle.served_books.proofs.Output.{AreServedSo, as_many_seats, dealt_seats_of}
use Rattle.home_serving.proofs.Crossing.{client_send, home_sync}
use Rattle.home_serving.proofs.serving.serve_open.Goals as goal

pub serve_clients-requires-clause-many : goal.serve_clients-requires-clause-many
serve_clients-requires-clause-many g c κs within =
    sym (as_many_seats client_view (map (λ lock. lock.id) c.args.home.now.locks.items) (length c.args.ends.items)
    c.args.seats.items c.requires.dealt)

pub serve_clients-requires-clause-seated : goal.serve_clients-requires-clause-seated
serve_clients-requires-clause-seated g c κs within =
    let open_is = c.new-open.ensures.value
    ∙ (λ i. record {
      names = c.deref.ensures.value i;
      locks = map (λ lock. lock.id) (c.deref-2.ensures.value i);
    }) in
    subst (λ (home : HomeView). All (λ seat. AreSeatsOf home.locks seat.number (map bare_slot seat.seats.items))
    c.args.seats.items) (sym open_is)
    (dealt_seats_of client_view (map (λ lock. lock.id) c.args.home.now.locks.items) (length c.args.ends.items)
    c.args.seats.items c.requires.dealt)

pub serve_clients-requires-clause-numbers : goal.serve_clients-requires-clause-numbers
serve_clients-requires-clause-numbers g c =
    let many = as_many_seats client_view (map (λ lock. lock.id) c.args.home.now.locks.items)
    (length c.args.ends.items) c.args.seats.items c.requires.dealt in
    let below = c.requires.below in
    omega (arith, many, below)

pub returns-clause-served : goal.returns-clause-served
returns-clause-served g c =
    let open_is = c.new-open.ensures.value
    ∙ (λ i. record {
      names = c.deref.ensures.value i;
      locks = map (λ lock. lock.id) (c.deref-2.ensures.value i);
    }) in
    subst (λ (home : HomeView). IfSome c.serve_clients.result.end (AreServedSo g.S.Source.left g.S.Source.taken
    g.S.Source.faults g.K.Sink.written g.K.Sink.faults g.C.Clock.given client_view home.names home.locks c.args.first
    c.args.ends.items c.serve_clients.result.clients.items c.args.seats.items c.serve_clients.result.seats.items 0))
    open_is c.serve_clients.ensures.served

-- the board may go to another thread
pub serve_clients-requires-send-H-Seat : goal.serve_clients-requires-send-H-Seat
serve_clients-requires-send-H-Seat g c κs within =
    let B = param 1 g.row.B in
    param_send _ _ (arg_send _ yes _ (client_send B c.type_bounds.send-B (UserTurns.the_row B) AccountPart.the_row
    Durable.the_row User.the_row TurnAsked.the_row TurnTaken.the_row TurnTold.the_row
    (stepping.ghosts B g.B.Board stepping.no_dict)))

-- so the locks may be shared
pub serve_clients-requires-sync-H : goal.serve_clients-requires-sync-H
serve_clients-requires-sync-H g c κs within =
    record {
      shared = (home_sync (param 1 g.row.B) c.type_bounds.send-B (record { mir = static; lft = _ })
          (copied 5 g.row.F) g.B.Board c.type_bounds.sync-F).shared;
    }
