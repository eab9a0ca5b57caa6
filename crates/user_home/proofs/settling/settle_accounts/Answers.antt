-- The locks are closed with the seats that were joined.
use Rattle.std.proofs.Common.{◌≡◌, ◌++◌, List, map, ap, ◌∙◌, subst}
use Rattle.board_device.specs.Device.{era_of}
use Rattle.home_locks.specs.Accounts.{Started}
use Rattle.home_locks.specs.Closing.{AreRecalled}
use Rattle.home_locks.specs.declared.account.Entry.{Entry}
use Rattle.turn_lock.specs.Seats.{SeatView}
use Rattle.turn_meaning.specs.declared.taken.TurnTaken.{TurnTaken}
use Rattle.user_accounts.specs.Settled.{UsersMoved, UsersSettle}
use Rattle.user_state.specs.declared.state.UserState.{UserState}
use Rattle.user_home.proofs.PartLemmas.{UserPart, UserWhole, part_seen, whole_seen, same_starts, same_clients, parts_whole, parts_numbers}
use Rattle.user_home.proofs.settling.settle_accounts.Goals as goal

pub settle-requires-clause-parts : goal.settle-requires-clause-parts
settle-requires-clause-parts g c =
    let wholes : List (UserWhole g.row.B.Denot) = c.args.wholes.items in
    let parts : List (UserPart g.row.B.Denot) = c.add_parts.new.parts.items in
    let same : map part_seen parts ≡ map whole_seen wholes = c.add_parts.ensures.parts
    ∙ ap (λ (before : List (UserPart g.row.B.Denot)). map part_seen before ++ map whole_seen wholes) c.requires.parts.empty in
    parts_whole parts wholes same c.args.shared.id (era_of c.args.shared.first.device) c.requires.of.0 c.requires.of.1
    c.requires.whole

pub settle-requires-clause-numbers : goal.settle-requires-clause-numbers
settle-requires-clause-numbers g c =
    let wholes : List (UserWhole g.row.B.Denot) = c.args.wholes.items in
    let parts : List (UserPart g.row.B.Denot) = c.add_parts.new.parts.items in
    let same : map part_seen parts ≡ map whole_seen wholes = c.add_parts.ensures.parts
    ∙ ap (λ (before : List (UserPart g.row.B.Denot)). map part_seen before ++ map whole_seen wholes) c.requires.parts.empty in
    parts_numbers parts wholes same c.args.shared.id (era_of c.args.shared.first.device) c.requires.of.0
    c.requires.of.1 c.requires.callers

pub returns-clause-settled : goal.returns-clause-settled
returns-clause-settled g c =
    let wholes : List (UserWhole g.row.B.Denot) = c.args.wholes.items in
    let parts : List (UserPart g.row.B.Denot) = c.add_parts.new.parts.items in
    let same : map part_seen parts ≡ map whole_seen wholes = c.add_parts.ensures.parts
    ∙ ap (λ (before : List (UserPart g.row.B.Denot)). map part_seen before ++ map whole_seen wholes) c.requires.parts.empty in
    let first = c.args.shared.first.device in
    let now = c.settle.result.device in
    let disk = g.B.Board.disk in
    let settled = c.settle.ensures.settled in (
      settled.0,
      settled.1,
      subst (λ (starts : List (Started UserState)). UsersMoved first starts settled.0 c.settle.result.books.items)
          (same_starts parts wholes same) settled.2,
      λ opened. subst (λ (starts : List (Started UserState)). UsersSettle disk first now starts settled.0
          c.settle.result.books.items) (same_starts parts wholes same) (settled.3 opened),
    )

pub returns-clause-own : goal.returns-clause-own
returns-clause-own g c =
    let wholes : List (UserWhole g.row.B.Denot) = c.args.wholes.items in
    let parts : List (UserPart g.row.B.Denot) = c.add_parts.new.parts.items in
    let same : map part_seen parts ≡ map whole_seen wholes = c.add_parts.ensures.parts
    ∙ ap (λ (before : List (UserPart g.row.B.Denot)). map part_seen before ++ map whole_seen wholes) c.requires.parts.empty in
    subst (λ (seats : List (SeatView (Entry TurnTaken))). AreRecalled seats c.settle.result.books.items)
    (same_clients parts wholes same) c.settle.ensures.own
