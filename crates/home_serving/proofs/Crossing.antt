-- What a home's clients share may be shared by threads, and what each brings may go to another thread, where the board
-- may go to another thread. The board itself is never shared, since it stands behind a lock.
use denote.Model.Goals.{send, has_of}
use denote.Model.Local.{Parts, rows}
use denote.Model.Marks.{tied_send}
use denote.Param.Send.{IsSend, IsSync, sendable}
use denote.RattleType.{RattleType}
use denote.Ref.{NamedLft}
use Rattle.std.proofs.Crossing.{crosses}
use Rattle.account_machine.specs.contracts.answer.Answer as Answer
use Rattle.account_machine.specs.contracts.answer.FactorLines as FactorLines
use Rattle.account_machine.specs.contracts.answer.FileNames as FileNames
use Rattle.account_machine.specs.contracts.request.Request as Request
use Rattle.account_machine.specs.contracts.request.Turn as Turn
use Rattle.atomic_table.proofs.send_lease.SendLease.TheSendSync as lease
use Rattle.atomic_table.proofs.shared.Seat.TheSendSync as place
use Rattle.atomic_table.proofs.shared.Shared.TheSendSync as table
use Rattle.board_device.specs.contracts.device.BoardDevice as BoardDevice
use Rattle.board_model.specs.declared.board.Board as board
use Rattle.client_seats.specs.contracts.seats.ClientSeats as ClientSeats
use Rattle.ct_bytes.specs.contracts.blob.Blob as Blob
use Rattle.ct_bytes.specs.contracts.text.Text as Text
use Rattle.home_locks.specs.contracts.account.Account as Account
use Rattle.home_locks.specs.contracts.account.Entry as Entry
use Rattle.link_chain.specs.contracts.chain.Chain as Chain
use Rattle.link_chain.specs.contracts.link.Link as Link
use Rattle.link_chain.specs.contracts.stack.Stack as Stack
use Rattle.link_chain.specs.contracts.stack.Stack.TheKnot as knot
use Rattle.link_chain.specs.declared.stack.Stack.TheDeep.{member-Stack, the_members}
use Rattle.platform_lock.specs.contracts.seat.AccountSeat as AccountSeat
use Rattle.platform_lock.specs.contracts.shared.SharedDevice as SharedDevice
use Rattle.platform_lock.specs.declared.device.Device as device
use Rattle.share_api.specs.contracts.step.Step as Step
use Rattle.turn_lock.specs.contracts.lock.Turnstile as Turnstile
use Rattle.turn_lock.specs.contracts.seat.SeatOf as SeatOf
use Rattle.turn_lock.specs.contracts.table.Content as Content
use Rattle.turn_lock.specs.declared.tale.Tale as tale
use Rattle.turn_meaning.specs.contracts.taken.TurnTaken as TurnTaken
use Rattle.user_home.specs.contracts.open_home.OpenHome as OpenHome
use Rattle.user_state.specs.contracts.state.UserState as UserState

-- ---- a lock with its entries, by the value that it keeps and by an entry

module _ (E : RattleType) (e : IsSend E) where
  -- a stack refers back to itself, so this is of one whose smaller stacks may go
  layer_send : (R : RattleType) → IsSend R → IsSend (knot.layer-Stack E R)
  layer_send R r = search (sendable, crosses) depth 20

  fields_send : (p : Parts (knot.frame E)) → ((i : the_members) → IsSend (rows (knot.frame E) p i))
      → IsSend (knot.at-Stack E p)
  fields_send p smaller =
      let layer = layer_send (rows (knot.frame E) p member-Stack) (smaller member-Stack) in
      search (sendable, crosses, layer_send) depth 20

  larger_send : (p : Parts (knot.frame E)) → ((i : the_members) → IsSend (rows (knot.frame E) p i))
      → (i : the_members) → IsSend (rows (knot.frame E) (knot.step E p) i)
  larger_send p smaller member-Stack =
      has_of (knot.frame E) send (knot.step E p) member-Stack
      (λ entries vs fields. ((fields_send p smaller).owned fields.0 vs, tt))

  stack_send : IsSend (Stack.the_row E)
  stack_send = tied_send (knot.frame E) (knot.step E) (knot.sizes E) larger_send member-Stack

  chain_send : IsSend (Chain.the_row E)
  chain_send = let stack = stack_send in search (sendable, crosses) depth 20

  link_send : IsSend (Link.the_row E)
  link_send = let stack = stack_send in search (sendable, crosses) depth 20

module _ (T E : RattleType) (t : IsSend T) (e : IsSend E) where
  content_send : IsSend (Content.the_row T E)
  content_send = let chain = chain_send E e in search (sendable, crosses) depth 20

  seat_send : IsSend (SeatOf.the_row T E)
  seat_send = let content = content_send in search (sendable, crosses, place.the_send) depth 20

  lock_sync : (g : tale.Ghosts T.Denot E.Denot) → IsSync (Turnstile.the_row T E g)
  lock_sync g = let content = content_send in search (sendable, crosses, table.the_sync, lease.the_sync) depth 20

  client_seats_send : IsSend (ClientSeats.the_row T E)
  client_seats_send = let seat = seat_send in search (sendable, crosses) depth 20

-- ---- entries, which hold no references

text_send : IsSend Text.the_row
text_send = search (sendable, crosses) depth 60

blob_send : IsSend Blob.the_row
blob_send = search (sendable, crosses) depth 60

factor_lines_send : IsSend FactorLines.the_row
factor_lines_send = search (sendable, crosses) depth 60

file_names_send : IsSend FileNames.the_row
file_names_send = search (sendable, crosses) depth 60

request_send : IsSend (Request.the_field).row
request_send = search (sendable, text_send, blob_send) depth 120 fits 20000

answer_send : IsSend (Answer.the_field).row
answer_send = search (sendable, factor_lines_send, file_names_send, text_send, blob_send) depth 120 fits 20000

asked_send : IsSend (Turn.the_field).row
asked_send = search (sendable, request_send, text_send) depth 60 fits 20000

turn_send : IsSend TurnTaken.the_row
turn_send = search (sendable, asked_send, answer_send) depth 60 fits 20000

-- an entry of an account's book
entry_send : IsSend (Entry.the_row TurnTaken.the_row)
entry_send = let turn = turn_send in search (sendable, crosses) depth 20

-- an entry of the platform's chain
step_send : IsSend Step.the_row
step_send = search (sendable, crosses) depth 60 fits 20000

-- ---- values behind locks

state_send : IsSend UserState.the_row
state_send = search (sendable, crosses) depth 60 fits 20000

device_send : (B : RattleType) → IsSend B → IsSend (BoardDevice.the_row B)
device_send B b = search (sendable, crosses) depth 60

module _ (D : RattleType) (d : IsSend D) where
  platform_send : IsSend (SharedDevice.the_row D)
  platform_send = search (sendable, crosses) depth 20

  account_seat_send : (g : device.Ghosts D.Denot) → IsSend (AccountSeat.the_row D g)
  account_seat_send g =
      let seat = seat_send (SharedDevice.the_row D) Step.the_row platform_send step_send in
      let link = link_send Step.the_row step_send in
      search (sendable, crosses) depth 20

  -- an account, by the platform and the account's state
  account_send : (K Contents Durable User Asked Taken Told State : RattleType) (g : device.Ghosts D.Denot)
      → IsSend State
      → IsSend (Account.the_row K D Contents Durable User Asked Taken Told State g)
  account_send K Contents Durable User Asked Taken Told State g state =
      let seat = account_seat_send g in search (sendable, crosses) depth 20

-- ---- a home over a board

module _ (B : RattleType) (b : IsSend B) where
  module _ (K Contents Durable User Asked Taken Told : RattleType)
      (g : device.Ghosts (BoardDevice.the_row B).Denot) where
    abbrev account : RattleType
    account = Account.the_row K (BoardDevice.the_row B) Contents Durable User Asked Taken Told UserState.the_row g

    user_account_send : IsSend account
    user_account_send =
        account_send (BoardDevice.the_row B) (device_send B b) K Contents Durable User Asked Taken Told
        UserState.the_row g state_send

    -- a client's seats of the accounts' locks
    pub client_send : IsSend (ClientSeats.the_row account (Entry.the_row TurnTaken.the_row))
    client_send =
        client_seats_send account (Entry.the_row TurnTaken.the_row) user_account_send entry_send

  -- the home that is lent to the clients, where what derives keys may be shared
  pub home_sync : (κ : NamedLft) (F : RattleType) (g : board.Ghosts B.Denot) → IsSync F
      → IsSync (OpenHome.the_row κ B F g)
  home_sync κ F g f =
      let platform = platform_send (BoardDevice.the_row B) (device_send B b) in
      let account = user_account_send in
      let entry = entry_send in
      search (sendable, crosses, lock_sync, step_send) depth 20
