-- The accounts' locks are the home's, in order, and each has its first seat.
use Rattle.std.proofs.Common.{rules, arith, ◌≡◌, ℕ, ◌+◌, ◌≤◌, [], ◌++◌, map, length, vec_len, vec_capacity, All, refl, sym, ap, ◌∙◌, subst}
use Rattle.std.specs.List.{range_with_len}
use Rattle.std.proofs.lemmas.List.{length-map}
use Rattle.std.proofs.lemmas.List.Elements.{All-from_recursion}
use Rattle.turn_lock.specs.Seats.{first_seat}
use Rattle.board_device.specs.Device.{seen_by}
use Rattle.home_seats.specs.Seats.{lock_seen}
use Rattle.home_opening.specs.Locks.{AccountSeen, AreNewLocks, account_seen}
use Rattle.home_opening.specs.Numbers.{numbers_at}
use Rattle.home_opening.specs.Opened.{AreOpenedFrom, AreOpenedLocks}
use Rattle.home_opening.specs.declared.account.OpenedAccount.{OpenedAccount}
use Rattle.home_opening.proofs.KnownLemmas.{each_opened}
use Rattle.home_opening.proofs.NumberLemmas.{opened_numbers}
use Rattle.user_home.specs.Ending.{IsIdle, IsRoomFor}
use Rattle.home_begin.proofs.Begun.{accounts_many}
use Rattle.home_begin.proofs.Dealing.{callers_are, same_accounts, same_images, seats_are, whole_knows}
use Rattle.home_begin.proofs.Stopping.{stops_for_memory}
use Rattle.home_begin.proofs.beginning.deal_locks.Goals as goal

abbrev seen_of : {B : Type 0} → OpenedAccount B → AccountSeen
seen_of a = account_seen a.lock.id a.lock.first.seat a.lock.first.state a.lock.first.era a.seat

seen_same : {B : Type 0} (x y : OpenedAccount B) → x.lock ≡ y.lock → x.seat ≡ y.seat → seen_of x ≡ seen_of y
seen_same x y lock seat = λ i.
    account_seen (lock i).id (lock i).first.seat (lock i).first.state (lock i).first.era (seat i)

pub part_accounts-requires-clause-locks : goal.part_accounts-requires-clause-locks
part_accounts-requires-clause-locks g c =
    let accounts = c.args.opened.accounts.items in
    let device = seen_by g.B.Board.faults c.args.opened.shared.first.device in
    let shared = c.args.opened.shared.id in
    let opening = c.args.opening.now in
    let many : length accounts ≡ length c.args.names.items =
    accounts_many device shared opening seen_of c.args.names.items accounts c.requires.opened in
    let none : vec_len c.args.rooms.locks ≡ 0 = search rules in
    let room = c.requires.locks.room in
    omega (arith, none, many, room)

pub part_accounts-requires-clause-seats : goal.part_accounts-requires-clause-seats
part_accounts-requires-clause-seats g c =
    let accounts = c.args.opened.accounts.items in
    let device = seen_by g.B.Board.faults c.args.opened.shared.first.device in
    let shared = c.args.opened.shared.id in
    let opening = c.args.opening.now in
    let many : length accounts ≡ length c.args.names.items =
    accounts_many device shared opening seen_of c.args.names.items accounts c.requires.opened in
    let none : vec_len c.args.rooms.seats ≡ 0 = search rules in
    let room = c.requires.seats.room in
    omega (arith, none, many, room)

pub deal_seats-requires-clause-callers : goal.deal_seats-requires-clause-callers
deal_seats-requires-clause-callers g c =
    let accounts = c.args.opened.accounts.items in
    let device = seen_by g.B.Board.faults c.args.opened.shared.first.device in
    let shared = c.args.opened.shared.id in
    let opening = c.args.opening.now in
    let locks : c.part_accounts.new.locks.items ≡ map (λ a. a.lock) accounts =
    c.part_accounts.ensures.locks ∙ ap (λ xs. xs ++ map (λ a. a.lock) accounts) c.requires.locks.empty in
    subst (All (λ lock. lock.id.callers ≡ opening.clients)) (sym (c.deref.ensures.value ∙ locks))
    (All-from_recursion _ _ (callers_are (λ a. a.lock) (λ a. a.seat) seen_of (λ a. refl) (λ a. refl) shared opening.era
    opening.clients accounts c.requires.new))

pub deal_seats-requires-clause-seats : goal.deal_seats-requires-clause-seats
deal_seats-requires-clause-seats g c =
    let accounts = c.args.opened.accounts.items in
    let device = seen_by g.B.Board.faults c.args.opened.shared.first.device in
    let shared = c.args.opened.shared.id in
    let opening = c.args.opening.now in
    let locks : c.part_accounts.new.locks.items ≡ map (λ a. a.lock) accounts =
    c.part_accounts.ensures.locks ∙ ap (λ xs. xs ++ map (λ a. a.lock) accounts) c.requires.locks.empty in
    let seats : c.part_accounts.new.seats.items ≡ map (λ a. a.seat) accounts =
    c.part_accounts.ensures.seats ∙ ap (λ xs. xs ++ map (λ a. a.seat) accounts) c.requires.seats.empty in
    seats
    ∙ seats_are (λ a. a.lock) (λ a. a.seat) seen_of (λ a. refl) (λ a. refl) shared opening.era opening.clients accounts
    c.requires.new
    ∙ ap (map (λ lock. first_seat lock.id)) (sym (c.deref.ensures.value ∙ locks))

pub join_accounts-requires-clause-room : goal.join_accounts-requires-clause-room
join_accounts-requires-clause-room g c =
    let before = c.args.opened.accounts in
    let parted = c.part_accounts.new.accounts in
    let locks : c.part_accounts.new.locks.items ≡ map (λ a. a.lock) before.items =
    c.part_accounts.ensures.locks ∙ ap (λ xs. xs ++ map (λ a. a.lock) before.items) c.requires.locks.empty in
    let long : length c.part_accounts.new.locks.items ≡ length before.items =
    ap length locks ∙ length-map before.items (λ a. a.lock) in
    let none : vec_len parted ≡ 0 = parted.ok.0 ∙ ap length c.part_accounts.ensures.none in
    let room = c.part_accounts.ensures.room in
    let had = before.ok.0 in
    let most = before.ok.1 in
    omega (arith, none, room, long, had, most)

pub whole_seat-seat-requires-clause-idle : goal.whole_seat-seat-requires-clause-idle
whole_seat-seat-requires-clause-idle g c =
    let accounts = c.args.opened.accounts.items in
    let device = seen_by g.B.Board.faults c.args.opened.shared.first.device in
    let shared = c.args.opened.shared.id in
    let opening = c.args.opening.now in
    let many : length accounts ≡ length c.args.names.items =
    accounts_many device shared opening seen_of c.args.names.items accounts c.requires.opened in
    let locks : c.part_accounts.new.locks.items ≡ map (λ a. a.lock) accounts =
    c.part_accounts.ensures.locks ∙ ap (λ xs. xs ++ map (λ a. a.lock) accounts) c.requires.locks.empty in
    let joined = c.join_accounts.new.accounts.items in
    let again : map (λ a. a.lock) joined ≡ map (λ a. a.lock) accounts =
    c.join_accounts.ensures.locks
    ∙ ap (λ xs. map (λ a. a.lock) xs ++ c.part_accounts.new.locks.items) c.part_accounts.ensures.none ∙ locks in
    let long : length joined ≡ length c.args.names.items =
    sym (length-map joined (λ a. a.lock)) ∙ ap length again ∙ length-map accounts (λ a. a.lock) ∙ many in
    subst (λ (n : ℕ). IsIdle shared n c.args.opened.idle) (sym long) c.requires.idle

pub whole_seat-seat-requires-clause-order : goal.whole_seat-seat-requires-clause-order
whole_seat-seat-requires-clause-order g c =
    let accounts = c.args.opened.accounts.items in
    let device = seen_by g.B.Board.faults c.args.opened.shared.first.device in
    let shared = c.args.opened.shared.id in
    let opening = c.args.opening.now in
    let many : length accounts ≡ length c.args.names.items =
    accounts_many device shared opening seen_of c.args.names.items accounts c.requires.opened in
    let locks : c.part_accounts.new.locks.items ≡ map (λ a. a.lock) accounts =
    c.part_accounts.ensures.locks ∙ ap (λ xs. xs ++ map (λ a. a.lock) accounts) c.requires.locks.empty in
    let seats : c.part_accounts.new.seats.items ≡ map (λ a. a.seat) accounts =
    c.part_accounts.ensures.seats ∙ ap (λ xs. xs ++ map (λ a. a.seat) accounts) c.requires.seats.empty in
    let joined = c.join_accounts.new.accounts.items in
    let again : map (λ a. a.lock) joined ≡ map (λ a. a.lock) accounts =
    c.join_accounts.ensures.locks
    ∙ ap (λ xs. map (λ a. a.lock) xs ++ c.part_accounts.new.locks.items) c.part_accounts.ensures.none ∙ locks in
    let seats_again : map (λ a. a.seat) joined ≡ map (λ a. a.seat) accounts =
    c.join_accounts.ensures.seats
    ∙ ap (λ xs. map (λ a. a.seat) xs ++ c.in-Err.seats.items) c.part_accounts.ensures.none
    ∙ c.in-Err.ensures.err ∙ seats in
    let long : length joined ≡ length c.args.names.items =
    sym (length-map joined (λ a. a.lock)) ∙ ap length again ∙ length-map accounts (λ a. a.lock) ∙ many in
    ap numbers_at (same_accounts (λ a. a.lock) (λ a. a.seat) seen_of seen_same joined accounts again seats_again)
    ∙ opened_numbers device shared opening 0 c.args.names.items (map seen_of accounts) c.requires.opened
    ∙ ap (range_with_len 0) (sym long)

pub whole_seat-seat-requires-clause-new : goal.whole_seat-seat-requires-clause-new
whole_seat-seat-requires-clause-new g c =
    let accounts = c.args.opened.accounts.items in
    let shared = c.args.opened.shared.id in
    let opening = c.args.opening.now in
    let locks : c.part_accounts.new.locks.items ≡ map (λ a. a.lock) accounts =
    c.part_accounts.ensures.locks ∙ ap (λ xs. xs ++ map (λ a. a.lock) accounts) c.requires.locks.empty in
    let seats : c.part_accounts.new.seats.items ≡ map (λ a. a.seat) accounts =
    c.part_accounts.ensures.seats ∙ ap (λ xs. xs ++ map (λ a. a.seat) accounts) c.requires.seats.empty in
    let joined = c.join_accounts.new.accounts.items in
    let again : map (λ a. a.lock) joined ≡ map (λ a. a.lock) accounts =
    c.join_accounts.ensures.locks
    ∙ ap (λ xs. map (λ a. a.lock) xs ++ c.part_accounts.new.locks.items) c.part_accounts.ensures.none ∙ locks in
    let seats_again : map (λ a. a.seat) joined ≡ map (λ a. a.seat) accounts =
    c.join_accounts.ensures.seats
    ∙ ap (λ xs. map (λ a. a.seat) xs ++ c.in-Err.seats.items) c.part_accounts.ensures.none
    ∙ c.in-Err.ensures.err ∙ seats in (
      opening.era,
      opening.clients,
      subst (AreNewLocks shared opening.era opening.clients)
          (sym (same_accounts (λ a. a.lock) (λ a. a.seat) seen_of seen_same joined accounts again seats_again))
          c.requires.new,
    )

pub returns-in-Ok-clause-opened : goal.returns-in-Ok-clause-opened
returns-in-Ok-clause-opened g c =
    let accounts = c.args.opened.accounts.items in
    let device = seen_by g.B.Board.faults c.args.opened.shared.first.device in
    let shared = c.args.opened.shared.id in
    let opening = c.args.opening.now in
    let locks : c.part_accounts.new.locks.items ≡ map (λ a. a.lock) accounts =
    c.part_accounts.ensures.locks ∙ ap (λ xs. xs ++ map (λ a. a.lock) accounts) c.requires.locks.empty in
    subst (AreOpenedFrom device shared opening 0 c.args.names.items)
    (sym (ap (map (λ lock. lock_seen lock.id lock.first.seat lock.first.state lock.first.era)) locks
    ∙ same_images (λ lock. lock_seen lock.id lock.first.seat lock.first.state lock.first.era)
    (λ a. a.lock) (λ (a : AccountSeen). a.at) seen_of accounts (λ a. refl)))
    c.requires.opened

pub returns-in-Ok-clause-idle : goal.returns-in-Ok-clause-idle
returns-in-Ok-clause-idle g c =
    let accounts = c.args.opened.accounts.items in
    let device = seen_by g.B.Board.faults c.args.opened.shared.first.device in
    let shared = c.args.opened.shared.id in
    let opening = c.args.opening.now in
    let many : length accounts ≡ length c.args.names.items =
    accounts_many device shared opening seen_of c.args.names.items accounts c.requires.opened in
    let locks : c.part_accounts.new.locks.items ≡ map (λ a. a.lock) accounts =
    c.part_accounts.ensures.locks ∙ ap (λ xs. xs ++ map (λ a. a.lock) accounts) c.requires.locks.empty in
    let long : length c.part_accounts.new.locks.items ≡ length c.args.names.items =
    ap length locks ∙ length-map accounts (λ a. a.lock) ∙ many in
    subst (λ (n : ℕ). IsIdle shared n c.args.opened.idle) (sym long) c.requires.idle

pub returns-in-Ok-clause-wholes : goal.returns-in-Ok-clause-wholes
returns-in-Ok-clause-wholes g c =
    let accounts = c.args.opened.accounts.items in
    let device = seen_by g.B.Board.faults c.args.opened.shared.first.device in
    let shared = c.args.opened.shared.id in
    let opening = c.args.opening.now in
    let many : length accounts ≡ length c.args.names.items =
    accounts_many device shared opening seen_of c.args.names.items accounts c.requires.opened in
    let locks : c.part_accounts.new.locks.items ≡ map (λ a. a.lock) accounts =
    c.part_accounts.ensures.locks ∙ ap (λ xs. xs ++ map (λ a. a.lock) accounts) c.requires.locks.empty in
    let long : length c.part_accounts.new.locks.items ≡ length c.args.names.items =
    ap length locks ∙ length-map accounts (λ a. a.lock) ∙ many in
    subst (λ (n : ℕ). IsRoomFor n c.args.rooms.wholes.items (vec_capacity c.args.rooms.wholes)) (sym long)
    c.requires.wholes

pub returns-in-Ok-clause-parts : goal.returns-in-Ok-clause-parts
returns-in-Ok-clause-parts g c =
    let accounts = c.args.opened.accounts.items in
    let device = seen_by g.B.Board.faults c.args.opened.shared.first.device in
    let shared = c.args.opened.shared.id in
    let opening = c.args.opening.now in
    let many : length accounts ≡ length c.args.names.items =
    accounts_many device shared opening seen_of c.args.names.items accounts c.requires.opened in
    let locks : c.part_accounts.new.locks.items ≡ map (λ a. a.lock) accounts =
    c.part_accounts.ensures.locks ∙ ap (λ xs. xs ++ map (λ a. a.lock) accounts) c.requires.locks.empty in
    let long : length c.part_accounts.new.locks.items ≡ length c.args.names.items =
    ap length locks ∙ length-map accounts (λ a. a.lock) ∙ many in
    subst (λ (n : ℕ). IsRoomFor n c.args.rooms.parts.items (vec_capacity c.args.rooms.parts)) (sym long)
    c.requires.parts

pub returns-in-Ok-clause-books : goal.returns-in-Ok-clause-books
returns-in-Ok-clause-books g c =
    let accounts = c.args.opened.accounts.items in
    let device = seen_by g.B.Board.faults c.args.opened.shared.first.device in
    let shared = c.args.opened.shared.id in
    let opening = c.args.opening.now in
    let many : length accounts ≡ length c.args.names.items =
    accounts_many device shared opening seen_of c.args.names.items accounts c.requires.opened in
    let locks : c.part_accounts.new.locks.items ≡ map (λ a. a.lock) accounts =
    c.part_accounts.ensures.locks ∙ ap (λ xs. xs ++ map (λ a. a.lock) accounts) c.requires.locks.empty in
    let long : length c.part_accounts.new.locks.items ≡ length c.args.names.items =
    ap length locks ∙ length-map accounts (λ a. a.lock) ∙ many in
    subst (λ (n : ℕ). IsRoomFor n c.args.rooms.books.items (vec_capacity c.args.rooms.books)) (sym long)
    c.requires.books

pub returns-in-Err-clause-stops : goal.returns-in-Err-clause-stops
returns-in-Err-clause-stops g c =
    let accounts = c.args.opened.accounts.items in
    let device = seen_by g.B.Board.faults c.args.opened.shared.first.device in
    let shared = c.args.opened.shared.id in
    let opening = c.args.opening.now in
    let locks : c.part_accounts.new.locks.items ≡ map (λ a. a.lock) accounts =
    c.part_accounts.ensures.locks ∙ ap (λ xs. xs ++ map (λ a. a.lock) accounts) c.requires.locks.empty in
    let seats : c.part_accounts.new.seats.items ≡ map (λ a. a.seat) accounts =
    c.part_accounts.ensures.seats ∙ ap (λ xs. xs ++ map (λ a. a.seat) accounts) c.requires.seats.empty in
    let joined = c.join_accounts.new.accounts.items in
    let again : map (λ a. a.lock) joined ≡ map (λ a. a.lock) accounts =
    c.join_accounts.ensures.locks
    ∙ ap (λ xs. map (λ a. a.lock) xs ++ c.part_accounts.new.locks.items) c.part_accounts.ensures.none ∙ locks in
    let seats_again : map (λ a. a.seat) joined ≡ map (λ a. a.seat) accounts =
    c.join_accounts.ensures.seats
    ∙ ap (λ xs. map (λ a. a.seat) xs ++ c.in-Err.seats.items) c.part_accounts.ensures.none
    ∙ c.in-Err.ensures.err ∙ seats in
    let same = same_accounts (λ a. a.lock) (λ a. a.seat) seen_of seen_same joined accounts again seats_again in
    let opened = each_opened device shared opening 0 c.args.names.items (map seen_of accounts) c.requires.opened in
    let whole = c.whole_seat-seat.ensures in
    stops_for_memory g.B.Board.disk g.B.Board.faults c.args.opened.shared.first.device shared opening
    c.whole_seat-seat.result c.close_platform.result c.close_platform.ensures
    (whole_knows device shared opening c.args.opened.idle c.whole_seat-seat.result (map seen_of joined) c.requires.first
    whole.idle whole.known (subst (AreOpenedLocks device shared opening) (sym same) opened))
    whole.numbers
