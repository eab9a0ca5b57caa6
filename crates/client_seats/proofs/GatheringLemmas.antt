-- What the joined seats know.
use Rattle.std.proofs.Common.{◌≡◌, true≢false, is_none, ℕ, ◌<◌, List, [], ◌∷◌, ◌++◌, map, length, Option, Some, None, refl, sym, ap, ◌∙◌, subst, arith, append_assoc, append-nil, All}
use Rattle.std.specs.Prelude.{slice_index_or}
use Rattle.std.specs.List.{AllByRecursion}
use Rattle.std.proofs.Math.ListN.{get_or-append}
use Rattle.std.proofs.Math.Seq.{get_or-append_seam}
use Rattle.std.proofs.lemmas.List.{map-append, length-map}
use Rattle.std.proofs.lemmas.List.Elements.{recursion_from_All, All-from_recursion}
use Rattle.turn_lock.specs.Lists.{count_of, entries_of}
use Rattle.turn_lock.specs.Seats.{Lock, LockId, SeatView, Recalls, joined_seat, new_seat, numbers_of}
use Rattle.client_seats.specs.Clients.{ClientView, bare_of, HasItsSeats, own_in, known_at}
use Rattle.client_seats.specs.Gathering.{HaveEachNumber, EachAt, LastSeat, IsWholeSeat, Knows, IsSeatOfClient, HasLast, with_last, without_last, known_of_last, JoinsLast, Gathers}
use Rattle.client_seats.specs.declared.seats.WholeLock.{WholeLock}
use Rattle.client_seats.proofs.ListLemmas.{same_front, same_last, each_at_push, map_last, all_push}

module _ {E : Type 0} where
  -- the seat in a slot, where there is one
  abbrev seat_or : SeatView E → Option (SeatView E) → SeatView E
  seat_or other None = other
  seat_or other (Some seat) = seat

  -- a slot that without its entries has a seat has one
  seat_there : (slot : Option (SeatView E)) (bare : SeatView E) → bare_of slot ≡ Some bare
      → (seat : SeatView E) × (slot ≡ Some seat) × (record seat { own = [] } ≡ bare)
  seat_there None bare same = absurd (true≢false (ap is_none same))
  seat_there (Some seat) bare same = (seat, refl, ap (seat_or bare) same)

  -- the client's last seat is of the last lock
  has_last : (locks : List LockId) (lock : LockId) (client : ClientView E)
      → HasItsSeats (locks ++ lock ∷ []) client → HasLast lock client
  has_last locks lock client has =
      let new : LockId → Option (SeatView E) = λ id. Some (new_seat id client.number []) in
      let last = map_last bare_of client.slots (map new locks) (new lock)
      (has ∙ map-append new locks (lock ∷ [])) in
      let there = seat_there last.1 (new_seat lock client.number []) last.3 in
      record {
        front = last.0;
        seat = there.0;
        slots_are = last.2 ∙ ap (λ (slot : Option (SeatView E)). last.0 ++ slot ∷ []) there.1;
        is_of = there.2;
      }

  -- so is each client's
  pub have_last : (ids locks : List LockId) (lock : LockId) (clients : List (ClientView E))
      → ids ≡ locks ++ lock ∷ []
      → AllByRecursion (HasItsSeats ids) clients → AllByRecursion (HasLast lock) clients
  have_last ids locks lock [] is has = tt
  have_last ids locks lock (client ∷ clients) is has = (
    has_last locks lock client (subst (λ (ids : List LockId). HasItsSeats ids client) is has.0),
    have_last ids locks lock clients is has.1,
  )

  -- without it the client has the seats of the other locks
  has_others : (locks : List LockId) (lock : LockId) (last : LastSeat E)
      → HasItsSeats (locks ++ lock ∷ []) (with_last last) → HasItsSeats locks (without_last last)
  has_others locks lock last has =
      let new : LockId → Option (SeatView E) = λ id. Some (new_seat id last.number []) in
      same_front (map bare_of last.front) (map new locks) (bare_of (Some last.seat)) (new lock)
      (sym (map-append bare_of last.front (Some last.seat ∷ [])) ∙ has ∙ map-append new locks (lock ∷ []))

  -- each client has the seats of the other locks
  have_others : (locks : List LockId) (lock : LockId) (taken : List (LastSeat E))
      → AllByRecursion (HasItsSeats (locks ++ lock ∷ [])) (map with_last taken)
      → AllByRecursion (HasItsSeats locks) (map without_last taken)
  have_others locks lock [] has = tt
  have_others locks lock (last ∷ taken) has =
      (has_others locks lock last has.0, have_others locks lock taken has.1)

  -- the clients that are left have the seats of the other locks
  pub others_stay : (ids locks : List LockId) (lock : LockId) (old new : List (ClientView E)) (whole : SeatView E)
      → ids ≡ locks ++ lock ∷ []
      → JoinsLast lock old new whole
      → AllByRecursion (HasItsSeats ids) old → AllByRecursion (HasItsSeats locks) new
  others_stay ids locks lock old new whole is joins has =
      subst (AllByRecursion (HasItsSeats locks)) (sym joins.new_is)
      (have_others locks lock joins.taken
      (subst (λ (ids : List LockId). AllByRecursion (HasItsSeats ids) (map with_last joins.taken)) is
      (subst (AllByRecursion (HasItsSeats ids)) joins.old_is has)))

  -- a client has one number, with its last seat and without it
  same_numbers : (taken : List (LastSeat E))
      → map (λ client. client.number) (map without_last taken) ≡ map (λ client. client.number) (map with_last taken)
  same_numbers [] = refl
  same_numbers (last ∷ taken) = ap (λ (cs : List ℕ). last.number ∷ cs) (same_numbers taken)

  -- the clients keep their numbers
  pub numbers_stay : (lock : LockId) (old new : List (ClientView E)) (whole : SeatView E)
      → JoinsLast lock old new whole
      → map (λ client. client.number) new ≡ map (λ client. client.number) old
  numbers_stay lock old new whole joins =
      ap (map (λ (client : ClientView E). client.number)) joins.new_is ∙ same_numbers joins.taken
      ∙ ap (map (λ (client : ClientView E). client.number)) (sym joins.old_is)

  -- the numbers of what is known are the clients'
  known_numbers : (taken : List (LastSeat E))
      → map (λ known. known.0) (map known_of_last taken) ≡ map (λ client. client.number) (map with_last taken)
  known_numbers [] = refl
  known_numbers (last ∷ taken) = ap (λ (cs : List ℕ). last.number ∷ cs) (known_numbers taken)

  -- the joined seat has all numbers, where the clients have them
  pub whole_seat : (lock : LockId) (old new : List (ClientView E)) (whole : SeatView E)
      → JoinsLast lock old new whole
      → HaveEachNumber (map (λ client. client.number) old) lock.callers
      → IsWholeSeat lock whole
  whole_seat lock old new whole joins each = record {
    of = joins.of;
    numbers = λ number below.
        let numbers : numbers_of whole ≡ map (λ (client : ClientView E). client.number) old =
        (λ i. whole.caller ∷ (map (λ known. known.0) whole.joined ++ joins.knows.spare i))
        ∙ append-nil (map (λ known. known.0) ((whole.caller, whole.own) ∷ whole.joined))
        ∙ ap (map (λ known. known.0)) joins.knows.known_is ∙ known_numbers joins.taken
        ∙ ap (map (λ (client : ClientView E). client.number)) (sym joins.old_is) in
        subst (λ (ns : List ℕ). 0 < count_of number ns) (sym numbers)
        (each number (subst (λ (id : LockId). number < id.callers) joins.of below));
  }

  -- what was taken from a client that has its last seat of this lock is that seat
  last_is_of : (lock : LockId) (client : ClientView E) (front : List (Option (SeatView E))) (own : SeatView E)
      → client.slots ≡ front ++ Some own ∷ [] → HasLast lock client → IsSeatOfClient lock client.number own
  last_is_of lock client front own popped last =
      let same : Some last.seat ≡ Some own =
      same_last last.front front (Some last.seat) (Some own) (sym last.slots_are ∙ popped) in
      subst (IsSeatOfClient lock client.number) (ap (seat_or own) same) last.is_of

  -- the last seat of one client
  pub joins_one : (lock : LockId) (old rest : List (ClientView E)) (client : ClientView E)
      (front : List (Option (SeatView E))) (own : SeatView E)
      → old ≡ client ∷ rest
      → rest ≡ []
      → client.slots ≡ front ++ Some own ∷ []
      → AllByRecursion (HasLast lock) old
      → JoinsLast lock old (record client { slots = front } ∷ rest) own
  joins_one lock old rest client front own is none popped last =
      let is_of = last_is_of lock client front own popped (subst (AllByRecursion (HasLast lock)) is last).0 in
      let one : LastSeat E = record { number = client.number; front = front; seat = own } in
      record {
        taken = one ∷ [];
        old_is = is ∙ (λ i. record client { slots = popped i } ∷ none i);
        new_is = λ i. without_last one ∷ none i;
        are_of = (is_of, tt);
        of = ap (λ (s : SeatView E). s.lock) is_of;
        knows = record {
          known_is = λ i. ((is_of i).caller, own.own) ∷ (is_of i).joined;
          spare = ap (λ (s : SeatView E). s.spare) is_of;
        };
      }

  -- the last seat of one client more
  pub joins_more : (lock : LockId) (old rest left : List (ClientView E)) (client : ClientView E)
      (front : List (Option (SeatView E))) (own joined whole : SeatView E)
      → old ≡ client ∷ rest
      → client.slots ≡ front ++ Some own ∷ []
      → AllByRecursion (HasLast lock) old
      → JoinsLast lock rest left joined
      → whole ≡ joined_seat own joined
      → JoinsLast lock old (record client { slots = front } ∷ left) whole
  joins_more lock old rest left client front own joined whole is popped last joins same =
      let is_of = last_is_of lock client front own popped (subst (AllByRecursion (HasLast lock)) is last).0 in
      let one : LastSeat E = record { number = client.number; front = front; seat = own } in
      record {
        taken = one ∷ joins.taken;
        old_is = is ∙ (λ i. record client { slots = popped i } ∷ joins.old_is i);
        new_is = λ i. without_last one ∷ joins.new_is i;
        are_of = (is_of, joins.are_of);
        of = ap (λ (s : SeatView E). s.lock) same ∙ ap (λ (s : SeatView E). s.lock) is_of;
        knows = record {
          known_is = ap (λ (s : SeatView E). (s.caller, s.own) ∷ s.joined) same
              ∙ (λ i. ((is_of i).caller, own.own) ∷ ((is_of i).joined ++ joins.knows.known_is i));
          spare = ap (λ (s : SeatView E). s.spare) same
              ∙ (λ i. (is_of i).spare ++ joins.knows.spare i);
        };
      }

  -- the number of seats that a client has besides the last
  fronts_long : (locks : List LockId) (taken : List (LastSeat E))
      → AllByRecursion (HasItsSeats locks) (map without_last taken)
      → AllByRecursion (λ last. length last.front ≡ length locks) taken
  fronts_long locks [] has = tt
  fronts_long locks (last ∷ taken) has = (
    sym (length-map last.front bare_of) ∙ ap length has.0 ∙ length-map locks _,
    fronts_long locks taken has.1,
  )

  -- of the accounts before the last, the clients know what they know without the last seat
  known_before : (account n : ℕ) (taken : List (LastSeat E))
      → account < n
      → AllByRecursion (λ last. length last.front ≡ n) taken
      → known_at account (map without_last taken) ≡ known_at account (map with_last taken)
  known_before account n [] below long = refl
  known_before account n (last ∷ taken) below long =
      let size = long.0 in
      let slot = get_or-append last.front (Some last.seat ∷ []) None account (omega (arith, size, below)) in
      λ i. (last.number, own_in (sym slot i)) ∷ known_before account n taken below long.1 i

  -- of the last account they know what the last seats know
  known_last : (n : ℕ) (taken : List (LastSeat E))
      → AllByRecursion (λ last. length last.front ≡ n) taken
      → map known_of_last taken ≡ known_at n (map with_last taken)
  known_last n [] long = refl
  known_last n (last ∷ taken) long =
      let slot : slice_index_or (last.front ++ Some last.seat ∷ []) n None ≡ Some last.seat =
      subst (λ (k : ℕ). slice_index_or (last.front ++ Some last.seat ∷ []) k None ≡ Some last.seat) long.0
      (get_or-append_seam last.front (Some last.seat) [] None) in
      λ i. (last.number, own_in (sym slot i)) ∷ known_last n taken long.1 i

  -- the last lock's seats are joined behind the others
  pub gathers_more : {T : Type 0} (all locks : List (Lock T)) (lock : Lock T) (clients left : List (ClientView E))
      (seat : SeatView E) (before between after : List (WholeLock T E))
      → all ≡ locks ++ lock ∷ []
      → AllByRecursion (HasItsSeats (map (λ lock. lock.id) all)) clients
      → HaveEachNumber (map (λ client. client.number) clients) lock.id.callers
      → JoinsLast lock.id clients left seat
      → Gathers left locks before between
      → after ≡ between ++ record { lock = lock; seat = seat } ∷ []
      → Gathers clients all before after
  gathers_more {T} all locks lock clients left seat before between after is has each joins gathers pushed =
      let ids : map (λ (l : Lock T). l.id) all ≡ map (λ (l : Lock T). l.id) locks ++ lock.id ∷ [] =
      ap (map (λ (l : Lock T). l.id)) is ∙ map-append (λ (l : Lock T). l.id) locks (lock ∷ []) in
      let last : WholeLock T E = record { lock = lock; seat = seat } in
      let front = map (λ (l : Lock T). l.id) locks in
      let long = fronts_long front joins.taken
      (subst (AllByRecursion (HasItsSeats front)) joins.new_is
      (others_stay _ front lock.id clients left seat ids joins has)) in
      let many : length front ≡ length gathers.more =
      length-map locks _ ∙ sym (ap length gathers.locks_are) ∙ length-map gathers.more _ in
      record {
        more = gathers.more ++ last ∷ [];
        new_is = pushed ∙ ap (λ (ws : List (WholeLock T E)). ws ++ last ∷ []) gathers.new_is
            ∙ append_assoc before gathers.more (last ∷ []);
        locks_are = map-append (λ (w : WholeLock T E). w.lock) gathers.more (last ∷ [])
            ∙ ap (λ (ls : List (Lock T)). ls ++ lock ∷ []) gathers.locks_are ∙ sym is;
        whole = all_push (λ (w : WholeLock T E). IsWholeSeat w.lock.id w.seat) gathers.more last gathers.whole
            (whole_seat lock.id clients left seat joins each);
        knows = each_at_push (λ account (w : WholeLock T E). Knows (known_at account clients) w.seat) gathers.more last
            (λ place d below.
            subst (λ (known : List (ℕ × List (ℕ × E))). Knows known (slice_index_or gathers.more place d).seat)
            (ap (known_at place) joins.new_is
            ∙ known_before place (length front) joins.taken (omega (arith, many, below)) long
            ∙ ap (known_at place) (sym joins.old_is))
            (gathers.knows place d below))
            (subst (λ (known : List (ℕ × List (ℕ × E))). Knows known seat)
            (known_last (length front) joins.taken long
            ∙ ap (known_at (length front)) (sym joins.old_is)
            ∙ ap (λ (n : ℕ). known_at n clients) many)
            joins.knows);
      }

  -- each entry that the seat knows of its numbers is in the book that it recalls
  pub known_are_entries : (caller_of : E → ℕ) (book : List E) (known : List (ℕ × List (ℕ × E))) (seat : SeatView E)
      → Knows known seat
      → Recalls caller_of book seat
      → AllByRecursion (λ known. entries_of caller_of known.0 book ≡ known.1) known
  known_are_entries caller_of book known seat knows recalls =
      subst (AllByRecursion (λ (one : ℕ × List (ℕ × E)). entries_of caller_of one.0 book ≡ one.1)) knows.known_is
      (recalls.own, recursion_from_All _ seat.joined recalls.joined)

-- all locks, with no others before them
module _ {T E : Type 0} (clients : List (ClientView E)) (locks : List (Lock T)) (old new : List (WholeLock T E))
    (gathers : Gathers clients locks old new) (none : old ≡ []) where
  -- they are those put behind none
  all_is : gathers.more ≡ new
  all_is = ap (λ (ws : List (WholeLock T E)). ws ++ gathers.more) (sym none) ∙ sym gathers.new_is

  -- they stand in the order of the locks
  pub all_locks : map (λ whole. whole.lock) new ≡ locks
  all_locks = ap (map (λ (w : WholeLock T E). w.lock)) (sym all_is) ∙ gathers.locks_are

  -- each has all its numbers
  pub all_whole : All (λ whole. IsWholeSeat whole.lock.id whole.seat) new
  all_whole = subst (All (λ (w : WholeLock T E). IsWholeSeat w.lock.id w.seat)) all_is
      (All-from_recursion _ gathers.more gathers.whole)

  -- each knows what the clients know
  pub all_know : EachAt (λ account whole. Knows (known_at account clients) whole.seat) new
  all_know = subst (EachAt (λ account (w : WholeLock T E). Knows (known_at account clients) w.seat)) all_is
      gathers.knows
