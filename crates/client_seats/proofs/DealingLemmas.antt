-- Clients get their seats.
use Rattle.std.proofs.Common.{◌≡◌, ℕ, ◌+◌, List, [], ◌∷◌, ◌++◌, map, length, Option, Some, refl, sym, ap, ◌∙◌, subst, arith, All, ◌<◌, append_assoc, append-nil, length-append}
use Rattle.std.specs.List.{AllByRecursion, range_with_len}
use Rattle.std.proofs.lemmas.List.{map-append, length-map, nil_from_length}
use Rattle.std.proofs.lemmas.List.FromFn.{map-range_with_len_more, length-map-range_with_len}
use Rattle.std.proofs.lemmas.List.Elements.{All-from_recursion}
use Rattle.turn_lock.specs.Seats.{LockId, SeatView, new_seat}
use Rattle.turn_lock.specs.Lists.{count_of}
use Rattle.turn_lock.proofs.Counts.{count_of-range_with_len}
use Rattle.client_seats.specs.Clients.{ClientView, client_view, new_slots, new_client, bare_of, HasItsSeats}
use Rattle.client_seats.specs.Dealing.{ClientRoom, room_view, without_seats, HasRoom, with_seat, with_seats}
use Rattle.client_seats.specs.Gathering.{HaveEachNumber}
use Rattle.client_seats.specs.declared.seats.ClientSeats.{ClientSeats}

module _ {E : Type 0} where
  -- seats of some locks and of one more
  seats_more : (locks : List LockId) (lock : LockId) (client : ClientRoom E)
      → with_seat lock (with_seats locks client) ≡ with_seats (locks ++ lock ∷ []) client
  seats_more locks lock client =
      ap (λ (slots : List (Option (SeatView E))). record client { slots = slots })
      (append_assoc client.slots (new_slots locks client.number) (Some (new_seat lock client.number []) ∷ [])
      ∙ ap (λ (slots : List (Option (SeatView E))). client.slots ++ slots)
      (sym (map-append (λ (id : LockId). Some (new_seat id client.number [])) locks (lock ∷ []))))

  -- each client has a seat of one lock more
  pub all_seats_more : (locks : List LockId) (lock : LockId) (clients : List (ClientRoom E))
      → map (with_seat lock) (map (with_seats locks) clients) ≡ map (with_seats (locks ++ lock ∷ [])) clients
  all_seats_more locks lock [] = refl
  all_seats_more locks lock (client ∷ clients) =
      λ i. seats_more locks lock client i ∷ all_seats_more locks lock clients i

  -- of no locks each client gets no seat
  pub no_seats_more : (clients : List (ClientRoom E)) → clients ≡ map (with_seats []) clients
  no_seats_more [] = refl
  no_seats_more (client ∷ clients) =
      λ i. record client { slots = sym (append-nil client.slots) i } ∷ no_seats_more clients i

  -- the clients' numbers stay
  pub numbers_stay : (locks : List LockId) (clients : List (ClientRoom E))
      → map (λ client. client.number) (map (with_seats locks) clients) ≡ map (λ client. client.number) clients
  numbers_stay locks [] = refl
  numbers_stay locks (client ∷ clients) = ap (λ (cs : List ℕ). client.number ∷ cs) (numbers_stay locks clients)

  -- room for one seat less
  pub room_less : (n : ℕ) (clients : List (ClientRoom E))
      → AllByRecursion (HasRoom (n + 1)) clients → AllByRecursion (HasRoom n) clients
  room_less n [] room = tt
  room_less n (client ∷ clients) room =
      let has = room.0 in (omega arith, room_less n clients room.1)

  -- once the seats of these locks are there, there is room for one more
  pub room_for_last : (locks : List LockId) (n : ℕ) (clients : List (ClientRoom E))
      → length locks ≡ n
      → AllByRecursion (HasRoom (n + 1)) clients → AllByRecursion (HasRoom 1) (map (with_seats locks) clients)
  room_for_last locks n [] many room = tt
  room_for_last locks n (client ∷ clients) many room =
      let has = room.0 in
      let slots : List (Option (SeatView E)) = new_slots locks client.number in
      let both = length-append client.slots slots in
      let size : length slots ≡ length locks = length-map locks _ in
      (omega (arith, both, size, has, many), room_for_last locks n clients many room.1)

  -- a client as it is seen without its room
  abbrev view_in : ClientRoom E → ClientView E
  view_in client = record { number = client.number; slots = client.slots }

  -- with their seats they are new clients
  seats_of_new : (locks : List LockId) (accounts : ℕ) (numbers : List ℕ)
      → map view_in (map (with_seats locks) (map (without_seats accounts) numbers)) ≡ map (new_client locks) numbers
  seats_of_new locks accounts [] = refl
  seats_of_new locks accounts (number ∷ numbers) =
      ap (λ (clients : List (ClientView E)). new_client locks number ∷ clients) (seats_of_new locks accounts numbers)

-- the seat without spare numbers is the same where it has none
pub none_to_spare : {E : Type 0} (seat : SeatView E) → seat.spare ≡ [] → seat ≡ record seat { spare = [] }
none_to_spare seat none = λ i. record seat { spare = none i }

-- clients without seats
module _ (E : Type 0) (accounts : ℕ) where
  -- their numbers
  numbers_of_new : (numbers : List ℕ)
      → map (λ client. client.number) (map (without_seats {E = E} accounts) numbers) ≡ numbers
  numbers_of_new [] = refl
  numbers_of_new (number ∷ numbers) = ap (λ (ns : List ℕ). number ∷ ns) (numbers_of_new numbers)

  -- their room
  rooms_of_new : (numbers : List ℕ)
      → AllByRecursion (HasRoom accounts) (map (without_seats {E = E} accounts) numbers)
  rooms_of_new [] = tt
  rooms_of_new (number ∷ numbers) = (omega arith, rooms_of_new numbers)

module _ {T E : Type 0} where
  -- one client more, without seats
  pub one_client_more : (made more : List (ClientSeats T E)) (client : ClientSeats T E) (accounts number : ℕ)
      → map room_view made ≡ map (without_seats accounts) (range_with_len 0 number)
      → more ≡ made ++ client ∷ []
      → room_view client ≡ without_seats accounts number
      → map room_view more ≡ map (without_seats accounts) (range_with_len 0 (number + 1))
  one_client_more made more client accounts number so pushed is =
      ap (map room_view) pushed ∙ map-append room_view made (client ∷ []) ∙ (λ i. so i ++ is i ∷ [])
      ∙ sym (map-range_with_len_more (without_seats accounts) 0 number number (omega arith))

  -- the clients' numbers, as they are seen with their room
  pub numbers_seen : (clients : List (ClientSeats T E))
      → map (λ client. client.number) (map room_view clients) ≡ map (λ client. client.number) clients
  numbers_seen [] = refl
  numbers_seen (client ∷ clients) = ap (λ (ns : List ℕ). client.number ∷ ns) (numbers_seen clients)

  -- seats of some locks leave the clients' numbers as they were
  pub same_numbers : (locks : List LockId) (old new : List (ClientSeats T E))
      → map room_view new ≡ map (with_seats locks) (map room_view old)
      → map (λ client. client.number) new ≡ map (λ client. client.number) old
  same_numbers locks old new dealt =
      sym (numbers_seen new) ∙ ap (map (λ (client : ClientRoom E). client.number)) dealt
      ∙ numbers_stay locks (map room_view old) ∙ numbers_seen old

  -- a client is seen without its room in two ways that agree
  views_in : (clients : List (ClientSeats T E)) → map client_view clients ≡ map view_in (map room_view clients)
  views_in [] = refl
  views_in (client ∷ clients) =
      ap (λ (views : List (ClientView E)). client_view client ∷ views) (views_in clients)

  -- clients that have no seats yet
  module _ (made : List (ClientSeats T E)) (accounts count : ℕ)
      (is : map room_view made ≡ map (without_seats accounts) (range_with_len 0 count)) where
    -- they are as many as are made
    pub clients_made : length made ≡ count
    clients_made = sym (length-map made room_view) ∙ ap length is
        ∙ length-map-range_with_len (without_seats accounts) 0 count

    -- they have the numbers from 0
    pub numbers_made : map (λ client. client.number) made ≡ range_with_len 0 count
    numbers_made = sym (numbers_seen made) ∙ ap (map (λ (client : ClientRoom E). client.number)) is
        ∙ numbers_of_new E accounts (range_with_len 0 count)

    -- they have room for a seat of each lock
    pub rooms_made : AllByRecursion (HasRoom accounts) (map room_view made)
    rooms_made = subst (AllByRecursion (HasRoom accounts)) (sym is) (rooms_of_new E accounts (range_with_len 0 count))

    -- they are new clients once they have their seats
    pub clients_dealt : (locks : List LockId) (dealt : List (ClientSeats T E))
        → map room_view dealt ≡ map (with_seats locks) (map room_view made)
        → map client_view dealt ≡ map (new_client locks) (range_with_len 0 count)
    clients_dealt locks dealt seats =
        views_in dealt ∙ ap (map view_in) (seats ∙ ap (map (with_seats locks)) is)
        ∙ seats_of_new locks accounts (range_with_len 0 count)

  -- seats don't make clients more or fewer
  pub as_many_dealt : (locks : List LockId) (old new : List (ClientSeats T E))
      → map room_view new ≡ map (with_seats locks) (map room_view old)
      → length new ≡ length old
  as_many_dealt locks old new dealt =
      sym (length-map new room_view) ∙ ap length dealt ∙ length-map (map room_view old) (with_seats locks)
      ∙ length-map old room_view

-- locks, of which the last is dealt behind the others
module _ {L E : Type 0} (id_of : L → LockId) where
  -- of no locks there are no seats
  pub no_locks : (locks : List L) (clients : List (ClientRoom E))
      → length locks ≡ 0 → clients ≡ map (with_seats (map id_of locks)) clients
  no_locks locks clients none =
      subst (λ (locks : List L). clients ≡ map (with_seats (map id_of locks)) clients)
      (sym (nil_from_length locks none)) (no_seats_more clients)

  -- the last lock's seats stand behind those of the others
  pub last_dealt : (all others : List L) (lock : L) (old mid new : List (ClientRoom E))
      → all ≡ others ++ lock ∷ []
      → mid ≡ map (with_seats (map id_of others)) old
      → new ≡ map (with_seat (id_of lock)) mid
      → new ≡ map (with_seats (map id_of all)) old
  last_dealt all others lock old mid new is before last =
      last ∙ ap (map (with_seat (id_of lock))) before ∙ all_seats_more (map id_of others) (id_of lock) old
      ∙ ap (λ (ids : List LockId). map (with_seats ids) old)
      (sym (ap (map id_of) is ∙ map-append id_of others (lock ∷ [])))

-- the clients' numbers, as they are seen
pub numbers_viewed : {T E : Type 0} (clients : List (ClientSeats T E))
    → map (λ client. client.number) (map client_view clients) ≡ map (λ client. client.number) clients
numbers_viewed [] = refl
numbers_viewed (client ∷ clients) = ap (λ (ns : List ℕ). client.number ∷ ns) (numbers_viewed clients)

-- clients with their seats as they were dealt
module _ (E : Type 0) (locks : List LockId) where
  -- slots that know nothing are as they were dealt
  slots_stay : (ids : List LockId) (number : ℕ)
      → map bare_of (new_slots {E = E} ids number) ≡ new_slots ids number
  slots_stay [] number = refl
  slots_stay (id ∷ ids) number =
      ap (λ (slots : List (Option (SeatView E))). Some (new_seat id number []) ∷ slots) (slots_stay ids number)

  -- new clients have their seats
  have_seats : (numbers : List ℕ) → AllByRecursion (HasItsSeats {E = E} locks) (map (new_client locks) numbers)
  have_seats [] = tt
  have_seats (number ∷ numbers) = (slots_stay locks number, have_seats numbers)

  -- new clients have the numbers given
  numbers_of_dealt : (numbers : List ℕ)
      → map (λ client. client.number) (map (new_client {E = E} locks) numbers) ≡ numbers
  numbers_of_dealt [] = refl
  numbers_of_dealt (number ∷ numbers) = ap (λ (ns : List ℕ). number ∷ ns) (numbers_of_dealt numbers)

module _ {E : Type 0} (locks : List LockId) where
  -- each client has its seats
  pub dealt_have_seats : (clients : List (ClientView E)) (numbers : List ℕ)
      → clients ≡ map (new_client locks) numbers → All (HasItsSeats locks) clients
  dealt_have_seats clients numbers is =
      subst (All (HasItsSeats locks)) (sym is) (All-from_recursion _ _ (have_seats E locks numbers))

  -- each number is one of theirs
  pub dealt_have_numbers : {T : Type 0} (clients : List (ClientSeats T E)) (count bound : ℕ)
      → map client_view clients ≡ map (new_client locks) (range_with_len 0 count)
      → bound ≡ count
      → HaveEachNumber (map (λ client. client.number) clients) bound
  dealt_have_numbers clients count bound is same number below =
      let numbers : map (λ client. client.number) clients ≡ range_with_len 0 count =
      sym (numbers_viewed clients) ∙ ap (map (λ (client : ClientView E). client.number)) is
      ∙ numbers_of_dealt E locks (range_with_len 0 count) in
      let once = (count_of-range_with_len 0 count number).inside (omega arith) (omega (arith, same, below)) in
      subst (λ (ns : List ℕ). 0 < count_of number ns) (sym numbers) (omega (arith, once))
