-- What clients' seats knew at the end is the output of the books.
use Rattle.std.proofs.Common.{◌≡◌, ℕ, zero, suc, ◌+◌, ◌<◌, Bool, true, false, cond, List, [], ◌∷◌, ◌++◌, map, length, Option, Some, None, refl, sym, ap, ◌∙◌, subst, arith, true≢false, is_none}
use Rattle.std.proofs.lemmas.List.{length-map}
use Rattle.std.proofs.lemmas.List.Elements.{All-from_recursion}
use Rattle.std.proofs.lemmas.List.FromFn.{length-map-range_with_len}
use Rattle.std.specs.Prelude.{All, IfNone, IfSome, ◌==◌, if◌then◌else◌, slice_index_or}
use Rattle.std.specs.List.{AllByRecursion, range_with_len}
use Rattle.request_loop.specs.Exchange.{Exchange}
use Rattle.request_loop.specs.declared.serve.LoopEnd.{LoopEnd}
use Rattle.account_machine.specs.Legal.{own_entries}
use Rattle.account_machine.specs.declared.entry.Entry.{Entry as MachineEntry}
use Rattle.client_output.proofs.Growing.{output_of_books}
use Rattle.client_output.specs.Books.{BookSeen, own_in}
use Rattle.client_output.specs.Grown.{SeatSeen, Grew}
use Rattle.client_output.specs.Output.{IsOutput, Owned}
use Rattle.client_output.specs.Seats.{BareSeat}
use Rattle.client_lines.specs.Seats.{AreSeatsOf, place_of}
use Rattle.client_seats.specs.Clients.{ClientView, HasItsSeats, bare_of, known_at, new_client, new_slots, own_in as known_in}
use Rattle.client_seats.specs.Gathering.{EachAt}
use Rattle.client_threads.specs.Ends.{ends_from}
use Rattle.client_threads.specs.declared.ending.ClientsEnd.{ClientsEnd}
use Rattle.request_turns.specs.Named.{named, seats_seen}
use Rattle.run_desk.specs.declared.desk.Client.{Client}
use Rattle.turn_lock.specs.Lists.{entries_from, entries_of}
use Rattle.turn_lock.specs.Seats.{LockId, SeatView, new_seat}
use Rattle.home_locks.specs.Meanings.{client_of}
use Rattle.home_locks.specs.declared.account.Entry.{Entry}
use Rattle.turn_meaning.specs.declared.taken.TurnTaken.{TurnTaken}
use Rattle.home_seats.specs.Seats.{entry_at, own_at}
use Rattle.user_home.specs.Open.{bare_slot}
use Rattle.served_books.specs.Books.{AreClientsServed, AreServed, HaveNoTurns, Serving, books_seen}
use Rattle.home_service.specs.Seats.{SeatServing, ServesSeat, ServesSeats}

-- the list without its first element
abbrev rest_of : {A : Type 0} → List A → List A
rest_of [] = []
rest_of (x ∷ xs) = xs

-- a client's slot
abbrev Slot : Type 0
Slot = Option (SeatView (Entry TurnTaken))

-- ---- own entries by the seat, and by the book

-- the entry of a known turn
abbrev known_entry : ℕ × Entry TurnTaken → MachineEntry
known_entry known = entry_at known.1

without-place : (b : Bool) (place : ℕ) (entry : Entry TurnTaken) (known : List (ℕ × Entry TurnTaken))
    (rest : List MachineEntry)
    → map known_entry known ≡ rest
    → map known_entry ((if b then (place, entry) ∷ [] else []) ++ known) ≡ cond b (entry_at entry ∷ rest) rest
without-place true place entry known rest same = ap (λ (rest : List MachineEntry). entry_at entry ∷ rest) same
without-place false place entry known rest same = same

-- a client's entries, with their places, are its own entries in the book
own_turns : (client place : ℕ) (book : List (Entry TurnTaken))
    → map known_entry (entries_from client_of place client book) ≡ own_entries client (map entry_at book)
own_turns client place [] = refl
own_turns client place (entry ∷ book) =
    without-place (entry.client == client) place entry (entries_from client_of (place + 1) client book)
    (own_entries client (map entry_at book)) (own_turns client (place + 1) book)

slot_entries : (slot : Slot) → own_at slot ≡ map known_entry (known_in slot)
slot_entries None = refl
slot_entries (Some seat) = refl

-- what a client's slots know are its entries in the books
abbrev AreInBooks : ℕ → List Slot → List (List (Entry TurnTaken)) → Type 0
AreInBooks client slots books = (account : ℕ) (d : List (Entry TurnTaken)) → account < length books
    → entries_of client_of client (slice_index_or books account d) ≡ known_in (slice_index_or slots account None)

-- the accounts with what a client's slots know are those with its own entries in the books
owned_of_books : (client : ℕ) (names : List (List ℕ)) (slots : List Slot) (books : List (List (Entry TurnTaken)))
    → length slots ≡ length books
    → AreInBooks client slots books
    → named names (map own_at slots) ≡ map (own_in client) (books_seen names books)
owned_of_books client [] slots books many are = refl
owned_of_books client (name ∷ names) [] [] many are = refl
owned_of_books client (name ∷ names) [] (book ∷ books) many are = absurd (omega (arith, many))
owned_of_books client (name ∷ names) (slot ∷ slots) [] many are = absurd (omega (arith, many))
owned_of_books client (name ∷ names) (slot ∷ slots) (book ∷ books) many are =
    let here : own_at slot ≡ own_entries client (map entry_at book) =
    slot_entries slot ∙ ap (map known_entry) (sym (are 0 book (omega arith))) ∙ own_turns client 0 book in
    let rest = owned_of_books client names slots books (omega (arith, many))
    (λ account d below. are (suc account) d (omega (arith, below))) in
    λ i. record { account = name; entries = here i } ∷ rest i

-- ---- seats as they are dealt

-- they know nothing
fresh_owned : (names : List (List ℕ)) (locks : List LockId) (number : ℕ)
    → AllByRecursion (λ own. own.entries ≡ []) (named names (map own_at (new_slots locks number)))
fresh_owned [] locks number = tt
fresh_owned (name ∷ names) [] number = tt
fresh_owned (name ∷ names) (lock ∷ locks) number = (refl, fresh_owned names locks number)

-- they are the client's
new_seats_of : (locks : List LockId) (number : ℕ) → AreSeatsOf locks number (map bare_slot (new_slots locks number))
new_seats_of [] number = refl
new_seats_of (lock ∷ locks) number =
    ap (λ (places : List (Option (LockId × ℕ))). Some (lock, number) ∷ places) (new_seats_of locks number)

-- and have a seat of each lock
new_have : (locks : List LockId) (number : ℕ) → HasItsSeats {E = Entry TurnTaken} locks (new_client locks number)
new_have [] number = refl
new_have (lock ∷ locks) number =
    ap (λ (slots : List Slot). Some (new_seat lock number []) ∷ slots) (new_have locks number)

-- the seats of all clients are theirs
all_new_of : (locks : List LockId) (number count : ℕ)
    → AllByRecursion (λ client. AreSeatsOf locks client.number (map bare_slot client.slots))
    (map (new_client locks) (range_with_len number count))
all_new_of locks number zero = tt
all_new_of locks number (suc count) = (new_seats_of locks number, all_new_of locks (number + 1) count)

-- what holds of each view holds of what is viewed
viewed : {T E : Type 0} (P : E → Type 0) (view : T → E) (seats : List T)
    → AllByRecursion P (map view seats) → AllByRecursion (λ seat. P (view seat)) seats
viewed P view [] all = tt
viewed P view (seat ∷ seats) all = (all.0, viewed P view seats all.1)

pub dealt_seats_of : {T : Type 0} (view : T → ClientView (Entry TurnTaken)) (locks : List LockId) (count : ℕ)
    (seats : List T)
    → map view seats ≡ map (new_client locks) (range_with_len 0 count)
    → All (λ seat. AreSeatsOf locks (view seat).number (map bare_slot (view seat).slots)) seats
dealt_seats_of view locks count seats dealt =
    All-from_recursion _ seats
    (viewed (λ client. AreSeatsOf locks client.number (map bare_slot client.slots)) view seats
    (subst (AllByRecursion (λ client. AreSeatsOf locks client.number (map bare_slot client.slots))) (sym dealt)
    (all_new_of locks 0 count)))

-- as many seats were dealt
pub as_many_seats : {T : Type 0} (view : T → ClientView (Entry TurnTaken)) (locks : List LockId) (count : ℕ)
    (seats : List T)
    → map view seats ≡ map (new_client locks) (range_with_len 0 count)
    → length seats ≡ count
as_many_seats view locks count seats dealt =
    sym (length-map seats view) ∙ ap length dealt ∙ length-map-range_with_len (new_client locks) 0 count

-- ---- seats that stay but for what they know

abbrev bare_in : BareSeat → Option BareSeat → BareSeat
bare_in other None = other
bare_in other (Some seat) = seat

both_empty : (known : List (ℕ × List (ℕ × Entry TurnTaken))) (spare : List ℕ)
    → map (λ known. known.0) known ++ spare ≡ [] → (known ≡ []) × (spare ≡ [])
both_empty [] spare same = (refl, same)
both_empty (one ∷ known) spare same = absurd (omega (arith, ap length same))

slot_stays : (lock : LockId) (number : ℕ) (slot : Slot)
    → bare_slot slot ≡ bare_slot (Some (new_seat lock number []))
    → bare_of slot ≡ Some (new_seat lock number [])
slot_stays lock number None same = absurd (true≢false (ap is_none same))
slot_stays lock number (Some seat) same =
    let seats = ap (bare_in (record { lock = lock; caller = number; others = [] })) same in
    let others = both_empty seat.joined seat.spare (ap (λ (s : BareSeat). s.others) seats) in
    λ i. Some (record {
      lock = (seats i).lock;
      caller = (seats i).caller;
      own = [];
      joined = others.0 i;
      spare = others.1 i;
    })

abbrev head_slot : Option BareSeat → List (Option BareSeat) → Option BareSeat
head_slot other [] = other
head_slot other (slot ∷ slots) = slot

slots_stay : (locks : List LockId) (number : ℕ) (slots : List Slot)
    → map bare_slot slots ≡ map bare_slot (new_slots locks number)
    → map bare_of slots ≡ new_slots locks number
slots_stay [] number [] same = refl
slots_stay [] number (slot ∷ slots) same = absurd (omega (arith, ap length same))
slots_stay (lock ∷ locks) number [] same = absurd (omega (arith, ap length same))
slots_stay (lock ∷ locks) number (slot ∷ slots) same =
    let here = slot_stays lock number slot (ap (head_slot None) same) in
    let rest = slots_stay locks number slots (ap rest_of same) in
    λ i. here i ∷ rest i

-- what clients know are their entries in the books
abbrev pub AreKnown : List (ClientView (Entry TurnTaken)) → List (List (Entry TurnTaken)) → Type 0
AreKnown clients books = EachAt (λ account book. AllByRecursion
    (λ known. entries_of client_of known.0 book ≡ known.1) (known_at account clients)) books

-- ---- clients that were served by their seats

images : {A B D : Type 0} (f : B → D) (g : A → B) (xs : List A) → map f (map g xs) ≡ map (λ x. f (g x)) xs
images f g [] = refl
images {D = D} f g (x ∷ xs) = ap (λ (ys : List D). f (g x) ∷ ys) (images f g xs)

-- what is said of a client that was served, without its seats
abbrev served_of : {T S K C : Type 0} → SeatServing T S K C → Serving S K C
served_of serving = record {
  end = serving.end;
  exchanges = serving.exchanges;
  before = serving.before;
  after = serving.after;
}

abbrev first_or : {E : Type 0} → ClientView E → List (ClientView E) → ClientView E
first_or other [] = other
first_or other (client ∷ clients) = client

module _ {T S K C : Type 0} (left : S → Option (List ℕ)) (taken source_faults : S → ℕ)
    (written : K → Option (List ℕ)) (sink_faults : K → ℕ) (given : C → Option (List ℕ))
    (view : T → ClientView (Entry TurnTaken)) (names : List (List ℕ)) (locks : List LockId) where
  abbrev seen_of : T → SeatSeen
  seen_of seat = seats_seen (view seat).number names (map own_at (view seat).slots)

  abbrev bare_seats : T → List (Option BareSeat)
  bare_seats seat = map bare_slot (view seat).slots

  abbrev Serves : SeatServing T S K C → Type 0
  Serves = ServesSeat left taken source_faults written sink_faults given false seen_of bare_seats

  -- the clients began with the seats that were dealt, from this number on
  abbrev AreDealt : ℕ → List T → Type 0
  AreDealt number seats = map view seats ≡ map (new_client locks) (range_with_len number (length seats))

  -- a client is the same but for what its seats know
  client_stays : (number : ℕ) (serving : SeatServing T S K C) → Serves serving
      → view serving.first ≡ new_client locks number
      → ((view serving.last).number ≡ number) × HasItsSeats locks (view serving.last)
  client_stays number serving serves first_is =
      let same : (view serving.last).number ≡ number =
      serves.grew.caller ∙ ap (λ (client : ClientView (Entry TurnTaken)). client.number) first_is in
      let slots = slots_stay locks number (view serving.last).slots (serves.same
      ∙ ap (λ (client : ClientView (Entry TurnTaken)). map bare_slot client.slots) first_is) in
      (same, slots ∙ ap (new_slots locks) (sym same))

  -- a client's lines are answered by its own entries in the books
  client_served : (number : ℕ) (books : List (List (Entry TurnTaken))) (serving : SeatServing T S K C)
      → length locks ≡ length books
      → Serves serving
      → view serving.first ≡ new_client locks number
      → AreInBooks (view serving.last).number (view serving.last).slots books
      → IsOutput false number (map (own_in number) (books_seen names books)) serving.exchanges
  client_served number books serving many serves first_is are =
      let stays = client_stays number serving serves first_is in
      let last = view serving.last in
      let long : length last.slots ≡ length books =
      sym (length-map last.slots bare_of) ∙ ap length stays.1 ∙ length-map locks _ ∙ many in
      let start : SeatSeen = seats_seen number names (map own_at (new_slots locks number)) in
      let grew : Grew false start (seen_of serving.last) serving.exchanges =
      subst (λ (client : ClientView (Entry TurnTaken)).
      Grew false (seats_seen client.number names (map own_at client.slots)) (seen_of serving.last) serving.exchanges)
      first_is serves.grew in
      output_of_books false start (seen_of serving.last) (books_seen names books) serving.exchanges
      (fresh_owned names locks number)
      (owned_of_books number names last.slots books long
      (subst (λ (client : ℕ). AreInBooks client last.slots books) stays.0 are))
      grew

  -- so are all clients' lines
  clients_served : (number : ℕ) (books : List (List (Entry TurnTaken))) (servings : List (SeatServing T S K C))
      → length locks ≡ length books
      → AllByRecursion Serves servings
      → AreDealt number (map (λ serving. serving.first) servings)
      → AreKnown (map view (map (λ serving. serving.last) servings)) books
      → AreClientsServed left taken source_faults written sink_faults given names books number
      (map served_of servings)
  clients_served number books [] many each dealt known = tt
  clients_served number books (serving ∷ servings) many each dealt known = (
    record {
      loop = each.0.loop;
      output = client_served number books serving many each.0
          (ap (first_or (view serving.first)) dealt) (λ account d below. (known account d below).0);
    },
    clients_served (number + 1) books servings many each.1 (ap rest_of dealt)
        (λ account d below. (known account d below).1),
  )

  -- each client has its seats at the end
  have_seats : (number : ℕ) (servings : List (SeatServing T S K C))
      → AllByRecursion Serves servings
      → AreDealt number (map (λ serving. serving.first) servings)
      → AllByRecursion (HasItsSeats locks) (map view (map (λ serving. serving.last) servings))
  have_seats number [] each dealt = tt
  have_seats number (serving ∷ servings) each dealt = (
    (client_stays number serving each.0 (ap (first_or (view serving.first)) dealt)).1,
    have_seats (number + 1) servings each.1 (ap rest_of dealt),
  )

  -- and the numbers stay
  same_numbers : (servings : List (SeatServing T S K C))
      → AllByRecursion Serves servings
      → map (λ seat. (view seat).number) (map (λ serving. serving.last) servings)
      ≡ map (λ seat. (view seat).number) (map (λ serving. serving.first) servings)
  same_numbers [] each = refl
  same_numbers (serving ∷ servings) each =
      λ i. each.0.grew.caller i ∷ same_numbers servings each.1 i

  -- ---- as the home's contract says it

  -- the clients and seats of a home whose clients were served
  abbrev pub Serve : List LoopEnd → List (Client S K C) → List (Client S K C) → List T → List T → Type 0
  Serve = ServesSeats left taken source_faults written sink_faults given false seen_of bare_seats

  pub are_served : (first : ℕ) (end : ClientsEnd) (books : List (List (Entry TurnTaken))) (ended : List LoopEnd)
      (befores afters : List (Client S K C)) (firsts lasts : List T)
      → length locks ≡ length books
      → end ≡ ends_from first ended
      → Serve ended befores afters firsts lasts
      → AreDealt 0 firsts
      → AreKnown (map view lasts) books
      → AreServed left taken source_faults written sink_faults given names books first end befores afters
  are_served first end books ended befores afters firsts lasts many end_is serves dealt known = record {
    servings = map served_of serves.servings;
    befores_are = serves.befores_are ∙ sym (images (λ (s : Serving S K C). s.before) served_of serves.servings);
    afters_are = serves.afters_are ∙ sym (images (λ (s : Serving S K C). s.after) served_of serves.servings);
    end_is = end_is ∙ ap (ends_from first)
        (serves.ended_is ∙ sym (images (λ (s : Serving S K C). s.end) served_of serves.servings));
    served = clients_served 0 books serves.servings many serves.each
        (subst (AreDealt 0) serves.firsts_are dealt)
        (subst (λ (seats : List T). AreKnown (map view seats) books) serves.lasts_are known);
  }

  pub seats_stay : (ended : List LoopEnd) (befores afters : List (Client S K C)) (firsts lasts : List T)
      → Serve ended befores afters firsts lasts
      → AreDealt 0 firsts
      → AllByRecursion (HasItsSeats locks) (map view lasts)
  seats_stay ended befores afters firsts lasts serves dealt =
      subst (λ (seats : List T). AllByRecursion (HasItsSeats locks) (map view seats)) (sym serves.lasts_are)
      (have_seats 0 serves.servings serves.each (subst (AreDealt 0) serves.firsts_are dealt))

  pub numbers_stay : (ended : List LoopEnd) (befores afters : List (Client S K C)) (firsts lasts : List T)
      → Serve ended befores afters firsts lasts
      → map (λ seat. (view seat).number) lasts ≡ map (λ seat. (view seat).number) firsts
  numbers_stay ended befores afters firsts lasts serves =
      ap (map (λ (seat : T). (view seat).number)) serves.lasts_are
      ∙ same_numbers serves.servings serves.each
      ∙ sym (ap (map (λ (seat : T). (view seat).number)) serves.firsts_are)

-- ---- seats that were dealt and made no turn

known_none : (locks : List LockId) (number account : ℕ)
    → known_in {E = Entry TurnTaken} (slice_index_or (new_slots locks number) account None) ≡ []
known_none [] number account = refl
known_none (lock ∷ locks) number zero = refl
known_none (lock ∷ locks) number (suc account) = known_none locks number account

-- a client that knows nothing at any place has no entry in any book
none_in_books : (client : ℕ) (books : List (List (Entry TurnTaken)))
    → EachAt (λ account book. entries_of client_of client book ≡ []) books
    → AllByRecursion (λ book. own_entries client (map entry_at book) ≡ []) books
none_in_books client [] none = tt
none_in_books client (book ∷ books) none = (
  sym (own_turns client 0 book) ∙ ap (map known_entry) (none 0 book (omega arith)),
  none_in_books client books (λ account d below. none (suc account) d (omega (arith, below))),
)

-- clients that were dealt their seats, and know nothing else, have no turn in the books
no_turns_from : (locks : List LockId) (number count : ℕ) (books : List (List (Entry TurnTaken)))
    → AreKnown (map (new_client locks) (range_with_len number count)) books
    → AllByRecursion (λ client. AllByRecursion (λ book. own_entries client (map entry_at book) ≡ []) books)
    (range_with_len number count)
no_turns_from locks number zero books known = tt
no_turns_from locks number (suc count) books known = (
  none_in_books number books
      (λ account d below. (known account d below).0 ∙ known_none locks number account),
  no_turns_from locks (number + 1) count books (λ account d below. (known account d below).1),
)

pub no_turns : (locks : List LockId) (count : ℕ) (clients : List (ClientView (Entry TurnTaken)))
    (books : List (List (Entry TurnTaken)))
    → clients ≡ map (new_client locks) (range_with_len 0 count)
    → AreKnown clients books
    → HaveNoTurns count books
no_turns locks count clients books dealt known =
    no_turns_from locks 0 count books
    (subst (λ (clients : List (ClientView (Entry TurnTaken))). AreKnown clients books) dealt known)

-- ---- a home that is to be ended, whether its clients were served or not

module _ {T S K C : Type 0} (left : S → Option (List ℕ)) (taken source_faults : S → ℕ)
    (written : K → Option (List ℕ)) (sink_faults : K → ℕ) (given : C → Option (List ℕ))
    (view : T → ClientView (Entry TurnTaken)) (names : List (List ℕ)) (locks : List LockId)
    (first : ℕ) (befores afters : List (Client S K C)) (firsts lasts : List T) (count : ℕ) where
  -- the clients were served so
  abbrev pub AreServedSo : ClientsEnd → Type 0
  AreServedSo end = (ended : List LoopEnd) × (end ≡ ends_from first ended)
      × Serve left taken source_faults written sink_faults given view names locks ended befores afters firsts lasts

  -- or not
  abbrev StayAsDealt : Type 0
  StayAsDealt = (afters ≡ befores) × (lasts ≡ firsts)

  -- so many seats were dealt
  abbrev AreAllDealt : Type 0
  AreAllDealt = map view firsts ≡ map (new_client locks) (range_with_len 0 count)

  as_many_dealt : AreAllDealt → AreDealt left taken source_faults written sink_faults given view names locks 0 firsts
  as_many_dealt dealt =
      let many = as_many_seats view locks count firsts dealt in
      dealt ∙ ap (λ (n : ℕ). map (new_client locks) (range_with_len 0 n)) (sym many)

  all_new_have : (number n : ℕ)
      → AllByRecursion (HasItsSeats {E = Entry TurnTaken} locks) (map (new_client locks) (range_with_len number n))
  all_new_have number zero = tt
  all_new_have number (suc n) = (new_have locks number, all_new_have (number + 1) n)

  -- each client has its seats
  pub left_seats : (end : Option ClientsEnd) → IfSome end AreServedSo → IfNone end StayAsDealt → AreAllDealt
      → All (HasItsSeats locks) (map view lasts)
  left_seats (Some end) served unserved dealt =
      All-from_recursion _ (map view lasts)
      (seats_stay left taken source_faults written sink_faults given view names locks served.0 befores afters firsts
      lasts served.2 (as_many_dealt dealt))
  left_seats None served unserved dealt =
      All-from_recursion _ (map view lasts)
      (subst (AllByRecursion (HasItsSeats locks)) (sym (ap (map view) unserved.1 ∙ dealt)) (all_new_have 0 count))

  -- there are as many
  pub as_many_left : (end : Option ClientsEnd) → IfSome end AreServedSo → IfNone end StayAsDealt
      → map (λ seat. (view seat).number) lasts ≡ map (λ seat. (view seat).number) firsts
  as_many_left (Some end) served unserved =
      numbers_stay left taken source_faults written sink_faults given view names locks served.0 befores afters firsts
      lasts served.2
  as_many_left None served unserved = ap (map (λ (seat : T). (view seat).number)) unserved.1

  -- what is said of clients that were served
  pub end_served : (books : List (List (Entry TurnTaken))) (end : Option ClientsEnd)
      → length locks ≡ length books
      → IfSome end AreServedSo → AreAllDealt → AreKnown (map view lasts) books
      → IfSome end (λ end. AreServed left taken source_faults written sink_faults given names books first end befores
      afters)
  end_served books (Some end) many served dealt known =
      are_served left taken source_faults written sink_faults given view names locks first end books served.0 befores
      afters firsts lasts many served.1 served.2 (as_many_dealt dealt) known
  end_served books None many served dealt known = tt

  -- and of clients that weren't
  pub end_unserved : (books : List (List (Entry TurnTaken))) (end : Option ClientsEnd)
      → IfNone end StayAsDealt → AreAllDealt → AreKnown (map view lasts) books
      → IfNone end ((afters ≡ befores) × HaveNoTurns count books)
  end_unserved books (Some end) unserved dealt known = tt
  end_unserved books None unserved dealt known =
      (unserved.0, no_turns locks count (map view lasts) books (ap (map view) unserved.1 ∙ dealt) known)
