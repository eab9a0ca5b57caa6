-- One account more is closed.
use Rattle.std.proofs.Common.{◌≡◌, ℕ, List, [], ◌∷◌, ◌++◌, map, Option, Some, None, sym, ap, ◌∙◌, subst, append_assoc}
use Rattle.std.proofs.lemmas.List.{map-append}
use Rattle.home_image.proofs.ListLemmas.{all-both}
use Rattle.pw_types.specs.declared.era.Era.{Era}
use Rattle.share_api.specs.declared.step.Step.{Step}
use Rattle.turn_lock.specs.Seats.{SeatView, LockId, Recalls}
use Rattle.platform_lock.specs.Seats.{AccountView}
use Rattle.home_locks.specs.Meanings.{Rules, client_of}
use Rattle.home_locks.specs.Accounts.{AccountStands, Readiness, Started, started_at}
use Rattle.home_locks.specs.Closing.{IsWhole, End, EndStands, Closes, KnowsEnds, JoinsOn, known_of, started_of, account_at}
use Rattle.home_locks.specs.declared.account.Entry.{Entry}
use Rattle.home_locks.proofs.AccountLemmas.{one_value}

module _ {T X : Type 0} where
  -- the seat of an account that has no other number, joined to the others
  knows_more : (shared : LockId) (ends : List (End T X)) (end : End T X) (first : Option (SeatView Step))
      (whole : SeatView Step)
      → end.seat.lock ≡ shared
      → end.seat.joined ≡ []
      → end.seat.spare ≡ []
      → KnowsEnds shared ends first
      → JoinsOn first end.seat whole
      → KnowsEnds shared (ends ++ end ∷ []) (Some whole)
  knows_more shared ends end None whole of joined spare none is = (
    ap (λ s. s.lock) is ∙ of,
    (λ i. ((is i).caller, (is i).own) ∷ (is i).joined)
        ∙ ap (λ js. (end.seat.caller, end.seat.own) ∷ js) joined
        ∙ ap (λ es. map known_of (es ++ end ∷ [])) (sym none),
    ap (λ s. s.spare) is ∙ spare,
  )
  knows_more shared ends end (Some seat) whole of joined spare knows is = (
    ap (λ s. s.lock) is ∙ knows.0,
    (λ i. ((is i).caller, (is i).own) ∷ (is i).joined)
        ∙ ap (λ js. (seat.caller, seat.own) ∷ (seat.joined ++ (end.seat.caller, end.seat.own) ∷ js)) joined
        ∙ ap (λ ks. ks ++ known_of end ∷ []) knows.1
        ∙ sym (map-append known_of ends (end ∷ [])),
    ap (λ s. s.spare) is ∙ (λ i. knows.2 i ++ spare i),
  )

-- The seat that the account has at the end is the one that it was opened with, and knows its steps.
pub own_seat_is : {C D U T X : Type 0} (rules : Rules C D U T X) (ready : Readiness X) (first now : Option AccountView)
    (start after : X) (book : List (Entry T)) (opened own : AccountView)
    → AccountStands rules ready first start now after book
    → first ≡ Some opened
    → now ≡ Some own
    → own.seat ≡ record opened.seat { own = own.seat.own }
own_seat_is rules ready first now start after book opened own stands first_is now_is =
    let seat_is : stands.seat ≡ own = one_value stands.seat own now stands.seat_is now_is in
    let start_is : stands.start ≡ opened = one_value stands.start opened first stands.start_is first_is in
    ap (λ (o : AccountView). o.seat) (sym seat_is) ∙ stands.same
    ∙ (λ i. record ((start_is i).seat) { own = (seat_is i).seat.own })

-- so it is of the platform's lock
pub own_of_shared : {C D U T X : Type 0} (rules : Rules C D U T X) (ready : Readiness X) (era opened : Era)
    (shared lock : LockId) (first now : Option AccountView) (client : SeatView (Entry T)) (start after : X) (book : List (Entry T))
    (own : AccountView) (given : SeatView Step)
    → IsWhole era shared lock first opened client
    → AccountStands rules ready first start now after book
    → now ≡ Some own
    → given ≡ own.seat
    → given.lock ≡ shared
own_of_shared rules ready era opened shared lock first now client start after book own given whole stands now_is given_is =
    ap (λ (s : SeatView Step). s.lock)
    (given_is ∙ own_seat_is rules ready first now start after book whole.start own stands whole.start_is now_is)
    ∙ whole.start_of

-- one account more, behind the others
pub closes_more : {C D U T X : Type 0} (rules_at : Era → Rules C D U T X) (ready : Readiness X) (era opened : Era)
    (shared lock : LockId) (accounts : List ℕ) (clients : List (SeatView (Entry T))) (starts : List (Started X)) (old mid new : List (List (Entry T)))
    (first : Option (SeatView Step)) (first_now now : Option AccountView) (client : SeatView (Entry T)) (own : AccountView)
    (given whole : SeatView Step) (start after : X) (book : List (Entry T))
    → Closes (rules_at era) shared accounts clients starts old mid first
    → IsWhole era shared lock first_now opened client
    → AccountStands (rules_at opened) ready first_now start now after book
    → Recalls client_of book client
    → now ≡ Some own
    → given ≡ own.seat
    → new ≡ mid ++ book ∷ []
    → JoinsOn first given whole
    → Closes (rules_at era) shared (accounts ++ account_at first_now ∷ []) (clients ++ client ∷ [])
    (starts ++ started_at first_now start ∷ []) old new (Some whole)
closes_more {C} {D} {U} {T} {X} rules_at ready era opened shared lock accounts clients starts old mid new first first_now now client
    own given whole start after book closes is_whole stood recalls now_is given_is new_is joins =
    let rules = rules_at era in
    let stands = subst (λ e. AccountStands (rules_at e) ready first_now start now after book) is_whole.era_is stood in
    let end : End T X = record {
      seat = own.seat;
      client = client;
      early = stands.start.seat.own;
      own = stands.own;
      start = start;
      after = after;
      book = book;
    } in
    let seat_is : stands.seat ≡ own = one_value stands.seat own now stands.seat_is now_is in
    let own_is : own.seat ≡ record is_whole.start.seat { own = own.seat.own } =
    own_seat_is rules ready first_now now start after book is_whole.start own stands is_whole.start_is now_is in
    record {
      ends = closes.ends ++ end ∷ [];
      accounts_are =
          ap (λ ns. ns ++ account_at first_now ∷ []) closes.accounts_are
          ∙ ap (λ (n : ℕ). map (λ (e : End T X). e.seat.caller) closes.ends ++ n ∷ [])
          (ap account_at is_whole.start_is ∙ sym (ap (λ s. s.caller) own_is))
          ∙ sym (map-append (λ (e : End T X). e.seat.caller) closes.ends (end ∷ []));
      clients_are = ap (λ cs. cs ++ client ∷ []) closes.clients_are
          ∙ sym (map-append (λ (e : End T X). e.client) closes.ends (end ∷ []));
      starts_are = ap (λ xs. xs ++ started_at first_now start ∷ []) closes.starts_are
          ∙ ap (λ (o : Option AccountView). map (λ (e : End T X). started_of e) closes.ends ++ started_at o start ∷ [])
          stands.start_is
          ∙ sym (map-append (λ (e : End T X). started_of e) closes.ends (end ∷ []));
      books_are = new_is ∙ ap (λ bs. bs ++ book ∷ []) closes.books_are
          ∙ append_assoc old (map (λ (e : End T X). e.book) closes.ends) (book ∷ [])
          ∙ ap (λ bs. old ++ bs) (sym (map-append (λ (e : End T X). e.book) closes.ends (end ∷ [])));
      stand = all-both (EndStands rules) closes.ends (end ∷ []) closes.stand (
        record {
          seat_is = sym (ap (λ (o : AccountView). o.seat.own) seat_is) ∙ stands.own_is;
          book_stands = stands.book_stands;
          moves = stands.moves;
        },
        tt,
      );
      recalled = all-both (λ e. Recalls client_of e.book e.client) closes.ends (end ∷ []) closes.recalled (recalls, tt);
      knows = knows_more shared closes.ends end first whole
          (ap (λ s. s.lock) own_is ∙ is_whole.start_of) (ap (λ s. s.joined) own_is ∙ is_whole.joined)
          (ap (λ s. s.spare) own_is ∙ is_whole.spare) closes.knows
          (subst (λ (seat : SeatView Step). JoinsOn first seat whole) given_is joins);
    }

-- the lists of all parts are those of the others with the last
pub closes_parts : {P C D U T X : Type 0} (rules : Rules C D U T X) (shared : LockId)
    (first_of : P → Option AccountView) (clients_of : P → SeatView (Entry T)) (started : P → Started X)
    (all others : List P) (part : P) (old new : List (List (Entry T))) (seat : Option (SeatView Step))
    → all ≡ others ++ part ∷ []
    → Closes rules shared (map (λ p. account_at (first_of p)) others ++ account_at (first_of part) ∷ [])
    (map clients_of others ++ clients_of part ∷ []) (map started others ++ started part ∷ []) old new seat
    → Closes rules shared (map (λ p. account_at (first_of p)) all) (map clients_of all) (map started all) old new seat
closes_parts rules shared first_of clients_of started all others part old new seat is closes =
    let both = others ++ part ∷ [] in
    subst (λ parts. Closes rules shared (map (λ p. account_at (first_of p)) parts) (map clients_of parts)
    (map started parts) old new seat)
    (sym is)
    (subst (λ xs. Closes rules shared (map (λ p. account_at (first_of p)) both) (map clients_of both) xs old new seat)
    (sym (map-append started others (part ∷ [])))
    (subst (λ cs. Closes rules shared (map (λ p. account_at (first_of p)) both) cs
    (map started others ++ started part ∷ []) old new seat)
    (sym (map-append clients_of others (part ∷ [])))
    (subst (λ ns. Closes rules shared ns (map clients_of others ++ clients_of part ∷ [])
    (map started others ++ started part ∷ []) old new seat)
    (sym (map-append (λ p. account_at (first_of p)) others (part ∷ []))) closes)))
