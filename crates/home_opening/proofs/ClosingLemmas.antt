-- The accounts that were opened, one by one.
use Rattle.std.proofs.Common.{◌≡◌, ℕ, ◌<◌, List, [], ◌∷◌, ◌++◌, map, length, reverse, All, Option, Some, refl, sym, ap, ◌∙◌, subst, append_assoc, append-nil, arith}
use Rattle.std.proofs.lemmas.List.{map-append, reverse-append}
use Rattle.std.specs.List.{AllByRecursion}
use Rattle.std.specs.Prelude.{IfSome}
use Rattle.home_image.specs.Book.{Made, entries, steps_in}
use Rattle.pw_types.specs.declared.era.Era.{Era}
use Rattle.share_api.specs.declared.step.Step.{Step}
use Rattle.turn_lock.specs.Lists.{count_of}
use Rattle.turn_lock.specs.Seats.{LockId, SeatView, Recalls, joined_seat, numbers_of}
use Rattle.turn_lock.proofs.Counts.{count_of-append}
use Rattle.platform_lock.specs.Seats.{AccountView}
use Rattle.home_locks.specs.Accounts.{AccountStands, Readiness}
use Rattle.home_locks.specs.Closing.{account_at}
use Rattle.home_locks.specs.Meanings.{Rules, client_of}
use Rattle.home_locks.specs.declared.account.Entry.{Entry}
use Rattle.home_opening.specs.Locks.{AccountSeen, IsAccountLock, IsFirstSeat, AreNewLocks}
use Rattle.home_opening.specs.Numbers.{AreSameNumbers, known_at, known_by, numbers_at, steps_at}
use Rattle.home_opening.proofs.NumberLemmas.{account_number}
use Rattle.home_opening.proofs.OpenedLemmas.{one_value}
use Rattle.home_opening.proofs.RecallLemmas.{nothing_recalled}
use Rattle.home_seats.specs.Seats.{LockSeen}
use Rattle.turn_meaning.specs.declared.taken.TurnTaken.{TurnTaken}

all_of_append : {A : Type 0} (P : A → Type 0) (xs ys : List A) → AllByRecursion P (xs ++ ys)
    → AllByRecursion P xs × AllByRecursion P ys
all_of_append P [] ys all = (tt, all)
all_of_append P (x ∷ xs) ys all = let rest = all_of_append P xs ys all.1 in ((all.0, rest.0), rest.1)

-- the last account's lock is new, and so are the others'
pub new_last : {A : Type 0} (f : A → AccountSeen) (shared : LockId) (era : Era) (clients : ℕ) (all rest : List A) (x : A)
    → all ≡ rest ++ x ∷ []
    → AreNewLocks shared era clients (map f all)
    → AreNewLocks shared era clients (map f rest)
    × ((account : ℕ) × IsAccountLock shared era clients account (f x).at)
    × IsFirstSeat (f x).at.lock (f x).client
new_last f shared era clients all rest x is new =
    let parts = all_of_append _ (map f rest) (f x ∷ [])
    (subst (AreNewLocks shared era clients) (ap (map f) is ∙ map-append f rest (x ∷ [])) new) in
    (parts.0, parts.1.0.0, parts.1.0.1)

-- ---- an account of which nobody has taken a turn

-- a book of which a lock's first seat has all numbers has no entry
never_taken : (lock : LockId) (client : SeatView (Entry TurnTaken)) (book : List (Entry TurnTaken))
    → IsFirstSeat lock client
    → Recalls client_of book client
    → All (λ entry. client_of entry < lock.callers) book
    → book ≡ []
never_taken lock client book is recalls callers =
    nothing_recalled client_of book client
    (subst (λ (s : SeatView (Entry TurnTaken)). AllByRecursion (λ known. known.1 ≡ []) ((s.caller, s.own) ∷ s.joined))
    (sym is.first) (refl, tt)) recalls is.numbers
    (subst (λ (l : LockId). All (λ entry. client_of entry < l.callers) book)
    (sym (ap (λ (s : SeatView (Entry TurnTaken)). s.lock) is.first)) callers)

no_steps : {S E : Type 0} (made : List (Made S E)) → entries made ≡ [] → steps_in made ≡ []
no_steps [] none = refl
no_steps (turn ∷ made) none = absurd (let long = ap length none in omega (arith, long))

-- the seat that the account has at the end is its first one
seat_back : {C D U T X : Type 0} (rules : Rules C D U T X) (ready : Readiness X) (first now : Option AccountView)
    (start after : X) (book : List (Entry T)) (own : AccountView)
    → AccountStands rules ready first start now after book
    → book ≡ []
    → now ≡ Some own
    → IfSome first (λ opened. own.seat ≡ opened.seat)
seat_back rules ready first now start after book own stands none now_is =
    let seat_is : stands.seat ≡ own = one_value stands.seat own now stands.seat_is now_is in
    let steps : stands.own ≡ [] =
    sym stands.book_stands.own_is ∙ no_steps stands.book_stands.made (stands.book_stands.book_is ∙ none) in
    let knows : stands.seat.seat.own ≡ stands.start.seat.own =
    stands.own_is ∙ ap (λ (more : List (ℕ × Step)). stands.start.seat.own ++ more) steps
    ∙ append-nil stands.start.seat.own in
    subst (λ (o : Option AccountView). IfSome o (λ opened. own.seat ≡ opened.seat)) (sym stands.start_is)
    (ap (λ (o : AccountView). o.seat) (sym seat_is) ∙ stands.same
    ∙ ap (λ (known : List (ℕ × Step)). record stands.start.seat { own = known }) knows)

pub given_back : {C D U X : Type 0} (rules : Rules C D U TurnTaken X) (ready : Readiness X)
    (first now : Option AccountView) (start after : X) (book : List (Entry TurnTaken)) (lock : LockId)
    (client : SeatView (Entry TurnTaken)) (own : AccountView) (given : SeatView Step)
    → AccountStands rules ready first start now after book
    → IsFirstSeat lock client
    → Recalls client_of book client
    → All (λ entry. client_of entry < lock.callers) book
    → now ≡ Some own
    → given ≡ own.seat
    → IfSome first (λ opened. given ≡ opened.seat)
given_back rules ready first now start after book lock client own given stands is recalls callers now_is given_is =
    subst (λ (s : SeatView Step). IfSome first (λ opened. s ≡ opened.seat)) (sym given_is)
    (seat_back rules ready first now start after book own stands
    (never_taken lock client book is recalls callers) now_is)

-- where there is one, that is it
pub first_seat_is : (first : Option AccountView) (start : AccountView) (given : SeatView Step)
    → first ≡ Some start
    → IfSome first (λ opened. given ≡ opened.seat)
    → given ≡ start.seat
first_seat_is first start given is back =
    subst (λ (o : Option AccountView). IfSome o (λ opened. given ≡ opened.seat)) is back

module _ (shared : LockId) (era : Era) (clients account : ℕ) (at : LockSeen) (given : SeatView Step)
    (of : IsAccountLock shared era clients account at) (is : given ≡ of.start.seat) where
  -- it is of the platform's lock
  pub own_lock : given.lock ≡ shared
  own_lock = ap (λ (s : SeatView Step). s.lock) (is ∙ of.start_of)

  -- and has the account's number alone
  pub own_number : numbers_of given ≡ account_at at.seat ∷ []
  own_number = ap numbers_of (is ∙ of.start_of)
      ∙ ap (λ (n : ℕ). n ∷ []) (sym (account_number shared era clients account at of))

  -- and knows the steps that it knew at first
  pub own_known : known_by given ≡ (account_at at.seat, steps_at at.seat) ∷ []
  own_known = ap known_by is
      ∙ ap (λ (joined : List (ℕ × List (ℕ × Step))). (of.start.seat.caller, of.start.seat.own) ∷ joined)
      (ap (λ (s : SeatView Step). s.joined) of.start_of)
      ∙ ap (λ (o : Option AccountView). (account_at o, steps_at o) ∷ []) (sym of.start_is)

-- ---- what the accounts knew

known_last : (seen : AccountSeen) (accounts others : List AccountSeen) → accounts ≡ others ++ seen ∷ []
    → (account_at seen.at.seat, steps_at seen.at.seat) ∷ reverse (known_at others) ≡ reverse (known_at accounts)
known_last seen accounts others are =
    sym (ap (λ (xs : List AccountSeen). reverse (known_at xs)) are
    ∙ ap reverse (map-append (λ (s : AccountSeen). (account_at s.at.seat, steps_at s.at.seat)) others (seen ∷ []))
    ∙ reverse-append (known_at others) (known_at (seen ∷ [])))

-- what the last account knew is known first, and then what the others did
pub known_joined : (seat own joined whole : SeatView Step) (seen : AccountSeen) (accounts others : List AccountSeen)
    → accounts ≡ others ++ seen ∷ []
    → joined ≡ joined_seat seat own
    → known_by own ≡ (account_at seen.at.seat, steps_at seen.at.seat) ∷ []
    → known_by whole ≡ known_by joined ++ reverse (known_at others)
    → known_by whole ≡ known_by seat ++ reverse (known_at accounts)
known_joined seat own joined whole seen accounts others are joins knows whole_is =
    whole_is
    ∙ ap (λ (known : List (ℕ × List (ℕ × Step))). known ++ reverse (known_at others))
    (ap known_by joins ∙ ap (λ (known : List (ℕ × List (ℕ × Step))). known_by seat ++ known) knows)
    ∙ append_assoc (known_by seat) ((account_at seen.at.seat, steps_at seen.at.seat) ∷ []) (reverse (known_at others))
    ∙ ap (λ (known : List (ℕ × List (ℕ × Step))). known_by seat ++ known) (known_last seen accounts others are)

-- the same where there is no seat before
pub known_first : (own whole : SeatView Step) (seen : AccountSeen) (accounts others : List AccountSeen)
    → accounts ≡ others ++ seen ∷ []
    → known_by own ≡ (account_at seen.at.seat, steps_at seen.at.seat) ∷ []
    → known_by whole ≡ known_by own ++ reverse (known_at others)
    → known_by whole ≡ reverse (known_at accounts)
known_first own whole seen accounts others are knows whole_is =
    whole_is
    ∙ ap (λ (known : List (ℕ × List (ℕ × Step))). known ++ reverse (known_at others)) knows
    ∙ known_last seen accounts others are

-- and so it is with numbers
pub numbers_first : (own whole : SeatView Step) (seen : AccountSeen) (accounts others : List AccountSeen)
    → accounts ≡ others ++ seen ∷ []
    → numbers_of own ≡ account_at seen.at.seat ∷ []
    → AreSameNumbers (numbers_of whole) (numbers_of own ++ numbers_at others)
    → AreSameNumbers (numbers_of whole) (numbers_at accounts)
numbers_first own whole seen accounts others are one same number =
    let account : List ℕ = account_at seen.at.seat ∷ [] in
    let at_all : numbers_at accounts ≡ numbers_at others ++ account =
    ap numbers_at are ∙ map-append (λ (s : AccountSeen). account_at s.at.seat) others (seen ∷ []) in
    let left = count_of-append number (numbers_of own) (numbers_at others) in
    let right = ap (count_of number) at_all ∙ count_of-append number (numbers_at others) account in
    let taken = ap (count_of number) one in
    let all = same number in
    omega (arith, all, left, right, taken)
