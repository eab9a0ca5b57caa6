-- All locks are closed.
use Rattle.std.proofs.Common.{◌≡◌, ℕ, zero, suc, ◌+◌, ◌<◌, ◌^◌, List, [], ◌∷◌, ◌++◌, map, length, Option, Some, refl, sym, ap, ◌∙◌, subst, append-nil, arith}
use Rattle.std.specs.List.{AllByRecursion, range_with_len}
use Rattle.std.proofs.lemmas.List.Elements.{recursion_from_All}
use Rattle.home_image.proofs.ListLemmas.{head_or, rest_of}
use Rattle.home_image.proofs.PlaceLemmas.{at-led}
use Rattle.home_image.proofs.EndLemmas.{ends-led}
use Rattle.image_path.specs.Paths.{IsLedIn, IsLeftAt, Recovers}
use Rattle.image_path.specs.Showing.{ByAccount}
use Rattle.share_api.specs.declared.step.Step.{Step}
use Rattle.turn_lock.specs.Lists.{count_of, entries_of}
use Rattle.turn_lock.specs.Seats.{SeatView, LockId, HasEachNumber, Recalls, numbers_of}
use Rattle.turn_lock.proofs.Counts.{count_of-range_with_len}
use Rattle.platform_lock.specs.Devices.{account_of}
use Rattle.home_locks.specs.Meanings.{Rules, client_of, meaning_of}
use Rattle.home_locks.specs.Accounts.{Started}
use Rattle.home_locks.specs.Closing.{End, EndStands, Closes, KnowsEnds, AreRecalled, known_of, started_of}
use Rattle.home_locks.specs.Settled.{AreMoved, AreOpened, AreBooksClean, AreAt, HaveEnded, Settles}
use Rattle.home_locks.specs.declared.account.Entry.{Entry}

abbrev HasSome : List ℕ → Type 0
HasSome [] = ⊥
HasSome (x ∷ xs) = Unit {0}

module _ {T X : Type 0} where
  known_numbers : (ends : List (End T X))
      → map (λ known. known.0) (map known_of ends) ≡ map (λ end. end.seat.caller) ends
  known_numbers [] = refl
  known_numbers (end ∷ ends) = ap (λ (ns : List ℕ). end.seat.caller ∷ ns) (known_numbers ends)

  -- the seat has all numbers, where the accounts had them
  pub knows_numbers : (shared : LockId) (ends : List (End T X)) (seat : SeatView Step)
      → KnowsEnds shared ends (Some seat)
      → map (λ end. end.seat.caller) ends ≡ range_with_len 0 shared.callers
      → HasEachNumber seat
  knows_numbers shared ends seat knows are number below =
      let numbers : numbers_of seat ≡ range_with_len 0 shared.callers =
      (λ i. seat.caller ∷ (map (λ known. known.0) seat.joined ++ knows.2 i))
      ∙ append-nil (map (λ known. known.0) ((seat.caller, seat.own) ∷ seat.joined))
      ∙ ap (map (λ known. known.0)) knows.1 ∙ known_numbers ends ∙ are in
      let callers : seat.lock.callers ≡ shared.callers = ap (λ l. l.callers) knows.0 in
      let once = (count_of-range_with_len 0 shared.callers number).inside (omega arith)
      (omega (arith, callers, below)) in
      subst (λ ns. 0 < count_of number ns) (sym numbers) (omega (arith, once))

  all_known : (P : ℕ × List (ℕ × Step) → Type 0) (ends : List (End T X))
      → AllByRecursion P (map known_of ends) → AllByRecursion (λ end. P (known_of end)) ends
  all_known P [] h = tt
  all_known P (end ∷ ends) h = (h.0, all_known P ends h.1)

  -- what the accounts' seats knew are their steps in the chain
  pub recalls_ends : (shared : LockId) (chain : List Step) (ends : List (End T X)) (seat : SeatView Step)
      → Recalls account_of chain seat
      → KnowsEnds shared ends (Some seat)
      → AllByRecursion (λ end. entries_of account_of end.seat.caller chain ≡ end.seat.own) ends
  recalls_ends shared chain ends seat recalls knows =
      all_known (λ known. entries_of account_of known.0 chain ≡ known.1) ends
      (subst (AllByRecursion (λ known. entries_of account_of known.0 chain ≡ known.1)) knows.1
      (recalls.own, recursion_from_All _ seat.joined recalls.joined))

module _ {C D U T X : Type 0} (rules : Rules C D U T X) (chain : List Step) where
  -- the account's steps in the chain are those that it had made at first, and then those of its book
  parts_in_chain : (account : ℕ) (end : End T X)
      → end.seat.caller ≡ account
      → entries_of account_of end.seat.caller chain ≡ end.seat.own
      → EndStands rules end
      → entries_of account_of account chain ≡ end.early ++ end.own
  parts_in_chain account end is own stands =
      sym (ap (λ (a : ℕ). entries_of account_of a chain) is) ∙ own ∙ stands.seat_is

  -- the books from this account on moved by the steps behind the opening ones
  pub ends_moved : (ends : List (End T X)) (account more : ℕ)
      → map (λ end. end.seat.caller) ends ≡ range_with_len account more
      → AllByRecursion (λ end. entries_of account_of end.seat.caller chain ≡ end.seat.own) ends
      → AllByRecursion (EndStands rules) ends
      → AreMoved rules.moves chain account (map started_of ends) (map (λ end. end.book) ends)
  ends_moved [] account more are recalls stand = tt
  ends_moved (end ∷ ends) account zero are recalls stand = absurd (subst HasSome are tt)
  ends_moved (end ∷ ends) account (suc more) are recalls stand = (
    record {
      own = end.own;
      steps_are = parts_in_chain account end (ap (head_or 0) are) recalls.0 stand.0;
      after = end.after;
      led = stand.0.moves;
    },
    ends_moved ends (account + 1) more (ap rest_of are) recalls.1 stand.1,
  )

module _ {C D U T X : Type 0} (rules : Rules C D U T X) (chain : List Step) (images : ByAccount C → Type 0)
    (user : ℕ → U) (first : ByAccount C) (small : length chain < 2 ^ 64) where
  -- an image is at one place of the books from this account on
  ends_at : (n : ℕ) (image : ByAccount C)
      → IsLeftAt (meaning_of rules) n first images chain image
      → (ends : List (End T X)) (account more : ℕ)
      → map (λ end. end.seat.caller) ends ≡ range_with_len account more
      → AllByRecursion (λ end. entries_of account_of end.seat.caller chain ≡ end.seat.own) ends
      → AllByRecursion (EndStands rules) ends
      → AreOpened rules first user account (map started_of ends)
      → AreBooksClean rules images user account (map (λ end. end.book) ends)
      → AreAt rules n user image account (map (λ end. end.book) ends)
  ends_at n image left [] account more are recalls stand opened clean = tt
  ends_at n image left (end ∷ ends) account zero are recalls stand opened clean = absurd (subst HasSome are tt)
  ends_at n image left (end ∷ ends) account (suc more) are recalls stand opened clean =
      let led = left.each account in (
        at-led (meaning_of rules) n account chain end.early end.own end.start end.after (first account) (image account)
            led.seen (user account) end.book stand.0.book_stands
            (parts_in_chain rules chain account end (ap (head_or 0) are) recalls.0 stand.0)
            opened.0 (clean.0 led.seen led.parts) small left.within led.led,
        ends_at n image left ends (account + 1) more (ap rest_of are) recalls.1 stand.1 opened.1 clean.1,
      )

  -- the books from this account on end legal, and held by contents to which all steps lead
  ends_ended : (now : ByAccount C)
      → ((account : ℕ) → IsLedIn (meaning_of rules) images chain account (first account) (now account))
      → (ends : List (End T X)) (account more : ℕ)
      → map (λ end. end.seat.caller) ends ≡ range_with_len account more
      → AllByRecursion (λ end. entries_of account_of end.seat.caller chain ≡ end.seat.own) ends
      → AllByRecursion (EndStands rules) ends
      → AreOpened rules first user account (map started_of ends)
      → AreBooksClean rules images user account (map (λ end. end.book) ends)
      → HaveEnded rules (length chain) user now account (map (λ end. end.book) ends)
  ends_ended now here [] account more are recalls stand opened clean = tt
  ends_ended now here (end ∷ ends) account zero are recalls stand opened clean = absurd (subst HasSome are tt)
  ends_ended now here (end ∷ ends) account (suc more) are recalls stand opened clean =
      let led = here account in (
        (
          end.after,
          ends-led (meaning_of rules) account chain end.early end.own end.start end.after (first account) (now account)
              led.seen (user account) end.book stand.0.book_stands
              (parts_in_chain rules chain account end (ap (head_or 0) are) recalls.0 stand.0)
              opened.0 (clean.0 led.seen led.parts) small led.led,
        ),
        ends_ended now here ends (account + 1) more (ap rest_of are) recalls.1 stand.1 opened.1 clean.1,
      )

-- the books of all accounts settle
pub settles : {C D U T X : Type 0} (rules : Rules C D U T X) (shared : LockId) (accounts : List ℕ)
    (clients : List (SeatView (Entry T))) (starts : List (Started X)) (old books : List (List (Entry T))) (seat : SeatView Step) (chain : List Step) (first now : ByAccount C)
    (images images_now : ByAccount C → Type 0)
    → Closes rules shared accounts clients starts old books (Some seat)
    → old ≡ []
    → accounts ≡ range_with_len 0 shared.callers
    → Recalls account_of chain seat
    → Recovers (meaning_of rules) first now images chain
    → ((image : ByAccount C) → images_now image → (account : ℕ)
    → IsLedIn (meaning_of rules) images chain account (first account) (image account))
    → Settles rules starts first now images images_now chain books
settles {C} {D} {U} {T} {X} rules shared accounts clients starts old books seat chain first now images images_now closes
    none numbers recalls recovers lasts =
    let ends : List (End T X) = closes.ends in
    let books_are : books ≡ map (λ end. end.book) ends =
    closes.books_are ∙ ap (λ bs. bs ++ map (λ (end : End T X). end.book) ends) none in
    let are : map (λ end. end.seat.caller) ends ≡ range_with_len 0 shared.callers =
    sym closes.accounts_are ∙ numbers in
    let known = recalls_ends shared chain ends seat recalls closes.knows in
    let end : (user : ℕ → U) (image : ByAccount C)
    → ((account : ℕ) → IsLedIn (meaning_of rules) images chain account (first account) (image account))
    → AreOpened rules first user 0 starts
    → AreBooksClean rules images user 0 books
    → length chain < 2 ^ 64
    → HaveEnded rules (length chain) user image 0 books =
    λ user image led opened clean small.
    subst (HaveEnded rules (length chain) user image 0) (sym books_are)
    (ends_ended rules chain images user first small image led ends 0 shared.callers are known
    closes.stand (subst (AreOpened rules first user 0) closes.starts_are opened)
    (subst (AreBooksClean rules images user 0) books_are clean)) in
    record {
      at_one_place = λ user opened clean small image is.
          let left = recovers.image image is in (
            left.0,
            left.1.within,
            subst (AreAt rules left.0 user image 0) (sym books_are)
                (ends_at rules chain images user first small left.0 image left.1 ends 0 shared.callers are known
                closes.stand (subst (AreOpened rules first user 0) closes.starts_are opened)
                (subst (AreBooksClean rules images user 0) books_are clean)),
          );
      ended = λ user opened clean small. end user now recovers.now_is opened clean small;
      lasts = λ user opened clean small image may. end user image (lasts image may) opened clean small;
    }

-- the books of all accounts moved by their own steps
pub moved_books : {C D U T X : Type 0} (rules : Rules C D U T X) (shared : LockId) (accounts : List ℕ)
    (clients : List (SeatView (Entry T))) (starts : List (Started X)) (old books : List (List (Entry T)))
    (seat : SeatView Step) (chain : List Step)
    → Closes rules shared accounts clients starts old books (Some seat)
    → old ≡ []
    → accounts ≡ range_with_len 0 shared.callers
    → Recalls account_of chain seat
    → AreMoved rules.moves chain 0 starts books
moved_books {C} {D} {U} {T} {X} rules shared accounts clients starts old books seat chain closes none numbers recalls =
    let ends : List (End T X) = closes.ends in
    let books_are : books ≡ map (λ end. end.book) ends =
    closes.books_are ∙ ap (λ bs. bs ++ map (λ (end : End T X). end.book) ends) none in
    subst (λ bs. AreMoved rules.moves chain 0 starts bs) (sym books_are)
    (subst (λ xs. AreMoved rules.moves chain 0 xs (map (λ (end : End T X). end.book) ends)) (sym closes.starts_are)
    (ends_moved rules chain ends 0 shared.callers (sym closes.accounts_are ∙ numbers)
    (recalls_ends shared chain ends seat recalls closes.knows) closes.stand))

-- what the clients knew are their entries in the books
recalled_ends : {T X : Type 0} (ends : List (End T X))
    → AllByRecursion (λ end. Recalls client_of end.book end.client) ends
    → AreRecalled (map (λ end. end.client) ends) (map (λ end. end.book) ends)
recalled_ends [] recalled = tt
recalled_ends (end ∷ ends) recalled = (recalled.0, recalled_ends ends recalled.1)

pub recalled_books : {C D U T X : Type 0} (rules : Rules C D U T X) (shared : LockId) (accounts : List ℕ)
    (clients : List (SeatView (Entry T))) (starts : List (Started X)) (old books : List (List (Entry T)))
    (seat : Option (SeatView Step))
    → Closes rules shared accounts clients starts old books seat
    → old ≡ []
    → AreRecalled clients books
recalled_books {C} {D} {U} {T} {X} rules shared accounts clients starts old books seat closes none =
    let ends : List (End T X) = closes.ends in
    let books_are : books ≡ map (λ end. end.book) ends =
    closes.books_are ∙ ap (λ bs. bs ++ map (λ (end : End T X). end.book) ends) none in
    subst (λ bs. AreRecalled clients bs) (sym books_are)
    (subst (λ cs. AreRecalled cs (map (λ (end : End T X). end.book) ends)) (sym closes.clients_are)
    (recalled_ends ends closes.recalled))
