-- The value behind an account's lock after a turn.
use Rattle.std.proofs.Common.{◌≡◌, ℕ, ◌+◌, ◌%◌, ◌^◌, Bool, true, false, length, List, [], ◌∷◌, ◌++◌, Option, None, Some, refl, sym, ap, ◌∙◌, subst, append_assoc, append-nil}
use Rattle.std.proofs.lemmas.List.{length-append}
use Rattle.std.specs.Prelude.{◌==◌, if◌then◌else◌, IsSomeAnd}
use Rattle.std.specs.List.{AllByRecursion}
use Rattle.home_image.proofs.BookLemmas.{stands-turn}
use Rattle.pw_types.specs.declared.era.Era.{Era}
use Rattle.share_api.specs.Places.{place_after}
use Rattle.share_api.specs.declared.step.Step.{Step}
use Rattle.share_api.proofs.RunLaws.{place_turn}
use Rattle.turn_lock.specs.Lists.{entries_from}
use Rattle.turn_lock.specs.Seats.{SeatView, LockId, Recalls, seat_after}
use Rattle.platform_lock.specs.Devices.{DeviceSeen, HasAccount, owner_at}
use Rattle.platform_lock.specs.Seats.{AccountView, ShareView, new_share, seen_of, own_at, IsSameShare}
use Rattle.home_locks.specs.Meanings.{Rules, client_of, meaning_of}
use Rattle.home_locks.specs.Turns.{ActStands, made_of}
use Rattle.home_locks.specs.Moves.{EntryMoves, BookMoves}
use Rattle.home_locks.specs.Accounts.{AccountStands, AddsTurn, StandsAt, Readiness, StaysReady, IsPlaced}
use Rattle.home_locks.specs.declared.account.Entry.{Entry}

abbrev value_or : {A : Type 0} → A → Option A → A
value_or a None = a
value_or a (Some b) = b

-- an option has one value
pub one_value : {A : Type 0} (a b : A) (o : Option A) → o ≡ Some a → o ≡ Some b → a ≡ b
one_value a b o p q = ap (value_or a) (sym p ∙ q)

-- A turn can begin with the state that the account has now, over the share of its seat.
pub account_ready : {C D U T X : Type 0} (rules : Rules C D U T X) (ready : Readiness X) (device : DeviceSeen)
    (lock : LockId) (first now : Option AccountView) (start state : X) (own : AccountView) (share : ShareView)
    (book : List (Entry T))
    → IsPlaced ready device lock first start
    → AccountStands rules ready first start now state book
    → now ≡ Some own
    → share ≡ new_share device own
    → ready (seen_of share).owner (seen_of share).lost state
account_ready rules ready device lock first now start state own share book placed stands had made =
    let of_start = subst (λ f. IsSomeAnd f (λ (o : AccountView). (o.seat.lock ≡ lock)
    × HasAccount device o.seat.caller × ready (owner_at device o.seat.caller) device.lost start)) stands.start_is placed in
    let caller_is : own.seat.caller ≡ stands.start.seat.caller =
    ap (λ (o : AccountView). o.seat.caller) (one_value own stands.seat now had stands.seat_is)
    ∙ ap (λ (s : SeatView Step). s.caller) stands.same in
    subst (λ (s : ShareView). ready (seen_of s).owner (seen_of s).lost state) (sym made)
    (subst (λ caller. ready (owner_at device caller) device.lost state) (sym caller_is)
    (stands.stays_ready (owner_at device stands.start.seat.caller) device.lost of_start.2))

-- an entry more, behind those of a book
moves_turn : {T X : Type 0} (moves : X → T → List Step → X → Type 0) (first before after : X)
    (own made : List (ℕ × Step)) (book : List (Entry T)) (entry : Entry T)
    → BookMoves moves first own book before
    → EntryMoves moves before made entry after
    → BookMoves moves first (own ++ made) (book ++ entry ∷ []) after
moves_turn moves first before after own made [] entry none turn = (
  made,
  [],
  after,
  ap (λ xs. xs ++ made) none.0 ∙ sym (append-nil made),
  subst (λ state. EntryMoves moves state made entry after) none.1 turn,
  (refl, refl),
)
moves_turn moves first before after own made (e ∷ book) entry more turn = (
  more.0,
  more.1 ++ made,
  more.2,
  ap (λ xs. xs ++ made) more.3 ∙ append_assoc more.0 more.1 made,
  more.4,
  moves_turn moves more.2 before after more.1 made book entry more.5 turn,
)

-- The account stands with the turn's entry: its seat knows the turn's steps behind those that it knew.
pub account_turn : {C D U T X : Type 0} (rules_at : Era → Rules C D U T X) (ready : Readiness X) (era : Era)
    (device : DeviceSeen) (first old new : Option AccountView) (start before after : X) (own own_new : AccountView)
    (share share_new : ShareView) (client place : ℕ) (turn : T) (book : List (Entry T))
    → AccountStands (rules_at era) ready first start old before book
    → era ≡ device.era
    → old ≡ Some own
    → share ≡ new_share device own
    → IsSameShare share share_new
    → share_new.seat ≡ Some own_new.seat
    → new ≡ Some own_new
    → place ≡ share_new.place
    → ActStands (rules_at (seen_of share).era) before after turn (seen_of share) (seen_of share_new)
    → StaysReady ready before after
    → AccountStands (rules_at era) ready first start new after
    (book ++ record { client = client; turn = turn; place = place } ∷ [])
account_turn rules_at ready era device first old new start before after own own_new share share_new client place turn book
    stands era_is had made goes kept now at acted readily =
    let m = meaning_of (rules_at era) in
    let act = subst (λ e. ActStands (rules_at e) before after turn (seen_of share) (seen_of share_new))
    (ap (λ (s : ShareView). s.device.era) made ∙ sym era_is) acted in
    let entry : Entry _ = record { client = client; turn = turn; place = place } in
    let was : share.seat ≡ Some own.seat = ap (λ s. s.seat) made in
    let had_is : own ≡ stands.seat = one_value own stands.seat old had stands.seat_is in
    let after_is = goes.1 own.seat was in
    let seat_is : own_new.seat ≡ after_is.0 =
    one_value own_new.seat after_is.0 share_new.seat kept after_is.1 in
    let own_is : own_new.seat.own ≡ stands.seat.seat.own ++ act.own =
    sym (ap own_at kept) ∙ act.steps.own_is ∙ ap (λ s. own_at s ++ act.own) was
    ∙ ap (λ (o : AccountView). o.seat.own ++ act.own) had_is in
    let place_is = at ∙ act.steps.place ∙ ap (λ (s : ShareView). place_after s.place act.own) made
    ∙ place_turn act.own in
    record {
      start = stands.start;
      seat = own_new;
      start_is = stands.start_is;
      seat_is = now;
      same = seat_is ∙ after_is.2
          ∙ ap (λ (s : SeatView Step). record s { own = after_is.0.own })
          (ap (λ (o : AccountView). o.seat) had_is ∙ stands.same)
          ∙ ap (λ (s : SeatView Step). record stands.start.seat { own = s.own }) (sym seat_is);
      own = stands.own ++ act.own;
      own_is = own_is ∙ ap (λ xs. xs ++ act.own) stands.own_is ∙ append_assoc stands.start.seat.own stands.own act.own;
      book_stands = stands-turn m start before after stands.own book (made_of client turn place act.own)
          stands.book_stands
          (record {
            place = place_is;
            right = act.right client place;
          });
      moves = moves_turn (rules_at era).moves start before after stands.own act.own book entry stands.moves
          (record { place = place_is; moved = act.moved });
      stays_ready = λ owner lost is. readily owner lost (stands.stays_ready owner lost is);
    }

-- a seat after a turn has its entry behind the others
pub adds_turn : {Q T A : Type 0} (tells : Q → T → A → Type 0) (old held new : SeatView (Entry T))
    (before : List (Entry T)) (entry : Entry T) (asked : Q) (told : A) (at : ℕ)
    → held ≡ old
    → entry.client ≡ old.caller
    → tells asked entry.turn told
    → new ≡ seat_after held before entry
    → at ≡ length before % 2 ^ 64
    → AddsTurn tells old new asked told at
adds_turn tells old held new before entry asked told at same client turn left place = record {
  place = length before;
  entry = entry;
  client = client;
  turn = turn;
  place_is = place;
  own = left ∙ ap (λ (s : SeatView (Entry _)). seat_after s before entry) same;
}

-- each entry of a caller in the list stands at its place, behind those in front
entries_stand : {E : Type 0} (caller_of : E → ℕ) (caller : ℕ) (front es : List E)
    → AllByRecursion (λ known. StandsAt (front ++ es) known.0 known.1) (entries_from caller_of (length front) caller es)
entries_stand caller_of caller front [] = tt
entries_stand {E} caller_of caller front (e ∷ es) =
    with_first (caller_of e == caller) (others (entries_stand caller_of caller (front ++ e ∷ []) es))
  where
    behind : length (front ++ e ∷ []) ≡ length front + 1
    behind = length-append front (e ∷ [])

    -- those of the rest stand behind the first
    others : AllByRecursion (λ known. StandsAt ((front ++ e ∷ []) ++ es) known.0 known.1)
        (entries_from caller_of (length (front ++ e ∷ [])) caller es)
        → AllByRecursion (λ known. StandsAt (front ++ e ∷ es) known.0 known.1)
        (entries_from caller_of (length front + 1) caller es)
    others rest = subst
        (λ (n : ℕ). AllByRecursion (λ known. StandsAt (front ++ e ∷ es) known.0 known.1) (entries_from caller_of n caller es))
        behind
        (subst (λ (book : List E). AllByRecursion (λ known. StandsAt book known.0 known.1)
        (entries_from caller_of (length (front ++ e ∷ [])) caller es)) (append_assoc front (e ∷ []) es) rest)

    with_first : (b : Bool)
        → AllByRecursion (λ known. StandsAt (front ++ e ∷ es) known.0 known.1)
        (entries_from caller_of (length front + 1) caller es)
        → AllByRecursion (λ known. StandsAt (front ++ e ∷ es) known.0 known.1)
        ((if b then (length front, e) ∷ [] else []) ++ entries_from caller_of (length front + 1) caller es)
    with_first true rest = (record { before = front; after = es; book_is = refl; place_is = refl }, rest)
    with_first false rest = rest

-- what a seat knows of its turns is in the book
pub own_stands : {T : Type 0} (book : List (Entry T)) (seat : SeatView (Entry T))
    → Recalls client_of book seat → AllByRecursion (λ known. StandsAt book known.0 known.1) seat.own
own_stands book seat recalls = subst (AllByRecursion (λ known. StandsAt book known.0 known.1)) recalls.own
    (entries_stand client_of seat.caller [] book)
