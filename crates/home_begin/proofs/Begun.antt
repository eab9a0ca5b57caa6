-- Accounts that were opened, as a home begins and ends with them.
use Rattle.std.proofs.Common.{◌≡◌, ℕ, zero, suc, ◌+◌, ◌<◌, ◌≤◌, Bool, true, false, List, [], ◌∷◌, ◌++◌, map, length, get_or, Option, None, Some, Result, Ok, refl, sym, ap, ◌∙◌, subst, append_assoc, arith, true≢false}
use Rattle.std.specs.Prelude.{IsTrue, is_some}
use Rattle.std.specs.List.{AllByRecursion, list_all}
use Rattle.std.proofs.lemmas.Bool.{and_parts}
use Rattle.std.proofs.lemmas.List.{length-append, length-map}
use Rattle.account_machine.specs.User.{opened}
use Rattle.account_machine.specs.declared.user.Durable.{Durable}
use Rattle.home_names.specs.Names.{is_account_name}
use Rattle.image_path.specs.Showing.{ByAccount}
use Rattle.pw_types.specs.declared.era.Era.{Era}
use Rattle.share_api.specs.Contents.{Bytes}
use Rattle.share_api.specs.Places.{steps_of}
use Rattle.share_api.specs.declared.step.Step.{Step}
use Rattle.stored_home.specs.declared.fault.StoreFault.{StoreFault}
use Rattle.turn_lock.specs.Seats.{LockId, SeatView, new_seat}
use Rattle.platform_lock.specs.Devices.{DeviceSeen, HasAccount, owner_at}
use Rattle.platform_lock.specs.Seats.{AccountView}
use Rattle.home_locks.specs.Accounts.{IsPlaced, Started, started_at}
use Rattle.home_locks.specs.Settled.{AreOpened}
use Rattle.home_image.specs.Settled.{Opens}
use Rattle.home_locks.specs.Meanings.{meaning_of}
use Rattle.turn_meaning.specs.Meanings.{HoldsPart, Part, part_of, user_rules}
use Rattle.turn_meaning.specs.Openings.{OpensPart}
use Rattle.turn_meaning.proofs.OpeningParts.{opening_stands}
use Rattle.user_accounts.specs.Ready.{IsReadyFor}
use Rattle.user_opening.specs.Opens.{opened_state}
use Rattle.user_state.specs.declared.state.UserState.{UserState}
use Rattle.share_api.specs.Conditions.{IsOf}
use Rattle.home_seats.specs.Seats.{IsOpenLock, LockSeen}
use Rattle.home_opening.specs.Locks.{AccountSeen}
use Rattle.home_opening.specs.Opened.{AreOpenedFrom, AreOwners, IsOpenedAt, first_share, generator_of}
use Rattle.home_opening.specs.declared.opening.Opening.{Opening}
use Rattle.user_home.specs.Ending.{AreAccountLocks}

-- ---- the accounts of a device

abbrev value_or : Bytes → Option Bytes → Bytes
value_or other None = other
value_or other (Some name) = name

owner_there : (before names : List Bytes) (name : Bytes)
    → get_or (map (λ (account : Bytes). Some account) (before ++ name ∷ names)) (length before) None ≡ Some name
owner_there [] names name = refl
owner_there (x ∷ before) names name = owner_there before names name

-- a device whose accounts these are has them, behind others
pub are_owners : (device : DeviceSeen) (before names : List Bytes) (account : ℕ)
    → account ≡ length before
    → device.owners ≡ map (λ (account : Bytes). Some account) (before ++ names)
    → IsTrue (list_all is_account_name names)
    → AreOwners device account names
are_owners device before [] account is owners plain = tt
are_owners device before (name ∷ names) account is owners plain =
    let here = and_parts (is_account_name name) (list_all is_account_name names) plain in
    let long : length device.owners ≡ length before + suc (length names) =
    ap length owners ∙ length-map (before ++ name ∷ names) _ ∙ length-append before (name ∷ names) in (
      record {
        has = omega (arith, long, is);
        owner = (λ i. get_or (owners i) (is i) None) ∙ owner_there before names name;
        plain = here.0;
      },
      are_owners device (before ++ name ∷ []) names (account + 1)
          (let more = length-append before (name ∷ []) in omega (arith, more, is))
          (owners ∙ ap (map (λ (account : Bytes). Some account)) (sym (append_assoc before (name ∷ []) names)))
          here.1,
    )

-- an account has the name that its number has
pub named_at : (accounts : List Bytes) (n : ℕ) (name : Bytes)
    → get_or (map (λ (account : Bytes). Some account) accounts) n None ≡ Some name → get_or accounts n [] ≡ name
named_at [] zero name is = absurd (true≢false (sym (ap is_some is)))
named_at [] (suc n) name is = absurd (true≢false (sym (ap is_some is)))
named_at (x ∷ accounts) zero name is = ap (value_or x) is
named_at (x ∷ accounts) (suc n) name is = named_at accounts n name is

-- ---- a home that can be served

module _ (device : DeviceSeen) (shared : LockId) (opening : Opening) where
  -- there is a lock for each name
  pub as_many : (account : ℕ) (names : List Bytes) (locks : List LockSeen)
      → AreOpenedFrom device shared opening account names locks
      → length locks ≡ length names
  as_many account [] [] opened = refl
  as_many account [] (at ∷ locks) opened = absurd opened
  as_many account (name ∷ names) [] opened = absurd opened
  as_many account (name ∷ names) (at ∷ locks) opened = ap suc (as_many (account + 1) names locks opened.1)

  -- and an account
  pub accounts_many : {X : Type 0} (f : X → AccountSeen) (names : List Bytes) (xs : List X)
      → AreOpenedFrom device shared opening 0 names (map (λ (seen : AccountSeen). seen.at) (map f xs))
      → length xs ≡ length names
  accounts_many f names xs opened =
      sym (length-map (map f xs) (λ (seen : AccountSeen). seen.at) ∙ length-map xs f) ∙ as_many 0 names _ opened

  -- a turn can begin at the lock of an account that was opened
  open_lock : (account : ℕ) (name : Bytes) (at : LockSeen) → IsOpenedAt device shared opening account name at
      → IsOpenLock device shared at.era at.seat at.state
  open_lock account name at opened =
      let start = opened.of.start in
      let opens = opened.opened.opens in
      let caller : start.seat.caller ≡ account = ap (λ (seat : SeatView Step). seat.caller) opened.of.start_of in
      let named : at.state.account ≡ name = ap (λ (state : UserState). state.account) opens.state in
      record {
        placed = subst (λ (seat : Option AccountView). IsPlaced IsReadyFor device shared seat at.state)
            (sym opened.of.start_is) (
              ap (λ (seat : SeatView Step). seat.lock) opened.of.start_of,
              subst (HasAccount device) (sym caller) opened.owner.has,
              record {
                steady = opens.steady;
                own = subst (λ (owner : Option Bytes). IsOf owner at.state.account)
                    (sym (ap (owner_at device) caller ∙ opened.owner.owner)) named;
                lost_is = opens.lost;
              },
            );
        era_is = opened.of.era_is;
      }

  pub open_locks : (account : ℕ) (names : List Bytes) (locks : List LockSeen)
      → AreOpenedFrom device shared opening account names locks
      → AllByRecursion (λ at. IsOpenLock device shared at.era at.seat at.state) locks
  open_locks account [] [] opened = tt
  open_locks account [] (at ∷ locks) opened = absurd opened
  open_locks account (name ∷ names) [] opened = absurd opened
  open_locks account (name ∷ names) (at ∷ locks) opened =
      (open_lock account name at opened.0, open_locks (account + 1) names locks opened.1)

  -- ---- a home that can end

  -- the locks are those of the accounts, in order
  pub account_locks : (account : ℕ) (names : List Bytes) (locks : List LockSeen)
      → AreOpenedFrom device shared opening account names locks
      → AreAccountLocks shared device.era opening.clients account locks
  account_locks account [] [] opened = tt
  account_locks account [] (at ∷ locks) opened = absurd opened
  account_locks account (name ∷ names) [] opened = absurd opened
  account_locks account (name ∷ names) (at ∷ locks) opened =
      (opened.0.of, account_locks (account + 1) names locks opened.1)

  -- ---- accounts that are opened with what their parts hold

  module _ (parts : ByAccount Part) (durable : ℕ → Durable) where
    -- the account's first steps open the user with the durable part that it holds
    opens_account : (account : ℕ) (name : Bytes) (at : LockSeen) → IsOpenedAt device shared opening account name at
        → (parts account).account ≡ name
        → (parts account).lost ≡ false
        → device.lost ≡ None
        → HoldsPart (parts account) (durable account)
        → Opens (meaning_of (user_rules device.era)) (started_at at.seat at.state).state
        (steps_of (started_at at.seat at.state).own) (parts account) (opened (durable account) opening.moment)
    opens_account account name at is named there none holds =
        let old = first_share device shared account in
        let made = opening_stands old is.opened.after name opening.cost opening.moment
        (generator_of opening.entropy.now name) (Ok at.state) is.opened.opens in
        let lost : (parts account).lost ≡ is_some device.lost =
        there ∙ ap is_some (sym none) in
        let right = made.right (parts account) (durable account) named lost holds in
        let own : made.own ≡ is.of.start.seat.own = sym made.steps.own_is ∙ is.opened.own_is in
        subst (λ (seat : Option AccountView). Opens (meaning_of (user_rules device.era))
        (started_at seat at.state).state (steps_of (started_at seat at.state).own) (parts account)
        (opened (durable account) opening.moment)) (sym is.of.start_is)
        (subst (λ (steps : List (ℕ × Step)). Opens (meaning_of (user_rules device.era)) at.state (steps_of steps)
        (parts account) (opened (durable account) opening.moment)) own right.opens)

    pub accounts_open : (account : ℕ) (names : List Bytes) (locks : List LockSeen)
        → AreOpenedFrom device shared opening account names locks
        → device.lost ≡ None
        → ((n : ℕ) (name : Bytes) → owner_at device n ≡ Some name → (parts n).account ≡ name)
        → ((n : ℕ) → (parts n).lost ≡ false)
        → ((n : ℕ) → n < account + length names → HoldsPart (parts n) (durable n))
        → AreOpened (user_rules device.era) parts (λ n. opened (durable n) opening.moment) account
        (map (λ (at : LockSeen). started_at at.seat at.state) locks)
    accounts_open account [] [] is none named there holds = tt
    accounts_open account [] (at ∷ locks) is none named there holds = absurd is
    accounts_open account (name ∷ names) [] is none named there holds = absurd is
    accounts_open account (name ∷ names) (at ∷ locks) is none named there holds = (
      opens_account account name at is.0 (named account name is.0.owner.owner) (there account) none
          (holds account (omega arith)),
      accounts_open (account + 1) names locks is.1 none named there
          (λ n below. holds n (omega (arith, below))),
    )
