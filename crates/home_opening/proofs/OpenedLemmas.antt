-- Accounts that were opened.
use Rattle.std.proofs.Common.{◌≡◌, ℕ, ⊎_elim, inl, inr, List, [], ◌∷◌, ◌++◌, map, take, drop, length, Option, None, Some, Result, Ok, Err, refl, sym, ap, ◌∙◌, subst, arith}
use Rattle.share_api.specs.Contents.{Bytes}
use Rattle.share_api.specs.Places.{steps_of}
use Rattle.share_api.specs.Seen.{HasFailed}
use Rattle.share_api.specs.declared.step.Step.{Step}
use Rattle.stored_home.specs.declared.fault.StoreFault.{StoreFault}
use Rattle.stored_home.specs.declared.fault.StoreFault.TheVariants as stores
use Rattle.stored_home.specs.declared.stored.Stored.{Stored}
use Rattle.turn_lock.specs.Seats.{LockId, SeatView, new_seat}
use Rattle.platform_lock.specs.Devices.{DeviceSeen}
use Rattle.platform_lock.specs.Seats.{AccountView, ShareView, IsSameShare, new_share, seen_of, own_at}
use Rattle.user_opening.specs.Opens.{OpensUser}
use Rattle.user_state.specs.declared.state.UserState.{UserState}
use Rattle.pw_types.specs.declared.era.Era.{Era}
use Rattle.home_opening.specs.Locks.{AccountSeen, IsAccountLock, IsFirstSeat, AreNewLocks}
use Rattle.home_opening.specs.Numbers.{KnowsFailure, KnowsSteps}
use Rattle.home_seats.specs.Seats.{LockSeen}
use Rattle.home_opening.specs.Opened.{OpensAt, IsOwner, IsOpenedAt, AreOpenedFrom, IsRefused, KnowsOpenings, generator_of, told_fault}
use Rattle.home_opening.specs.declared.opening.Opening.{Opening}
use Rattle.home_opening.specs.declared.fault.HomeFault.{HomeFault}

abbrev value_or : {A : Type 0} → A → Option A → A
value_or a None = a
value_or a (Some b) = b

-- an option has one value
pub one_value : {A : Type 0} (a b : A) (o : Option A) → o ≡ Some a → o ≡ Some b → a ≡ b
one_value a b o p q = ap (value_or a) (sym p ∙ q)

-- a refusal stays one where another seat knows of the failed step, and of the account's
pub refused_for : (device : DeviceSeen) (shared : LockId) (opening : Opening) (fault : HomeFault)
    (seat other : SeatView Step)
    → (KnowsFailure seat → KnowsFailure other)
    → ((account : ℕ) (own : List (ℕ × Step)) → KnowsSteps seat account own → KnowsSteps other account own)
    → IsRefused device shared opening fault seat
    → IsRefused device shared opening fault other
refused_for device shared opening fault seat other knows kept refused =
    ⊎_elim inl (λ at. inr (record {
      account = at.account;
      name = at.name;
      owner = at.owner;
      own = at.own;
      known = kept at.account at.own at.known;
      store = at.store;
      opens = at.opens;
      fault_is = at.fault_is;
      failed = λ is. knows (at.failed is);
    })) refused

-- The account's share went on from its first one: its seat knows the steps of the opening.
pub opens_at : (device : DeviceSeen) (shared : LockId) (opening : Opening) (seat : SeatView Step) (own own_new : AccountView)
    (share share_new : ShareView) (name : Bytes) (result : Result UserState StoreFault)
    → seat ≡ new_seat shared seat.caller []
    → own ≡ record { seat = seat; faults = 0; spare = 0 }
    → share ≡ new_share device own
    → share_new.seat ≡ Some own_new.seat
    → OpensUser (seen_of share) (seen_of share_new) name opening.cost opening.moment
    (generator_of opening.entropy.now name) result
    → OpensAt device shared opening seat.caller name own_new.seat.own result
opens_at device shared opening seat own own_new share share_new name result new own_is made now opens = record {
  after = seen_of share_new;
  own_is = ap own_at now;
  opens = subst (λ (s : ShareView). OpensUser (seen_of s) (seen_of share_new) name opening.cost opening.moment
      (generator_of opening.entropy.now name) result)
      (made ∙ ap (new_share device) (own_is
      ∙ ap (λ (s : SeatView Step). record { seat = s; faults = 0; spare = 0 }) new)) opens;
}

-- and is the account's seat as before, but for what it knows
pub seat_kept : (device : DeviceSeen) (seat : SeatView Step) (own own_new : AccountView) (share share_new : ShareView)
    → own ≡ record { seat = seat; faults = 0; spare = 0 }
    → share ≡ new_share device own
    → IsSameShare share share_new
    → share_new.seat ≡ Some own_new.seat
    → own_new.seat ≡ record seat { own = own_new.seat.own }
seat_kept device seat own own_new share share_new own_is made goes now =
    let was : share.seat ≡ Some seat = ap (λ (s : ShareView). s.seat) made
    ∙ ap (λ (o : AccountView). Some o.seat) own_is in
    let after = goes.1 seat was in
    let is : own_new.seat ≡ after.0 = one_value own_new.seat after.0 share_new.seat now after.1 in
    is ∙ after.2 ∙ ap (λ (s : SeatView Step). record seat { own = s.own }) (sym is)

same_err : (a b : StoreFault) → a ≡ b → ◌≡◌ {A = Result Stored StoreFault} (Err a) (Err b)
same_err a b same = ap Err same

-- Where its store refused the account, the home is refused so, and the account's own seat knows the failed step.
pub refused_at : (device : DeviceSeen) (shared : LockId) (opening : Opening) (seat : SeatView Step) (name : Bytes)
    (store : StoreFault) (fault : HomeFault) (given : SeatView Step)
    → IsOwner device seat.caller name
    → given.caller ≡ seat.caller
    → OpensAt device shared opening seat.caller name given.own (Err store)
    → fault ≡ told_fault store
    → IsRefused device shared opening fault given
refused_at device shared opening seat name store fault given owner same opens is = inr (record {
  account = seat.caller;
  name = name;
  owner = owner;
  own = given.own;
  known = (0, omega arith, λ i. (same i, given.own));
  store = store;
  opens = opens;
  fault_is = is;
  failed = λ is.
      let recovers = opens.opens.recovers in
      inl (subst HasFailed
      (sym (ap steps_of (sym opens.own_is ∙ recovers.runs.own_is) ∙ recovers.runs.steps_are)) (recovers.fails
      (same_err store stores.Failed is)));
})

-- The seat that comes back knows the steps of the account's opening, and no others.
pub knows_own : (device : DeviceSeen) (shared : LockId) (opening : Opening) (seat : SeatView Step) (name : Bytes)
    (result : Result UserState StoreFault) (given : SeatView Step)
    → seat ≡ new_seat shared seat.caller []
    → given ≡ record seat { own = given.own }
    → IsOwner device seat.caller name
    → OpensAt device shared opening seat.caller name given.own result
    → KnowsOpenings device shared opening given
knows_own device shared opening seat name result given new kept owner opens =
    subst (KnowsOpenings device shared opening)
    (sym (kept ∙ ap (λ (s : SeatView Step). record s { own = given.own }) new)) (
      inr (record { name = name; owner = owner; result = result; opens = opens }),
      tt,
    )

-- a seat that is given back as it was knows nothing
pub knows_nothing : (device : DeviceSeen) (shared : LockId) (opening : Opening) (seat : SeatView Step) (caller : ℕ)
    (spare : List ℕ)
    → seat ≡ new_seat shared caller spare
    → KnowsOpenings device shared opening seat
knows_nothing device shared opening seat caller spare new =
    subst (KnowsOpenings device shared opening) (sym new) (inl refl, tt)

-- the account was opened, and put behind this lock
pub opened_at : (device : DeviceSeen) (shared : LockId) (opening : Opening) (seat : SeatView Step) (name : Bytes)
    (own : AccountView) (state : UserState) (at : LockSeen)
    → seat ≡ new_seat shared seat.caller []
    → own.seat ≡ record seat { own = own.seat.own }
    → IsOwner device seat.caller name
    → opening.era ≡ device.era
    → OpensAt device shared opening seat.caller name own.seat.own (Ok state)
    → at.seat ≡ Some own
    → at.state ≡ state
    → at.era ≡ opening.era
    → at.lock.callers ≡ opening.clients
    → IsOpenedAt device shared opening seat.caller name at
opened_at device shared opening seat name own state at new kept owner era opens seat_is state_is era_is callers = record {
  owner = owner;
  of = record {
    callers = callers;
    era_is = era_is ∙ era;
    start = own;
    start_is = seat_is;
    start_of = kept ∙ ap (λ (s : SeatView Step). record s { own = own.seat.own }) new;
  };
  opened = subst (λ (s : UserState). OpensAt device shared opening seat.caller name own.seat.own (Ok s))
      (sym state_is) opens;
}

-- ---- the first account, which is opened last

drop_front : {A : Type 0} (xs ys : List A) → drop (length xs) (xs ++ ys) ≡ ys
drop_front [] ys = refl
drop_front (x ∷ xs) ys = drop_front xs ys

take_front : {A : Type 0} (xs ys : List A) → take (length xs) (xs ++ ys) ≡ xs
take_front [] ys = refl
take_front (x ∷ xs) ys = ap (λ (rest : List _). x ∷ rest) (take_front xs ys)

-- the last element, moved to the front
pub rotated : {A : Type 0} (xs all new : List A) (x : A) (count : ℕ)
    → all ≡ xs ++ x ∷ []
    → count ≡ length xs
    → new ≡ drop count all ++ take count all
    → new ≡ x ∷ xs
rotated xs all new x count all_is count_is new_is =
    new_is ∙ (λ i. drop (count_is i) (all_is i) ++ take (count_is i) (all_is i))
    ∙ (λ i. drop_front xs (x ∷ []) i ++ take_front xs (x ∷ []) i)

-- all accounts were opened in order, where the others were and the first was
pub all_opened : (device : DeviceSeen) (shared : LockId) (opening : Opening) (account next : ℕ) (all names : List Bytes)
    (name : Bytes) (first : AccountSeen) (old accounts whole : List AccountSeen)
    → all ≡ name ∷ names
    → whole ≡ first ∷ accounts
    → old ≡ []
    → account ≡ 0
    → next ≡ 1
    → IsOpenedAt device shared opening account name first.at
    → (more : List AccountSeen) × (accounts ≡ old ++ more)
    × AreOpenedFrom device shared opening next names (map (λ seen. seen.at) more)
    → AreOpenedFrom device shared opening 0 all (map (λ seen. seen.at) whole)
all_opened device shared opening account next all names name first old accounts whole all_is whole_is none zero one opened
    others =
    let accounts_are : accounts ≡ others.0 = others.1 ∙ ap (λ (xs : List AccountSeen). xs ++ others.0) none in
    let whole_are : whole ≡ first ∷ others.0 = whole_is ∙ ap (λ (xs : List AccountSeen). first ∷ xs) accounts_are in
    subst (λ (ns : List Bytes). AreOpenedFrom device shared opening 0 ns (map (λ (s : AccountSeen). s.at) whole))
    (sym all_is)
    (subst (λ (xs : List AccountSeen). AreOpenedFrom device shared opening 0 (name ∷ names)
    (map (λ (s : AccountSeen). s.at) xs)) (sym whole_are) (
      subst (λ (n : ℕ). IsOpenedAt device shared opening n name first.at) zero opened,
      subst (λ (n : ℕ). AreOpenedFrom device shared opening n names
          (map (λ (s : AccountSeen). s.at) others.0)) one others.2,
    ))

-- so are their locks new
pub all_new : (shared : LockId) (era : Era) (clients account : ℕ) (first : AccountSeen) (accounts whole : List AccountSeen)
    → whole ≡ first ∷ accounts
    → IsAccountLock shared era clients account first.at
    → IsFirstSeat first.at.lock first.client
    → AreNewLocks shared era clients accounts
    → AreNewLocks shared era clients whole
all_new shared era clients account first accounts whole whole_is of seat new =
    subst (AreNewLocks shared era clients) (sym whole_is) (((account, of), seat), new)
