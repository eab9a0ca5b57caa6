-- What stays of the rule when one seat changes.
use Rattle.std.proofs.Common.{◌≡◌, ◌≢◌, ℕ, zero, suc, ◌+◌, ◌^◌, ◌<◌, ◌≤◌, List, [], ◌∷◌, length, set, sym, refl, ap, ◌∙◌, subst, ⊎_elim, arith, Option}
use mathlib.Core.Logic.{dite}
use mathlib.Core.Option.{some, some-injective, some-ne-none}
use native.Mathlib.Decide.{ℕ_discrete, dec_le}
use lib.ListN.{get_elem?}
use Rattle.atomic_table.specs.Table.{State}
use Rattle.atomic_table.proofs.Lists.{at_set, set_else}
use Rattle.turn_lock.specs.declared.table.Content.{Content}
use Rattle.turn_lock.specs.declared.table.SeatState.{SeatState}
use Rattle.turn_lock.specs.declared.table.Stage.TheVariants.{Serving}
use Rattle.std.specs.List.{sum_by}
use Rattle.turn_lock.specs.Lists.{count_of}
use Rattle.turn_lock.specs.Rule.{out, ticket, numbers, HaveOwnTickets, count_in, ShareNumbers, Homes, IsHome, IsAway, HoldsOf}
use Rattle.turn_lock.proofs.Sums.{sum_by-set_same, sum_by-le_each}
use Rattle.turn_lock.proofs.Stages.{out-le-numbers}

pub get-set_here : {A : Type 0} (xs : List A) (i : ℕ) (x y : A)
    → get_elem? xs i ≡ some x → get_elem? (set xs i y) i ≡ some y
get-set_here [] i x y at = absurd (some-ne-none x (sym at))
get-set_here (z ∷ zs) zero x y at = refl
get-set_here (z ∷ zs) (suc i) x y at = get-set_here zs i x y at

-- the seat id, as it was and as it becomes
module _ {E : Type 0} (seats : List (SeatState E)) (id : ℕ) (was is : SeatState E) where
  -- a fact of each seat
  pub each_stays : (P : SeatState E → Type 0)
      → P is
      → ((j : ℕ) (seat : SeatState E) → j ≢ id → get_elem? seats j ≡ some seat → P seat)
      → (j : ℕ) (seat : SeatState E)
      → get_elem? (set seats id is) j ≡ some seat
      → P seat
  each_stays P here others j seat at = ⊎_elim
      (λ (mine : (j ≡ id) × (is ≡ seat)). subst P mine.1 here)
      (λ (other : (j ≢ id) × (get_elem? seats j ≡ some seat)). others j seat other.0 other.1)
      (at_set seats id j is seat at)

  -- the tickets, where that of the seat is no other's
  pub apart_stays : HaveOwnTickets seats
      → ((j : ℕ) (other : SeatState E)
      → j ≢ id
      → get_elem? seats j ≡ some other
      → 0 < out is
      → 0 < out other
      → ticket is ≢ ticket other)
      → HaveOwnTickets (set seats id is)
  apart_stays were mine i j one other apart at there = ⊎_elim
      (λ (here : (i ≡ id) × (is ≡ one)). ⊎_elim
      (λ (both : (j ≡ id) × (is ≡ other)). absurd (apart (here.0 ∙ sym both.0)))
      (λ (away : (j ≢ id) × (get_elem? seats j ≡ some other)).
      subst (λ (z : SeatState E). 0 < out z → 0 < out other → ticket z ≢ ticket other)
      here.1 (mine j other away.0 away.1)) (at_set seats id j is other there))
      (λ (far : (i ≢ id) × (get_elem? seats i ≡ some one)). ⊎_elim
      (λ (here : (j ≡ id) × (is ≡ other)).
      subst (λ (z : SeatState E). 0 < out one → 0 < out z → ticket one ≢ ticket z)
      here.1 (λ one_out is_out same. mine i one far.0 far.1 is_out one_out (sym same)))
      (λ (away : (j ≢ id) × (get_elem? seats j ≡ some other)).
      were i j one other apart far.1 away.1) (at_set seats id j is other there))
      (at_set seats id i is one at)

  module _ (at : get_elem? seats id ≡ some was) where
    -- whose number is which, where the seat keeps its numbers
    pub owners_stay : (callers : ℕ)
        → numbers is ≡ numbers was
        → ShareNumbers callers seats
        → ShareNumbers callers (set seats id is)
    owners_stay callers same share number =
        let kept = sum_by-set_same (λ seat. count_of number (numbers seat)) seats id was is at
        (ap (count_of number) same) in
        ((λ below. kept ∙ (share number).0 below), λ above. kept ∙ (share number).1 above)

    -- how many numbers there are, likewise
    pub many_stays : numbers is ≡ numbers was
        → sum_by (λ seat. length (numbers seat)) (set seats id is)
        ≡ sum_by (λ seat. length (numbers seat)) seats
    many_stays same = sum_by-set_same (λ seat. length (numbers seat)) seats id was is at
        (ap length same)

    -- the value is out with the seat that it was out with, where that one is still served
    pub away_stays : {T : Type 0} (entries : List E) (homes : Homes T E)
        → (was.stage ≡ Serving entries → is.stage ≡ Serving entries)
        → IsAway entries homes seats
        → IsAway entries homes (set seats id is)
    away_stays entries homes still away = (away.0, (j, dite (ℕ_discrete j id) here there))
      where
        j : ℕ
        j = away.1.0

        served : SeatState E
        served = away.1.1.0

        IsThere : Type 0
        IsThere = (seat : SeatState E)
            × (get_elem? (set seats id is) j ≡ some seat) × (seat.stage ≡ Serving entries)

        here : j ≡ id → IsThere
        here same =
            let it : was ≡ served = some-injective was served
            (sym at ∙ (ap (get_elem? seats) (sym same) ∙ away.1.1.1)) in
            let found = ap (get_elem? (set seats id is)) same ∙ get-set_here seats id was is at in
            (is, found, still (ap (λ (z : SeatState E). z.stage) it ∙ away.1.1.2))

        there : j ≢ id → IsThere
        there other = (served, set_else seats id j is other ∙ away.1.1.1, away.1.1.2)

-- what follows from the rule
module _ {T E : Type 0} (caller_of : E → ℕ) (means : T → List E → Type 0) (callers : ℕ)
    (s : State (Option (Content T E)) (SeatState E))
    (rule : HoldsOf caller_of means callers s) where
  -- no number belongs to two seats
  pub count_in-le-one : (number : ℕ) → count_in number s.views ≤ 1
  count_in-le-one number = dite (dec_le callers number)
      (λ above. let none = (rule.owners number).1 above in omega arith)
      (λ below. let one = (rule.owners number).0 (omega arith) in omega arith)

  -- fewer tickets are out than the words can tell apart
  pub drawn-lt : rule.drawn < length rule.entries + 2 ^ 64
  drawn-lt =
      let out_of_numbers = sum_by-le_each out (λ (seat : SeatState E). length (numbers seat)) s.views
      (λ j seat at. out-le-numbers seat (rule.seats j seat at).1) in
      let many = rule.many in
      let few = rule.few in
      let tickets = rule.tickets in omega arith

  -- the slot is one
  pub one_slot : (content : Option (Content T E)) → set s.homes 0 (some content) ≡ some content ∷ []
  one_slot content = ⊎_elim
      (λ (home : IsHome means rule.entries s.homes).
      ap (λ (homes : Homes T E). set homes 0 (some content)) home.1)
      (λ (away : IsAway rule.entries s.homes s.views).
      ap (λ (homes : Homes T E). set homes 0 (some content)) away.0)
      rule.slot
