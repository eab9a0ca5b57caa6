-- A seat joins another: it keeps the other's numbers and entries, and the other is spent.
use Rattle.std.proofs.Common.{◌≡◌, ◌≢◌, ℕ, ◌+◌, ◌≤◌, Bool, true, true≢false, List, [], ◌∷◌, ◌++◌, map, length, set, sym, refl, ap, ◌∙◌, subst, ⊎_elim, inl, inr, arith, Option, length-append}
use mathlib.Core.List.{map-append}
use mathlib.Core.Option.{none, some}
use lib.ListN.{get_elem?}
use lib.Seq.{set-get_or}
use Rattle.atomic_table.specs.Table.{State, step, keeps, Allows, Joins}
use Rattle.atomic_table.proofs.Lists.{set_else, set_again}
use Rattle.turn_lock.specs.declared.table.Content.{Content}
use Rattle.turn_lock.specs.declared.table.SeatState.{SeatState}
use Rattle.turn_lock.specs.declared.table.Stage.TheVariants.{Idle}
use Rattle.turn_lock.specs.Lists.{count_of, entries_of}
use Rattle.turn_lock.specs.Rule.{out, out_at, numbers, numbers_if, IsSeatOf, HaveOwnTickets, ShareNumbers, IsAway, HoldsOf}
use Rattle.turn_lock.specs.Steps.{both_parts, spent_seat, Holder, CountedNumbers}
use Rattle.turn_lock.proofs.Sums.{sum_by-set_at, part-le-sum_by}
use Rattle.turn_lock.proofs.Counts.{count_of-append, all-append}
use Rattle.turn_lock.proofs.Stages.{idle_or_served}
use Rattle.turn_lock.proofs.Changes.{each_stays, apart_stays, away_stays, count_in-le-one}

-- the numbers of the seats that a seat joined
abbrev joined_numbers : {E : Type 0} → List (ℕ × List (ℕ × E)) → List ℕ
joined_numbers joined = map (λ known. known.0) joined

-- a measure of lists that adds up, as a count or the length
module _ (measure : List ℕ → ℕ)
    (adds : (xs ys : List ℕ) → measure (xs ++ ys) ≡ measure xs + measure ys) where
  sum_measure : (caller other : ℕ) (joined more spare added : List ℕ)
      → measure (caller ∷ ((joined ++ other ∷ more) ++ (spare ++ added)))
      ≡ measure (caller ∷ (joined ++ spare)) + measure (other ∷ (more ++ added))
  sum_measure caller other joined more spare added =
      let whole = adds (caller ∷ []) ((joined ++ other ∷ more) ++ (spare ++ added)) in
      let numbers = adds (joined ++ other ∷ more) (spare ++ added) in
      let all_joined = adds joined (other ∷ more) in
      let theirs_joined = adds (other ∷ []) more in
      let all_spare = adds spare added in
      let mine = adds (caller ∷ []) (joined ++ spare) in
      let my_numbers = adds joined spare in
      let theirs = adds (other ∷ []) (more ++ added) in
      let their_numbers = adds more added in omega arith

  module _ {E : Type 0} where
    -- the numbers of both count as they did apart
    pub measure-both : (caller other : ℕ) (own : List (ℕ × E))
        (joined more : List (ℕ × List (ℕ × E))) (spare added : List ℕ)
        → measure (caller ∷ (joined_numbers (joined ++ (other, own) ∷ more) ++ (spare ++ added)))
        ≡ measure (caller ∷ (joined_numbers joined ++ spare))
        + measure (other ∷ (joined_numbers more ++ added))
    measure-both caller other own joined more spare added =
        ap (λ (numbers : List ℕ). measure (caller ∷ (numbers ++ (spare ++ added))))
        (map-append (λ known. known.0) joined ((other, own) ∷ more))
        ∙ sum_measure caller other (joined_numbers joined) (joined_numbers more) spare added

    -- the seat has what the two had together
    measure-join : (seat other : SeatState E)
        → seat.live ≡ true
        → other.live ≡ true
        → measure (numbers (both_parts seat other))
        ≡ measure (numbers seat) + measure (numbers other)
    measure-join seat other live other_live = subst
        (λ (z : Bool × Bool). measure (numbers_if z.0 (both_parts seat other))
        ≡ measure (numbers_if z.0 seat) + measure (numbers_if z.1 other))
        (λ i. (sym live i, sym other_live i))
        (measure-both seat.caller other.caller other.own seat.joined other.joined
        seat.spare other.spare)

module _ {T E : Type 0} (caller_of : E → ℕ) (means : T → List E → Type 0) (callers : ℕ) where
  abbrev TableState : Type 0
  TableState = State (Option (Content T E)) (SeatState E)

  abbrev Rule : TableState → Type 0
  Rule = HoldsOf caller_of means callers

  module _ (seat other : SeatState E) (live : seat.live ≡ true) (other_live : other.live ≡ true)
      (idle : other.stage ≡ Idle)
      (id away : ℕ) (s : TableState) (rule : Rule s) (at : get_elem? s.views id ≡ some seat)
      (apart : away ≢ id)
      (there : get_elem? (set s.views id (both_parts seat other)) away ≡ some other) where
    abbrev both : SeatState E
    both = both_parts seat other

    abbrev between : List (SeatState E)
    between = set s.views id both

    abbrev after : List (SeatState E)
    after = set between away spent_seat

    abbrev IsKnown : SeatState E → Type 0
    IsKnown = IsSeatOf caller_of rule.entries rule.drawn

    was_there : get_elem? s.views away ≡ some other
    was_there = sym (set_else s.views id away both apart) ∙ there

    both_know : IsKnown both
    both_know =
        let mine = (rule.seats id seat at).0 live in
        let theirs = (rule.seats away other was_there).0 other_live in (
          (λ _. record {
            stage = mine.stage;
            own = mine.own;
            joined = all-append (λ known. entries_of caller_of known.0 rule.entries ≡ known.1)
                seat.joined ((other.caller, other.own) ∷ other.joined) mine.joined
                (theirs.own, theirs.joined);
            spare = all-append (λ number. entries_of caller_of number rule.entries ≡ [])
                seat.spare other.spare mine.spare theirs.spare;
          }),
          λ spent. absurd (true≢false (sym live ∙ spent)),
        )

    all_know : (j : ℕ) (one : SeatState E) → get_elem? after j ≡ some one → IsKnown one
    all_know = each_stays between away other spent_seat IsKnown
        ((λ alive. absurd (true≢false (sym alive))), λ _. refl)
        (λ j one _. each_stays s.views id seat both IsKnown both_know (λ i found _. rule.seats i found)
        j one)

    all_apart : HaveOwnTickets after
    all_apart = apart_stays between away other spent_seat
        (apart_stays s.views id seat both rule.apart (λ j one not_it found is_out one_out.
        rule.apart id j seat one (λ same. not_it (sym same)) at found is_out one_out))
        (λ j one not_it found is_out. absurd (omega arith))

    still_away : IsAway rule.entries s.homes s.views → IsAway rule.entries s.homes after
    still_away out_with = away_stays between away other spent_seat there rule.entries s.homes
        (λ served. absurd (idle_or_served rule.entries (sym idle ∙ served)))
        (away_stays s.views id seat both at rule.entries s.homes (λ served. served) out_with)

    joined_owners : ShareNumbers callers after
    joined_owners number =
        let count : SeatState E → ℕ = λ one. count_of number (numbers one) in
        let sum : count both ≡ count seat + count other =
        measure-join (count_of number) (count_of-append number) seat other live other_live in
        let first = sum_by-set_at count s.views id seat both at in
        let second = sum_by-set_at count between away other spent_seat there in (
          (λ below. let one = (rule.owners number).0 below in omega arith),
          (λ above. let none = (rule.owners number).1 above in omega arith),
        )

    joined_rule : Rule record { words = s.words; homes = s.homes; views = after }
    joined_rule =
        let size : SeatState E → ℕ = λ one. length (numbers one) in
        let sum : size both ≡ size seat + size other =
        measure-join length length-append seat other live other_live in
        let first = sum_by-set_at size s.views id seat both at in
        let second = sum_by-set_at size between away other spent_seat there in
        let many = rule.many in
        let none_out : out other ≡ 0 = ap out_at idle in
        let first_out = sum_by-set_at out s.views id seat both at in
        let second_out = sum_by-set_at out between away other spent_seat there in
        let tickets = rule.tickets in record {
          entries = rule.entries;
          drawn = rule.drawn;
          few = rule.few;
          words_are = rule.words_are;
          tickets = omega arith;
          seats = all_know;
          apart = all_apart;
          slot = ⊎_elim inl (λ out_with. inr (still_away out_with)) rule.slot;
          owners = joined_owners;
          many = omega arith;
          within = rule.within;
        }

  -- A seat may join another that is idle.
  pub joins : (id : ℕ) (seat : SeatState E) (away : ℕ) (other : SeatState E)
      → seat.live ≡ true
      → other.live ≡ true
      → other.stage ≡ Idle
      → Joins Rule id seat away other (both_parts seat other) spent_seat
  joins id seat away other live other_live idle s rule at apart there =
      joined_rule seat other live other_live idle id away s rule at apart there

  -- A seat may learn that it has no number twice.
  pub counts : (slots id : ℕ) (me : Holder T E)
      → Allows Rule slots id me 0 (λ n. n) (CountedNumbers (step slots 0 0 0 none) me)
  counts slots id me s rule _ at _ = (
    me.0,
    keeps,
    tt,
    subst Rule
        (λ i. record {
          words = sym (set-get_or s.words 0 0) i;
          homes = s.homes;
          views = sym (set_again s.views id me.0 at) i;
        }) rule,
    (
      refl,
      λ number.
          let most = count_in-le-one caller_of means callers s rule number in
          let mine = part-le-sum_by (λ (seat : SeatState E). count_of number (numbers seat))
          s.views id me.0 at in omega arith,
    ),
  )

-- then no spare number stands in it twice
pub spare_once : {E : Type 0} (seat : SeatState E)
    → seat.live ≡ true
    → ((number : ℕ) → count_of number (numbers seat) ≤ 1)
    → (number : ℕ)
    → count_of number seat.spare ≤ 1
spare_once seat live once number =
    let most = subst (λ (alive : Bool). count_of number (numbers_if alive seat) ≤ 1) live
    (once number) in
    let joined = joined_numbers seat.joined in
    let whole = count_of-append number (seat.caller ∷ []) (joined ++ seat.spare) in
    let parts = count_of-append number joined seat.spare in
    let all : count_of number (seat.caller ∷ (joined ++ seat.spare)) ≤ 1 = most in omega arith
