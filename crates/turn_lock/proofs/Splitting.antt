-- A seat gives its least spare number to a new seat.
use Rattle.std.proofs.Common.{◌≡◌, ℕ, ◌+◌, ◌<◌, Bool, true, true≢false, List, [], ◌∷◌, ◌++◌, map, length, set, sym, ap, ◌∙◌, subst, ⊎_elim, inl, inr, arith, Option, length-append}
use mathlib.Core.Option.{some}
use lib.ListN.{get_elem?}
use Rattle.std.specs.List.{AllByRecursion}
use Rattle.atomic_table.specs.Table.{State, Splits}
use Rattle.atomic_table.proofs.Lists.{at_snoc, at_longer}
use Rattle.turn_lock.specs.declared.table.Content.{Content}
use Rattle.turn_lock.specs.declared.table.SeatState.{SeatState}
use Rattle.turn_lock.specs.Lists.{count_of, entries_of, head_or, tail}
use Rattle.turn_lock.specs.Rule.{out, numbers, numbers_if, IsSeatOf, HaveOwnTickets, ShareNumbers, IsAway, HoldsOf}
use Rattle.turn_lock.specs.Steps.{kept_part, given_part}
use Rattle.std.proofs.lemmas.List.Sums.{sum_by-append}
use Rattle.turn_lock.proofs.Sums.{sum_by-set_at}
use Rattle.turn_lock.proofs.Counts.{count_of-append}
use Rattle.turn_lock.proofs.Changes.{each_stays, apart_stays, away_stays}

-- a measure of lists that adds up, as a count or the length
module _ (measure : List ℕ → ℕ)
    (adds : (xs ys : List ℕ) → measure (xs ++ ys) ≡ measure xs + measure ys) where
  -- a number that is given away counts as it did
  pub measure-given : (caller first : ℕ) (joined more : List ℕ)
      → measure (caller ∷ (joined ++ more)) + measure (first ∷ [])
      ≡ measure (caller ∷ (joined ++ first ∷ more))
  measure-given caller first joined more =
      let kept = adds (caller ∷ []) (joined ++ more) in
      let kept_numbers = adds joined more in
      let whole = adds (caller ∷ []) (joined ++ first ∷ more) in
      let whole_numbers = adds joined (first ∷ more) in
      let spare = adds (first ∷ []) more in omega arith

  -- the two parts have together what the seat had
  measure-split : {E : Type 0} (seat : SeatState E) (first : ℕ) (more : List ℕ)
      → seat.live ≡ true
      → seat.spare ≡ first ∷ more
      → measure (numbers (kept_part seat)) + measure (numbers (given_part seat))
      ≡ measure (numbers seat)
  measure-split seat first more live spare = subst
      (λ (z : Bool × List ℕ).
      measure (numbers_if z.0 (record seat { spare = tail z.1 })) + measure (head_or 0 z.1 ∷ [])
      ≡ measure (numbers_if z.0 (record seat { spare = z.1 })))
      (λ i. (sym live i, sym spare i))
      (measure-given seat.caller first (map (λ known. known.0) seat.joined) more)

module _ {T E : Type 0} (caller_of : E → ℕ) (means : T → List E → Type 0) (callers : ℕ) where
  abbrev TableState : Type 0
  TableState = State (Option (Content T E)) (SeatState E)

  abbrev Rule : TableState → Type 0
  Rule = HoldsOf caller_of means callers

  module _ (seat : SeatState E) (first : ℕ) (more : List ℕ) (live : seat.live ≡ true)
      (spare : seat.spare ≡ first ∷ more)
      (id : ℕ) (s : TableState) (rule : Rule s) (at : get_elem? s.views id ≡ some seat) where
    abbrev kept : SeatState E
    kept = kept_part seat

    abbrev given : SeatState E
    given = given_part seat

    abbrev others : List (SeatState E)
    others = set s.views id kept

    abbrev IsKnown : SeatState E → Type 0
    IsKnown = IsSeatOf caller_of rule.entries rule.drawn

    -- the spare numbers have no entry
    none_spare : AllByRecursion (λ number. entries_of caller_of number rule.entries ≡ [])
        (first ∷ more)
    none_spare = subst (AllByRecursion (λ number. entries_of caller_of number rule.entries ≡ []))
        spare ((rule.seats id seat at).0 live).spare

    kept_knows : IsKnown kept
    kept_knows = let was = (rule.seats id seat at).0 live in (
      (λ _. record {
        stage = was.stage;
        own = was.own;
        joined = was.joined;
        spare = subst (λ numbers. AllByRecursion
            (λ number. entries_of caller_of number rule.entries ≡ []) (tail numbers))
            (sym spare) none_spare.1;
      }),
      λ spent. absurd (true≢false (sym live ∙ spent)),
    )

    given_knows : IsKnown given
    given_knows = (
      (λ _. record {
        stage = tt;
        own = subst (λ numbers. entries_of caller_of (head_or 0 numbers) rule.entries ≡ [])
            (sym spare) none_spare.0;
        joined = tt;
        spare = tt;
      }),
      λ spent. absurd (true≢false spent),
    )

    all_know : (j : ℕ) (other : SeatState E)
        → get_elem? (others ++ given ∷ []) j ≡ some other → IsKnown other
    all_know j other there = ⊎_elim
        (λ (old : get_elem? others j ≡ some other).
        each_stays s.views id seat kept IsKnown kept_knows (λ i one _. rule.seats i one) j other old)
        (λ (new : given ≡ other). subst IsKnown new given_knows)
        (at_snoc others given other j there)

    others_apart : HaveOwnTickets others
    others_apart = apart_stays s.views id seat kept rule.apart
        (λ j other apart there is_out other_out.
        rule.apart id j seat other (λ same. apart (sym same)) at there is_out other_out)

    -- the new seat has no ticket out
    no_ticket : (other : SeatState E) → given ≡ other → 0 < out other → ⊥
    no_ticket other new is_out = let none : out other ≡ 0 = ap out (sym new) in omega arith

    all_apart : HaveOwnTickets (others ++ given ∷ [])
    all_apart i j one other apart one_at other_at one_out other_out = ⊎_elim
        (λ (one_old : get_elem? others i ≡ some one). ⊎_elim
        (λ (other_old : get_elem? others j ≡ some other).
        others_apart i j one other apart one_old other_old one_out other_out)
        (λ (new : given ≡ other). absurd (no_ticket other new other_out))
        (at_snoc others given other j other_at))
        (λ (new : given ≡ one). absurd (no_ticket one new one_out))
        (at_snoc others given one i one_at)

    still_away : IsAway rule.entries s.homes s.views
        → IsAway rule.entries s.homes (others ++ given ∷ [])
    still_away away =
        let kept_away = away_stays s.views id seat kept at rule.entries s.homes
        (λ served. served) away in
        let found = at_longer others (given ∷ []) kept_away.1.0 kept_away.1.1.0 kept_away.1.1.1 in
        (kept_away.0, (kept_away.1.0, (kept_away.1.1.0, found, kept_away.1.1.2)))

    split_owners : ShareNumbers callers (others ++ given ∷ [])
    split_owners number =
        let count : SeatState E → ℕ = λ other. count_of number (numbers other) in
        let both : count kept + count given ≡ count seat =
        measure-split (count_of number) (count_of-append number) seat first more live spare in
        let all = sum_by-append count others (given ∷ []) in
        let changed = sum_by-set_at count s.views id seat kept at in (
          (λ below. let one = (rule.owners number).0 below in omega arith),
          (λ above. let none = (rule.owners number).1 above in omega arith),
        )

    split_rule : Rule record {
      words = s.words;
      homes = s.homes;
      views = others ++ given ∷ [];
    }
    split_rule =
        let size : SeatState E → ℕ = λ other. length (numbers other) in
        let both : size kept + size given ≡ size seat =
        measure-split length length-append seat first more live spare in
        let sizes = sum_by-append size others (given ∷ []) in
        let resized = sum_by-set_at size s.views id seat kept at in
        let many = rule.many in
        let outs = sum_by-append out others (given ∷ []) in
        let changed = sum_by-set_at out s.views id seat kept at in
        let tickets = rule.tickets in record {
          entries = rule.entries;
          drawn = rule.drawn;
          few = rule.few;
          words_are = rule.words_are;
          tickets = omega arith;
          seats = all_know;
          apart = all_apart;
          slot = ⊎_elim inl (λ away. inr (still_away away)) rule.slot;
          owners = split_owners;
          many = omega arith;
          within = rule.within;
        }

  -- A seat with a spare number may give it away.
  pub splits : (id : ℕ) (seat : SeatState E) (first : ℕ) (more : List ℕ)
      → seat.live ≡ true
      → seat.spare ≡ first ∷ more
      → Splits Rule id seat (kept_part seat) (given_part seat)
  splits id seat first more live spare s rule at =
      split_rule seat first more live spare id s rule at
