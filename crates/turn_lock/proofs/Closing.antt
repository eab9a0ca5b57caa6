-- A seat that has every number is the only one, so the value is at home.
use Rattle.std.proofs.Common.{◌≡◌, ◌≢◌, ℕ, ◌+◌, ◌<◌, Bool, true, false, List, [], ◌∷◌, ◌++◌, map, sym, refl, ap, ◌∙◌, subst, ⊎_elim, arith, Option, Some}
use mathlib.Core.Logic.{dite}
use mathlib.Core.Option.{some, some-injective}
use native.Mathlib.Decide.{ℕ_discrete, dec_le}
use lib.ListN.{get_elem?}
use Rattle.std.specs.Prelude.{All}
use Rattle.std.proofs.lemmas.List.Elements.{All-from_recursion}
use Rattle.atomic_table.specs.Table.{State}
use Rattle.turn_lock.specs.declared.table.Content.{Content}
use Rattle.turn_lock.specs.declared.table.SeatState.{SeatState}
use Rattle.turn_lock.specs.declared.table.Stage.TheVariants.{Idle}
use Rattle.turn_lock.specs.Lists.{count_of, entries_of}
use Rattle.turn_lock.specs.Rule.{numbers, numbers_if, IsLive, IsHome, IsAway, HoldsOf, IsLeft}
use Rattle.turn_lock.proofs.Sums.{parts-le-sum_by}
use Rattle.turn_lock.proofs.Counts.{count_of-head}
use Rattle.turn_lock.proofs.Stages.{idle_or_served}

module _ {T E : Type 0} (caller_of : E → ℕ) (means : T → List E → Type 0) (callers : ℕ) where
  abbrev TableState : Type 0
  TableState = State (Option (Content T E)) (SeatState E)

  module _ (s : TableState) (rule : HoldsOf caller_of means callers s) (id : ℕ) (seat : SeatState E)
      (at : get_elem? s.views id ≡ some seat) (live : seat.live ≡ true) (idle : seat.stage ≡ Idle)
      (all : (number : ℕ) → number < callers → 0 < count_of number (numbers_if true seat)) where
    -- another seat that isn't spent would have a number of its own
    other_spent : (j : ℕ) (other : SeatState E)
        → j ≢ id → get_elem? s.views j ≡ some other → other.live ≡ true → ⊥
    other_spent j other apart there alive =
        let number : ℕ = other.caller in
        let rest : List ℕ = map (λ known. known.0) other.joined ++ other.spare in
        let once : count_of number (numbers other) ≡ 1 + count_of number rest =
        subst (λ (alive : Bool). count_of number (numbers_if alive other)
        ≡ 1 + count_of number rest) (sym alive) (count_of-head number rest) in
        let both = parts-le-sum_by (λ (one : SeatState E). count_of number (numbers one))
        s.views j id other seat apart there at in
        dite (dec_le callers number)
        (λ above. let none = (rule.owners number).1 above in
        let no : ⊥ = omega arith in no)
        (λ below.
        let one = (rule.owners number).0 (omega arith) in
        let mine = subst (λ (alive : Bool). 0 < count_of number (numbers_if alive seat)) (sym live)
        (all number (omega arith)) in
        let no : ⊥ = omega arith in no)

    other_idle : (j : ℕ) (other : SeatState E)
        → j ≢ id
        → get_elem? s.views j ≡ some other
        → (alive : Bool)
        → other.live ≡ alive
        → other.stage ≡ Idle
    other_idle j other apart there false spent = (rule.seats j other there).1 spent
    other_idle j other apart there true alive = absurd (other_spent j other apart there alive)

    not_away : IsAway rule.entries s.homes s.views → ⊥
    not_away away =
        let j : ℕ = away.1.0 in
        let served : SeatState E = away.1.1.0 in
        let there = away.1.1.1 in dite (ℕ_discrete j id)
        (λ same.
        let it : seat ≡ served = some-injective seat served
        (sym at ∙ (ap (get_elem? s.views) (sym same) ∙ there)) in
        idle_or_served rule.entries
        (sym idle ∙ (ap (λ (one : SeatState E). one.stage) it ∙ away.1.1.2)))
        (λ apart. idle_or_served rule.entries
        (sym (other_idle j served apart there served.live refl) ∙ away.1.1.2))

    left_by : (home : IsHome means rule.entries s.homes)
        → IsLeft caller_of means callers seat home.0
    left_by home =
        let known : IsLive caller_of rule.entries rule.drawn seat =
        (rule.seats id seat at).0 live in
        let entries = sym home.2 in record {
          stands = subst (means home.0.value) entries home.3;
          own = subst (λ (log : List E). entries_of caller_of seat.caller log ≡ seat.own)
              entries known.own;
          joined = subst
              (λ (log : List E). All (λ one. entries_of caller_of one.0 log ≡ one.1) seat.joined)
              entries (All-from_recursion _ seat.joined known.joined);
          spare = subst
              (λ (log : List E). All (λ number. entries_of caller_of number log ≡ []) seat.spare)
              entries (All-from_recursion _ seat.spare known.spare);
          within = subst (λ (log : List E). All (λ e. caller_of e < callers) log)
              entries (All-from_recursion _ rule.entries rule.within);
        }

    -- The value is at home, as the rule says of it.
    pub closes : (content : Content T E)
        × (s.homes ≡ some (Some content) ∷ [])
        × IsLeft caller_of means callers seat content
    closes = ⊎_elim
        (λ (home : IsHome means rule.entries s.homes). (home.0, home.1, left_by home))
        (λ (away : IsAway rule.entries s.homes s.views). absurd (not_away away)) rule.slot
