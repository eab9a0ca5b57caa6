-- A new table meets the rule.
use Rattle.std.proofs.Common.{◌≡◌, ℕ, zero, suc, ◌+◌, ◌-◌, ◌^◌, ◌<◌, true≢false, List, [], ◌∷◌, length, sym, refl, ap, ◌∙◌, subst, inl, arith, Some}
use mathlib.Core.Option.{some, some-injective, some-ne-none}
use lib.ListN.{get_elem?}
use Rattle.std.specs.List.{AllByRecursion}
use Rattle.atomic_table.specs.Table.{opening}
use Rattle.turn_lock.specs.declared.table.SeatState.{SeatState}
use Rattle.std.specs.List.{range_with_len}
use Rattle.turn_lock.specs.Lists.{count_of, entries_of}
use Rattle.turn_lock.specs.Rule.{numbers, IsSeatOf, HoldsOf}
use Rattle.turn_lock.specs.Slots.{blank}
use Rattle.turn_lock.specs.Steps.{opening_seat}
use Rattle.std.proofs.lemmas.List.FromFn.{length-range_with_len}
use Rattle.turn_lock.proofs.Counts.{count_of-range_with_len}

only_one : {A : Type 0} (x y : A) (j : ℕ) → get_elem? (x ∷ []) j ≡ some y → (j ≡ 0) × (x ≡ y)
only_one x y zero at = (refl, some-injective x y at)
only_one x y (suc j) at = absurd (some-ne-none y (sym at))

module _ {T E : Type 0} (caller_of : E → ℕ) (means : T → List E → Type 0) (callers : ℕ) where
  no_entries : (first more : ℕ)
      → AllByRecursion (λ number. entries_of caller_of number [] ≡ []) (range_with_len first more)
  no_entries first zero = tt
  no_entries first (suc more) = (refl, no_entries (first + 1) more)

  first_knows : IsSeatOf caller_of [] 0 (opening_seat {E = E} callers)
  first_knows = (
    (λ _. record { stage = tt; own = refl; joined = tt; spare = no_entries 1 (callers - 1) }),
    λ spent. absurd (true≢false spent),
  )

  -- A table whose slot has the value, with no entry.
  pub opens : (value : T)
      → 0 < callers
      → callers < 2 ^ 32
      → means value []
      → HoldsOf caller_of means callers
      (opening (0 ∷ 0 ∷ []) (Some (blank value) ∷ []) (opening_seat callers))
  opens value some_callers few stands =
      let first : SeatState E = opening_seat callers in
      let all : numbers first ≡ range_with_len 0 callers =
      ap (range_with_len 0) (let more : suc (callers - 1) ≡ callers = omega arith in more) in
      record {
        entries = [];
        drawn = 0;
        few = few;
        words_are = refl;
        tickets = refl;
        seats = λ j seat at.
            subst (IsSeatOf caller_of [] 0) (only_one first seat j at).1 first_knows;
        apart = λ i j one other apart one_at other_at _ _. absurd
            (apart ((only_one first one i one_at).0 ∙ sym (only_one first other j other_at).0));
        slot = inl (blank value, refl, refl, stands);
        owners = λ number.
            let range = count_of-range_with_len 0 callers number in
            let same = ap (count_of number) all in (
              (λ below. let one = range.inside (omega arith) (omega arith) in omega arith),
              (λ above. let none = range.above (omega arith) in omega arith),
            );
        many =
            let size = length-range_with_len 0 callers in
            let same = ap (λ (numbers : List ℕ). length numbers) all in omega arith;
        within = tt;
      }
