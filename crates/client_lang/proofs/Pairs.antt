-- The pairs of an array, read one after another.
use Rattle.std.proofs.Common.{◌≡◌, ℕ, suc, ◌+◌, ◌<◌, true, false, Option, Some, None, List, [], ◌∷◌, ◌++◌, length, take, drop, get_or, set, refl, ap, sym, ◌∙◌, append_assoc, arith}
use Rattle.std.specs.Prelude.{option_map, option_and_then, unwrap_or, if◌then◌else◌}
use Rattle.std.proofs.lemmas.List.{at_drop_more, take_more_set}
use Rattle.serde_json.specs.View.{view, items_view}
use Rattle.serde_json.specs.declared.value.Value.{Value}
use Rattle.pw_types.specs.Schedule.{IsSchedule, is_schedule}
use Rattle.pw_types.proofs.ScheduleLemmas.{is_schedule-Decides}
use Rattle.client_lang.specs.Fields.{pair_of, pair_in, pairs_of}

-- an array of another length is no pair
pub pair_of-length : (vs : List Value) → (length vs ≡ 2 → ⊥) → pair_of (items_view vs) ≡ None
pair_of-length [] other = refl
pair_of-length (a ∷ []) other = refl
pair_of-length (a ∷ b ∷ []) other = absurd (other refl)
pair_of-length (a ∷ b ∷ d ∷ vs) other = refl

-- the pairs so far before the rest
abbrev pub With : List (ℕ × ℕ) → List Value → Option (List (ℕ × ℕ))
With front vs = option_map (λ rest. front ++ rest) (pairs_of (items_view vs))

longer : (front : List (ℕ × ℕ)) (pair : ℕ × ℕ) (rest : Option (List (ℕ × ℕ)))
    → option_map (λ r. front ++ r) (option_map (λ r. pair ∷ r) rest) ≡ option_map (λ r. (front ++ pair ∷ []) ++ r) rest
longer front pair None = refl
longer front pair (Some rest) = ap Some (sym (append_assoc front (pair ∷ []) rest))

-- one pair more
pub With-some : (front : List (ℕ × ℕ)) (v : Value) (vs : List Value) (pair : ℕ × ℕ) → pair_in (view v) ≡ Some pair → With front (v ∷ vs) ≡ With (front ++ pair ∷ []) vs
With-some front v vs pair is =
    ap (λ (found : Option (ℕ × ℕ)). option_map (λ r. front ++ r) (option_and_then (λ p. option_map (λ r. p ∷ r) (pairs_of (items_view vs))) found)) is
    ∙ longer front pair (pairs_of (items_view vs))

pub With-none : (front : List (ℕ × ℕ)) (v : Value) (vs : List Value) → pair_in (view v) ≡ None → With front (v ∷ vs) ≡ None
With-none front v vs is =
    ap (λ (found : Option (ℕ × ℕ)). option_map (λ r. front ++ r) (option_and_then (λ p. option_map (λ r. p ∷ r) (pairs_of (items_view vs))) found)) is

module _ (items : List Value) (pairs : List (ℕ × ℕ)) (at : ℕ) (v : Value) (inside : at < length items) (there : v ≡ get_or items at v) where
  opened : With (take at pairs) (drop at items) ≡ With (take at pairs) (v ∷ drop (at + 1) items)
  opened = at_drop_more (With (take at pairs)) items at v inside ∙ ap (λ w. With (take at pairs) (w ∷ drop (at + 1) items)) (sym there)

  pub With-step : (pair : ℕ × ℕ) → pair_in (view v) ≡ Some pair → at < length pairs → With (take at pairs) (drop at items) ≡ With (take (at + 1) (set pairs at pair)) (drop (at + 1) items)
  With-step pair is room =
      opened ∙ With-some (take at pairs) v (drop (at + 1) items) pair is
      ∙ ap (λ front. With front (drop (at + 1) items)) (sym (take_more_set pairs at pair room))

  pub With-stop : pair_in (view v) ≡ None → With (take at pairs) (drop at items) ≡ None
  With-stop is = opened ∙ With-none (take at pairs) v (drop (at + 1) items) is

-- ---- schedules

length-pairs : (vs : List Value) (ps : List (ℕ × ℕ)) → pairs_of (items_view vs) ≡ Some ps → length ps ≡ length vs
length-pairs [] ps is = ap (λ (o : Option (List (ℕ × ℕ))). length (unwrap_or o [])) (sym is)
length-pairs (v ∷ vs) ps is =
    elim (pair_in (view v)) as (λ p. option_and_then (λ pair. option_map (λ r. pair ∷ r) (pairs_of (items_view vs))) p ≡ Some ps → length ps ≡ suc (length vs)) [
      | None ↦ λ h. cc
      | Some pair ↦ λ h.
          elim (pairs_of (items_view vs)) as (λ o. pairs_of (items_view vs) ≡ o → option_map (λ r. pair ∷ r) o ≡ Some ps → length ps ≡ suc (length vs)) [
            | None ↦ λ e g. cc
            | Some rest ↦ λ e g. ap (λ (o : Option (List (ℕ × ℕ))). length (unwrap_or o [])) (sym g) ∙ ap suc (length-pairs vs rest e)
          ] refl h
    ] is

-- pairs that are a schedule
abbrev pub chosen : List (ℕ × ℕ) → Option (List (ℕ × ℕ))
chosen pairs = if is_schedule pairs then Some pairs else None

pub chosen-schedule : (pairs : List (ℕ × ℕ)) → IsSchedule pairs → chosen pairs ≡ Some pairs
chosen-schedule pairs is = ap (λ b. if b then Some pairs else None) ((is_schedule-Decides pairs).1 is)

pub chosen-other : (pairs : List (ℕ × ℕ)) → (IsSchedule pairs → ⊥) → chosen pairs ≡ None
chosen-other pairs other =
    elim (is_schedule pairs) as (λ b. is_schedule pairs ≡ b → (if b then Some pairs else None) ≡ None) [
      | true ↦ λ is. absurd (other ((is_schedule-Decides pairs).0 is))
      | false ↦ λ is. refl
    ] refl

-- more than 16 pairs are none
pub too_many : (vs : List Value) → 16 < length vs → option_and_then chosen (pairs_of (items_view vs)) ≡ None
too_many vs many =
    elim (pairs_of (items_view vs)) as (λ o. pairs_of (items_view vs) ≡ o → option_and_then chosen o ≡ None) [
      | None ↦ λ e. refl
      | Some ps ↦ λ e. chosen-other ps (λ is. omega (arith, is.few, length-pairs vs ps e, many))
    ] refl
