-- Costs and tokens of a whole book.
use Rattle.std.proofs.Common.{◌≡◌, ℕ, zero, suc, List, [], ◌∷◌, ◌++◌, refl, sym, ap, ◌∙◌, subst}
use Rattle.std.specs.List.{AllByRecursion}
use Rattle.pw_types.specs.declared.era.Era.{Era}
use Rattle.home_edits.specs.Costs.{HasCost}
use Rattle.home_locks.specs.Moves.{BookMoves}
use Rattle.home_locks.specs.declared.account.Entry.{Entry}
use Rattle.random_values.specs.Stretches.{Place}
use Rattle.share_api.specs.Contents.{Bytes}
use Rattle.share_api.specs.Places.{steps_of}
use Rattle.share_api.specs.declared.step.Step.{Step}
use Rattle.turn_edits.specs.Endings.{Draws, after_words}
use Rattle.user_state.specs.declared.state.UserState.{UserState}
use Rattle.turn_meaning.specs.Moves.{MovesAccount}
use Rattle.turn_meaning.specs.Words.{TellsStretch}
use Rattle.turn_meaning.specs.declared.taken.TurnTaken.{TurnTaken}

-- what holds of steps and of those behind them holds of all
both_made : (P : Step → Type 0) (made rest : List (ℕ × Step)) → AllByRecursion P (steps_of made)
    → AllByRecursion P (steps_of rest) → AllByRecursion P (steps_of (made ++ rest))
both_made P [] rest all more = more
both_made P (known ∷ made) rest all more = (all.0, both_made P made rest all.1 more)

pub costs_of_book : (era : Era) (before after : UserState) (own : List (ℕ × Step)) (book : List (Entry TurnTaken))
    → BookMoves (MovesAccount era) before own book after
    → AllByRecursion (HasCost before.account before.cost) (steps_of own)
costs_of_book era before after own [] none =
    subst (λ (steps : List (ℕ × Step)). AllByRecursion (HasCost before.account before.cost) (steps_of steps))
    (sym none.0) tt
costs_of_book era before after own (entry ∷ book) moves =
    let moved = moves.4.moved.moves in
    let rest : AllByRecursion (HasCost before.account before.cost) (steps_of moves.1) =
    subst (λ (kept : Bytes × ℕ). AllByRecursion (HasCost kept.0 kept.1) (steps_of moves.1))
    (λ i. (moved.account i, moved.cost i)) (costs_of_book era moves.2 after moves.1 book moves.5) in
    subst (λ (steps : List (ℕ × Step)). AllByRecursion (HasCost before.account before.cost) (steps_of steps))
    (sym moves.3) (both_made (HasCost before.account before.cost) moves.0 moves.1 moved.costs rest)

-- words that are drawn leave the key
key_stays : (place : Place) (words : ℕ) → (after_words place words).key ≡ place.key
key_stays place zero = refl
key_stays place (suc words) = refl

key_kept : (before after : Place) → Draws 0 26 before after → after.key ≡ before.key
key_kept before after draws = ap (λ (place : Place). place.key) draws.moved_is ∙ key_stays before draws.words

pub tails_of_book : (era : Era) (before after : UserState) (own : List (ℕ × Step)) (book : List (Entry TurnTaken))
    → BookMoves (MovesAccount era) before own book after
    → AllByRecursion (TellsStretch before.generator.key) book
tails_of_book era before after own [] none = tt
tails_of_book era before after own (entry ∷ book) moves =
    let moved = moves.4.moved.moves in (
      λ ends token is. (before.generator.position, (moved.token ends token is).tail),
      subst (λ (key : List ℕ). AllByRecursion (TellsStretch key) book)
          (key_kept before.generator moves.2.generator moved.draws)
          (tails_of_book era moves.2 after moves.1 book moves.5),
    )
