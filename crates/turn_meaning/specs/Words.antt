-- What a whole book says of factors' costs and of tokens.
use Rattle.std.specs.Prelude.{◌≡◌, ℕ, List, [], ◌∷◌}
use Rattle.std.specs.List.{AllByRecursion}
use Rattle.pw_types.specs.declared.era.Era.{Era}
use Rattle.account_machine.specs.declared.answer.Answer.TheVariants as answers
use Rattle.account_machine.specs.declared.session.Token.{Token}
use Rattle.home_edits.specs.Costs.{HasCost}
use Rattle.home_locks.specs.Moves.{BookMoves}
use Rattle.home_locks.specs.declared.account.Entry.{Entry}
use Rattle.random_values.specs.Stretches.{stretch}
use Rattle.share_api.specs.Places.{steps_of}
use Rattle.share_api.specs.declared.step.Step.{Step}
use Rattle.user_state.specs.declared.state.UserState.{UserState}
use Rattle.turn_meaning.specs.Moves.{MovesAccount}
use Rattle.turn_meaning.specs.declared.taken.TurnTaken.{TurnTaken}

-- a token that the entry tells has a stretch of the stream under this key as its tail
abbrev pub TellsStretch : List ℕ → Entry TurnTaken → Type 0
TellsStretch key entry = (ends : ℕ) (token : Token) → entry.turn.answer ≡ answers.OkSession ends token
    → (position : ℕ) × (token.tail ≡ stretch key position 4)

-- each factor's record that a book's entries put has the cost that the account began with
abbrev pub CostsLaw : Type 0
CostsLaw = (era : Era) (before after : UserState) (own : List (ℕ × Step)) (book : List (Entry TurnTaken))
    → BookMoves (MovesAccount era) before own book after
    → AllByRecursion (HasCost before.account before.cost) (steps_of own)

-- each token's tail is a stretch of the generator that the account began with
abbrev pub TailsLaw : Type 0
TailsLaw = (era : Era) (before after : UserState) (own : List (ℕ × Step)) (book : List (Entry TurnTaken))
    → BookMoves (MovesAccount era) before own book after
    → AllByRecursion (TellsStretch before.generator.key) book
