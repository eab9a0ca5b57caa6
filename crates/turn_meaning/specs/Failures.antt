-- How many turns of a book were answered a storage fault, and how many steps failed.
use Rattle.std.specs.Prelude.{ℕ, ◌+◌, ◌≤◌, List, [], ◌∷◌}
use Rattle.pw_types.specs.declared.era.Era.{Era}
use Rattle.account_machine.specs.declared.answer.Answer.{Answer}
use Rattle.account_machine.specs.declared.answer.Answer.TheVariants as answers
use Rattle.home_locks.specs.Moves.{BookMoves}
use Rattle.home_locks.specs.declared.account.Entry.{Entry}
use Rattle.share_api.specs.Places.{steps_of}
use Rattle.share_api.specs.declared.step.Reply.{Reply}
use Rattle.share_api.specs.declared.step.Reply.TheVariants as replies
use Rattle.share_api.specs.declared.step.Step.{Step}
use Rattle.user_state.specs.declared.state.UserState.{UserState}
use Rattle.turn_meaning.specs.Moves.{MovesAccount}
use Rattle.turn_meaning.specs.declared.taken.TurnTaken.{TurnTaken}

abbrev pub fault_of_answer : Answer → ℕ
fault_of_answer answers.StorageFault = 1
fault_of_answer _ = 0

abbrev pub faults_told : List (Entry TurnTaken) → ℕ
faults_told [] = 0
faults_told (entry ∷ book) = fault_of_answer entry.turn.answer + faults_told book

abbrev pub fault_of_reply : Reply → ℕ
fault_of_reply replies.Failed = 1
fault_of_reply _ = 0

abbrev pub faults_made : List Step → ℕ
faults_made [] = 0
faults_made (step ∷ steps) = fault_of_reply step.reply + faults_made steps

-- a book has at most as many storage faults as its own steps failed
abbrev pub FaultsLaw : Type 0
FaultsLaw = (era : Era) (before after : UserState) (own : List (ℕ × Step)) (book : List (Entry TurnTaken))
    → BookMoves (MovesAccount era) before own book after
    → faults_told book ≤ faults_made (steps_of own)
