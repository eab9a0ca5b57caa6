-- Each storage fault of a book has a failed step of its own.
use Rattle.std.proofs.Common.{◌≡◌, ◌⊎◌, inl, inr, ℕ, ◌+◌, ◌≤◌, List, [], ◌∷◌, ◌++◌, refl, sym, ap, ◌∙◌, subst, arith, ⊎_elim}
use Rattle.pw_types.specs.declared.era.Era.{Era}
use Rattle.account_machine.specs.declared.answer.Answer.{Answer}
use Rattle.account_machine.specs.declared.answer.Answer.TheVariants as answers
use Rattle.home_locks.specs.Moves.{BookMoves}
use Rattle.home_locks.specs.declared.account.Entry.{Entry}
use Rattle.share_api.specs.Places.{steps_of}
use Rattle.share_api.specs.Seen.{HasFailed}
use Rattle.share_api.specs.declared.step.Step.{Step}
use Rattle.user_state.specs.declared.state.UserState.{UserState}
use Rattle.turn_meaning.specs.Failures.{fault_of_answer, fault_of_reply, faults_made, faults_told}
use Rattle.turn_meaning.specs.Moves.{MovesAccount}
use Rattle.turn_meaning.specs.declared.taken.TurnTaken.{TurnTaken}

-- an answer is a storage fault, or counts for none
told_or : (answer : Answer) → (fault_of_answer answer ≡ 0) ⊎ (answer ≡ answers.StorageFault)
told_or answers.Ok = inl refl
told_or (answers.OkEnds a) = inl refl
told_or (answers.OkPassword a) = inl refl
told_or (answers.OkSession a b) = inl refl
told_or (answers.OkFactors a) = inl refl
told_or (answers.OkFiles a) = inl refl
told_or (answers.OkBytes a) = inl refl
told_or answers.PinCleared = inl refl
told_or answers.PinsClear = inl refl
told_or (answers.Seen a) = inl refl
told_or answers.Exists = inl refl
told_or answers.NoHome = inl refl
told_or answers.SessionsSpent = inl refl
told_or answers.UnknownSession = inl refl
told_or answers.Expired = inl refl
told_or answers.WrongIntent = inl refl
told_or answers.NotAuthorised = inl refl
told_or answers.UnknownFactor = inl refl
told_or answers.FactorExists = inl refl
told_or answers.PasswordFirst = inl refl
told_or answers.LastPassword = inl refl
told_or answers.TooManyFactors = inl refl
told_or answers.BadSecret = inl refl
told_or answers.EditionsSpent = inl refl
told_or answers.AlreadyMounted = inl refl
told_or answers.NotMounted = inl refl
told_or answers.UnknownFile = inl refl
told_or answers.TooManyFiles = inl refl
told_or answers.TooLarge = inl refl
told_or answers.UnknownAccount = inl refl
told_or answers.Wrong = inl refl
told_or answers.Locked = inl refl
told_or (answers.Delayed a) = inl refl
told_or (answers.TreeLost a b) = inl refl
told_or (answers.Damaged a) = inl refl
told_or answers.NoMemory = inl refl
told_or answers.StorageFault = inr refl

-- steps of which one failed count for one at least
one_made : (steps : List Step) → HasFailed steps → 1 ≤ faults_made steps
one_made [] none = absurd none
one_made (step ∷ steps) (inl is) = let one = ap fault_of_reply is in omega (arith, one)
one_made (step ∷ steps) (inr more) = let rest = one_made steps more in omega (arith, rest)

-- an answer counts for no more than the steps of its turn
told_within : (answer : Answer) (steps : List Step) → (answer ≡ answers.StorageFault → HasFailed steps)
    → fault_of_answer answer ≤ faults_made steps
told_within answer steps cause =
    ⊎_elim (λ none. omega (arith, none))
    (λ is. let one = ap fault_of_answer is in let some = one_made steps (cause is) in omega (arith, one, some))
    (told_or answer)

-- the faults of steps and of those behind them
made_both : (made rest : List (ℕ × Step))
    → faults_made (steps_of (made ++ rest)) ≡ faults_made (steps_of made) + faults_made (steps_of rest)
made_both [] rest = omega arith
made_both (known ∷ made) rest = let more = made_both made rest in omega (arith, more)

-- a book has at most as many storage faults as its own steps failed
pub faults_within : (era : Era) (before after : UserState) (own : List (ℕ × Step)) (book : List (Entry TurnTaken))
    → BookMoves (MovesAccount era) before own book after
    → faults_told book ≤ faults_made (steps_of own)
faults_within era before after own [] none = omega arith
faults_within era before after own (entry ∷ book) moves =
    let parts = ap (λ (steps : List (ℕ × Step)). faults_made (steps_of steps)) moves.3
    ∙ made_both moves.0 moves.1 in
    let turn = told_within entry.turn.answer (steps_of moves.0) moves.4.moved.moves.fault in
    let rest = faults_within era moves.2 after moves.1 book moves.5 in
    omega (arith, parts, turn, rest)
