-- What each entry of an account's book says of the account's own device steps, whatever the board tells.
use Rattle.std.specs.Prelude.{◌≡◌, ℕ, ◌+◌, List, [], ◌∷◌, ◌++◌, Ok}
use Rattle.share_api.specs.Contents.{Bytes}
use Rattle.share_api.specs.declared.step.Step.{Step}
use Rattle.turn_lock.specs.Lists.{entries_of}
use Rattle.turn_lock.specs.Seats.{LockId}
use Rattle.platform_lock.specs.Devices.{DeviceSeen, account_of}
use Rattle.home_locks.specs.Moves.{BookMoves}
use Rattle.home_locks.specs.declared.account.Entry.{Entry}
use Rattle.turn_meaning.specs.Moves.{MovesAccount}
use Rattle.turn_meaning.specs.declared.taken.TurnTaken.{TurnTaken}
use Rattle.user_state.specs.declared.state.UserState.{UserState}
use Rattle.home_opening.specs.Opened.{OpensAt}
use Rattle.home_opening.specs.declared.opening.Opening.{Opening}

module _ (device : DeviceSeen) (shared : LockId) (opening : Opening) (chain : List Step) where
  -- The account's steps in the chain are those that opened it, and behind them those of its book's entries, a stretch for
  -- each in order. Each entry's turn moved the account's state by its own stretch (`MovesAccount`), from the state that
  -- opening gave on.
  pub record AccountSays (account : ℕ) (name : Bytes) (book : List (Entry TurnTaken)) : Type 0 where
    pub early : List (ℕ × Step)
    pub own : List (ℕ × Step)
    pub steps_are : entries_of account_of account chain ≡ early ++ own
    pub start : UserState
    pub opened : OpensAt device shared opening account name early (Ok start)
    pub last : UserState
    pub moved : BookMoves (MovesAccount device.era) start own book last

  -- so it is of the accounts from this number on, each with its name and its book
  abbrev pub AccountsSay : ℕ → List Bytes → List (List (Entry TurnTaken)) → Type 0
  AccountsSay account [] [] = Unit {0}
  AccountsSay account [] (book ∷ books) = ⊥
  AccountsSay account (name ∷ names) [] = ⊥
  AccountsSay account (name ∷ names) (book ∷ books) =
      AccountSays account name book × AccountsSay (account + 1) names books
