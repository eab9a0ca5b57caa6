-- What is there once all locks are closed.
use Rattle.std.specs.Prelude.{◌≡◌, ◌≤◌, ◌<◌, ◌+◌, ◌^◌, ℕ, List, [], ◌∷◌, ◌++◌, length}
use Rattle.std.specs.List.{AllByRecursion}
use Rattle.home_image.specs.Book.{AreClean}
use Rattle.home_image.specs.Place.{At}
use Rattle.home_image.specs.Settled.{Opens, BookEnds}
use Rattle.image_path.specs.Paths.{IsPart}
use Rattle.image_path.specs.Showing.{ByAccount}
use Rattle.platform_lock.specs.Devices.{account_of}
use Rattle.share_api.specs.Places.{steps_of}
use Rattle.share_api.specs.declared.step.Step.{Step}
use Rattle.turn_lock.specs.Lists.{entries_of}
use Rattle.home_locks.specs.Meanings.{Rules, meaning_of}
use Rattle.home_locks.specs.Moves.{BookMoves}
use Rattle.home_locks.specs.Accounts.{Started}
use Rattle.home_locks.specs.declared.account.Entry.{Entry}

module _ {T X : Type 0} (moves : X → T → List Step → X → Type 0) where
  -- The account's steps in the chain are those that opened it, and behind them those of its book's entries, which led on
  -- from the state that it was opened with.
  pub record IsMoved (chain : List Step) (account : ℕ) (start : Started X) (book : List (Entry T)) : Type 0 where
    pub own : List (ℕ × Step)
    pub steps_are : entries_of account_of account chain ≡ start.own ++ own
    pub after : X
    pub led : BookMoves moves start.state own book after

  -- so it is of the accounts from this number on, each with its start and its book
  abbrev pub AreMoved : List Step → ℕ → List (Started X) → List (List (Entry T)) → Type 0
  AreMoved chain account [] [] = Unit {0}
  AreMoved chain account [] (book ∷ books) = ⊥
  AreMoved chain account (start ∷ starts) [] = ⊥
  AreMoved chain account (start ∷ starts) (book ∷ books) =
      IsMoved chain account start book × AreMoved chain (account + 1) starts books

module _ {C D U T X : Type 0} (rules : Rules C D U T X) where
  -- the starts open the users over the contents, from this account on
  abbrev pub AreOpened : ByAccount C → (ℕ → U) → ℕ → List (Started X) → Type 0
  AreOpened first user account [] = Unit {0}
  AreOpened first user account (start ∷ starts) =
      Opens (meaning_of rules) start.state (steps_of start.own) (first account) (user account)
      × AreOpened first user (account + 1) starts

  -- no two inputs coincide that are recorded of an account's contents in images and of its book
  abbrev pub AreBooksClean : (ByAccount C → Type 0) → (ℕ → U) → ℕ → List (List (Entry T)) → Type 0
  AreBooksClean images user account [] = Unit {0}
  AreBooksClean images user account (book ∷ books) =
      ((seen : List C) → AllByRecursion (IsPart images account) seen
      → AreClean (meaning_of rules) seen (user account) book)
      × AreBooksClean images user (account + 1) books

  -- the image is at place n of all books
  abbrev pub AreAt : ℕ → (ℕ → U) → ByAccount C → ℕ → List (List (Entry T)) → Type 0
  AreAt n user image account [] = Unit {0}
  AreAt n user image account (book ∷ books) =
      At (meaning_of rules) n (user account) book (image account)
      × AreAt n user image (account + 1) books

  -- the books are legal up to users of whom the contents hold a durable part, and all changes in them have places
  -- up to n
  abbrev pub HaveEnded : ℕ → (ℕ → U) → ByAccount C → ℕ → List (List (Entry T)) → Type 0
  HaveEnded n user now account [] = Unit {0}
  HaveEnded n user now account (book ∷ books) =
      ((after : X) × BookEnds (meaning_of rules) n after (user account) book (now account))
      × HaveEnded n user now (account + 1) books

  -- Of users whom the accounts' first steps open, over the contents before all steps, and of whose books no two
  -- recorded inputs coincide: each image is at one place of all books, and at the end each book is legal, and what is
  -- there now holds all its changes, as does each image that a crash may leave now. A place is a u64, so the chain is
  -- to have fewer steps than that.
  pub record Settles (starts : List (Started X)) (first now : ByAccount C) (images images_now : ByAccount C → Type 0)
      (chain : List Step) (books : List (List (Entry T))) : Type 0 where
    pub at_one_place : (user : ℕ → U)
        → AreOpened first user 0 starts
        → AreBooksClean images user 0 books
        → length chain < 2 ^ 64
        → (image : ByAccount C) → images image
        → (n : ℕ) × (n ≤ length chain) × AreAt n user image 0 books
    pub ended : (user : ℕ → U)
        → AreOpened first user 0 starts
        → AreBooksClean images user 0 books
        → length chain < 2 ^ 64
        → HaveEnded (length chain) user now 0 books
    -- so does each image that a crash may leave now
    pub lasts : (user : ℕ → U)
        → AreOpened first user 0 starts
        → AreBooksClean images user 0 books
        → length chain < 2 ^ 64
        → (image : ByAccount C) → images_now image
        → HaveEnded (length chain) user image 0 books
