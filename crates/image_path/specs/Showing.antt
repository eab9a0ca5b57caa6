-- What one device step does to all accounts, and to what a crash may leave.
use Rattle.std.specs.Prelude.{◌≡◌, ◌≢◌, ◌⊎◌, ◌≤◌, ℕ}
use Rattle.board_model.specs.Disk.{Image, Disk, Effect, Follows, Leaves}

-- the accounts' contents, by the account's number
abbrev pub ByAccount : Type 0 → Type 0
ByAccount C = ℕ → C

-- both families have the same contents of each account
abbrev pub AreSame : {C : Type 0} → ByAccount C → ByAccount C → Type 0
AreSame old new = (account : ℕ) → new account ≡ old account

module _ {C S : Type 0} (account_of : S → ℕ) (does : C → S → C → Type 0) where
  -- one account's contents go on by its step, and the others' stay
  pub record Makes (step : S) (old new : ByAccount C) : Type 0 where
    pub own : does (old (account_of step)) step (new (account_of step))
    pub others : (account : ℕ) → account ≢ account_of step → new account ≡ old account

  -- the step is done, or not
  abbrev pub MakesOrNot : S → ByAccount C → ByAccount C → Type 0
  MakesOrNot step old new = AreSame old new ⊎ Makes step old new

-- Where an image shows parts, the later image shows parts that come from these by R.
abbrev pub Shown : {C : Type 0} → (Image → ByAccount C → Type 0) → (ByAccount C → ByAccount C → Type 0) → Effect
Shown {C} shows R old new = (parts : ByAccount C) → shows old parts
    → (later : ByAccount C) × shows new later × R parts later

module _ {C S : Type 0} (account_of : S → ℕ) (does : C → S → C → Type 0)
    (shows : Image → ByAccount C → Type 0) where
  -- What a device step does: at each moment a crash may leave an image of before, with the step or
  -- without it, and after it one with the step, by what its reply says.
  pub record StepGoes (old new : Disk) (step : S) : Type 0 where
    pub moments : Leaves old new (Shown shows (MakesOrNot account_of does step))
    pub ended : Follows (Shown shows (Makes account_of does step)) old.may_leave new.may_leave

-- two of the laws of a board, at one moment of it
pub record IsLawful (disk : Disk) : Type 0 where
  pub counts : (t : ℕ) (i : Image) → t ≤ disk.ticks → disk.may_leave i → disk.left_since t i
  pub only : (i : Image) → disk.left_since disk.ticks i → disk.may_leave i
