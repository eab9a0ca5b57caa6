-- The contents by which an account's steps lead to what an image has.
use Rattle.std.specs.Prelude.{◌≡◌, ◌≤◌, ◌<◌, ℕ, List, take, length}
use Rattle.std.specs.List.{AllByRecursion}
use Rattle.board_model.specs.Disk.{Image, Disk}
use Rattle.home_image.specs.Parts.{Meaning}
use Rattle.home_image.specs.Steps.{Fold}
use Rattle.home_image.specs.Chain.{steps_of}
use Rattle.home_image.specs.Book.{AreClean}
use Rattle.home_image.specs.Settled.{IsLed}
use Rattle.turn_lock.specs.Lists.{entries_of}
use Rattle.image_path.specs.Showing.{ByAccount}

-- the parts that are shown by an image which a crash since the tick might have left
abbrev pub shown_since : {C : Type 0} → (Image → ByAccount C → Type 0) → Disk → ℕ → ByAccount C → Type 0
shown_since shows disk t parts = (i : Image) × disk.left_since t i × shows i parts

-- some image has these contents of the account
abbrev pub IsPart : {C : Type 0} → (ByAccount C → Type 0) → ℕ → C → Type 0
IsPart {C} images account contents =
    (image : ByAccount C) × images image × (contents ≡ image account)

module _ {C S : Type 0} (account_of : S → ℕ) (does : C → S → C → Type 0) where
  -- the account's steps in the chain
  abbrev pub own_steps : ℕ → List S → List S
  own_steps account chain = steps_of (entries_of account_of account chain)

  -- the step leads to contents that some image has
  abbrev pub DoesIn : (ByAccount C → Type 0) → ℕ → C → S → C → Type 0
  DoesIn images account old step new = does old step new × IsPart images account new

  -- the account's steps lead from the first contents to the last, by contents that images have
  pub record IsPath (images : ByAccount C → Type 0) (chain : List S) (account : ℕ) (first last : C)
      : Type 0 where
    pub start : IsPart images account first
    pub fold : Fold (DoesIn images account) first (own_steps account chain) last

  -- of each account its steps in the chain lead to the contents among these parts
  abbrev pub ArePaths : (ByAccount C → Type 0) → List S → ByAccount C → ByAccount C → Type 0
  ArePaths images chain first parts =
      (account : ℕ) → IsPath images chain account (first account) (parts account)

  module _ (shows : Image → ByAccount C → Type 0) (since : ℕ) (first : ByAccount C) where
    -- Every image now shows what all the steps lead to. `since` is the tick of the start.
    pub record Stands (disk : Disk) (chain : List S) : Type 0 where
      pub later : since ≤ disk.ticks
      pub image : (i : Image) → disk.may_leave i
          → (parts : ByAccount C) × shows i parts × ArePaths (shown_since shows disk since) chain first parts

    -- Every image since the tick shows what the first n steps lead to, where n is at least this number.
    pub record StandsSince (tick ended : ℕ) (disk : Disk) (chain : List S) : Type 0 where
      pub later : tick ≤ disk.ticks
      pub image : (i : Image) → disk.left_since tick i
          → (parts : ByAccount C) × shows i parts
          × (n : ℕ) × (ended ≤ n) × (n ≤ length chain)
          × ArePaths (shown_since shows disk since) (take n chain) first parts

module _ {C S D U E X : Type 0} (m : Meaning C S D U E X) where
  -- the same with the list of these contents, as the books need it
  pub record IsLedIn (images : ByAccount C → Type 0) (chain : List S) (account : ℕ) (first last : C)
      : Type 0 where
    pub seen : List C
    pub parts : AllByRecursion (IsPart images account) seen
    pub led : IsLed m chain account seen first last

  -- of each account the steps among the first n lead to these parts
  pub record IsLeftAt (n : ℕ) (first : ByAccount C) (images : ByAccount C → Type 0) (chain : List S)
      (image : ByAccount C) : Type 0 where
    pub within : n ≤ length chain
    pub each : (account : ℕ) → IsLedIn images (take n chain) account (first account) (image account)

  -- Each image has of each account what its steps among the first n lead to, for one n. `images` are the
  -- parts shown since the start.
  pub record Recovers (first now : ByAccount C) (images : ByAccount C → Type 0) (chain : List S)
      : Type 0 where
    pub image : (image : ByAccount C) → images image → (n : ℕ) × IsLeftAt n first images chain image
    pub now_is : (account : ℕ) → IsLedIn images chain account (first account) (now account)

  -- no inputs coincide that are recorded of parts of images since the start, and of the books
  abbrev pub AreBooksClean : (Image → ByAccount C → Type 0) → ℕ → Disk
      → ℕ → (ℕ → U) → (ℕ → List E) → Type 0
  AreBooksClean shows since disk accounts user book = (account : ℕ) → account < accounts
      → (seen : List C) → AllByRecursion (IsPart (shown_since shows disk since) account) seen
      → AreClean m seen (user account) (book account)
