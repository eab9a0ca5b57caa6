-- What an opening finds, and what is gone after it.
use Rattle.std.specs.Prelude.{◌≡◌, ◌⊎◌, ℕ, ◌<◌, ◌≤◌, List, [], length, map, None, IfSome, Contains, bytes_eq}
use Rattle.std.specs.List.{IsDistinct}
use Rattle.std.specs.FinMap.{get, keys}
use Rattle.board_model.specs.Files.{IsTemporary}
use Rattle.record_names.specs.Names.{IsRecordName, account_of}
use Rattle.cabinet.specs.Names.{with_names}
use Rattle.board_model.specs.Disk.{Image, Disk}

-- no image has the file, once the directory is synced
abbrev pub LacksOnceSynced : Disk → List ℕ → Type 0
LacksOnceSynced disk name = (i : Image) → disk.once_synced i → get i.files name ≡ None

-- no image has the file
abbrev pub Lacks : Disk → List ℕ → Type 0
Lacks disk name = (i : Image) → disk.may_leave i → get i.files name ≡ None

-- the files, where the board tells its content
abbrev pub AreListed : Disk → List (List ℕ) → Type 0
AreListed disk files = IfSome disk.now (λ now. files ≡ keys now.files)

-- the names are those of records among the files
pub record AreRead (files names : List (List ℕ)) : Type 0 where
  pub found : (q : List ℕ) → IsRecordName q → Contains files q → Contains names q
  pub only : (q : List ℕ) → Contains names q → IsRecordName q × Contains files q
  -- each stands as often as its file does
  pub once : IsDistinct bytes_eq files → IsDistinct bytes_eq names

-- those that are named, each once, in the order given, and then the others of the records, in their order
abbrev pub accounts_found : List (List ℕ) → List (List ℕ) → List (List ℕ)
accounts_found named names = with_names (with_names [] named) (map account_of names)

-- the names and accounts of these files; there aren't too many
pub record AreFound (files named : List (List ℕ)) (most : ℕ) (names accounts : List (List ℕ)) : Type 0 where
  pub read : AreRead files names
  pub accounts_are : accounts ≡ accounts_found named names
  pub few_accounts : length accounts ≤ 64
  pub few_names : length names ≤ most

-- there are too many accounts or names among these files
pub record AreTooMany (files named : List (List ℕ)) (most accounts names : ℕ) : Type 0 where
  pub read_names : List (List ℕ)
  pub read : AreRead files read_names
  pub names_are : names ≡ length read_names
  pub accounts_are : accounts ≡ length (accounts_found named read_names)
  pub many : (64 < accounts) ⊎ (most < names)

-- after an opening: what was found, and no crash leaves a temporary file that was listed
pub record Opened (old new : Disk) (named : List (List ℕ)) (most : ℕ) (names accounts : List (List ℕ)) : Type 0 where
  pub files : List (List ℕ)
  pub listed : AreListed old files
  pub found : AreFound files named most names accounts
  pub gone : (q : List ℕ) → Contains files q → IsTemporary q → Lacks new q
