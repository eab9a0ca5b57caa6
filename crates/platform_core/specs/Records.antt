-- The accounts' records in an image.
use Rattle.std.specs.Prelude.{◌≡◌, ◌≢◌, ℕ, ◌<◌, List, [], get_or, take, option_map, None, IsSome, Contains, bytes_eq}
use Rattle.std.specs.Prelude.{IsSorted}
use Rattle.std.specs.List.{IsDistinct}
use Rattle.std.specs.Ordering.{nat_cmp}
use Rattle.std.specs.Cmp.Lexicographic.{slice_cmp}
use Rattle.std.specs.FinMap.{get, empty}
use Rattle.board_model.specs.Files.{IsTemporary}
use Rattle.board_model.specs.Disk.{Image}
use Rattle.record_names.specs.Names.{IsRecordName, account_of, leaf_name}
use Rattle.cabinet.specs.Named.{IsThere}
use Rattle.share_api.specs.Contents.{Bytes, Contents}
use Rattle.image_path.specs.Showing.{ByAccount}

-- the name is that of a record of the account, and not a leaf's
pub record IsRecordOf (account name : Bytes) : Type 0 where
  pub named : IsRecordName name
  pub own : account_of name ≡ account
  pub filed : (label : ℕ) → label < 16384 → name ≢ leaf_name account label

-- The contents are what the account has in the image: its records, of each at most the first 49,182 bytes, and
-- no leaves.
pub record AreContents (image : Image) (account : Bytes) (contents : Contents) : Type 0 where
  pub records : (q : Bytes) → IsRecordOf account q
      → get contents.records q ≡ option_map (take 49182) (get image.files q)
  pub only : (q : Bytes) → IsSome (get contents.records q) → IsRecordOf account q
  pub leaves : contents.leaves ≡ empty
  pub clear : contents.doubt ≡ None

-- the account with this number; past the last there is none, and no record is its own
abbrev pub account_at : List Bytes → ℕ → Bytes
account_at accounts number = get_or accounts number []

-- each account stands once
abbrev pub AreDistinct : List Bytes → Type 0
AreDistinct accounts = IsDistinct bytes_eq accounts

-- the image has these contents of the accounts
abbrev pub Shows : List Bytes → Image → ByAccount Contents → Type 0
Shows accounts image parts = (number : ℕ) → AreContents image (account_at accounts number) (parts number)

-- the image shows some contents of the accounts
abbrev pub ShowsSome : List Bytes → Image → Type 0
ShowsSome accounts image = (parts : ByAccount Contents) × Shows accounts image parts

-- each of these images does
abbrev pub AllShow : List Bytes → (Image → Type 0) → Type 0
AllShow accounts images = (image : Image) → images image → ShowsSome accounts image

-- the names are those of the account's records that are there, each once, in rising order of bytes
pub record AreNames (account : Bytes) (now : Image) (names : List Bytes) : Type 0 where
  pub every : (q : Bytes) → IsRecordOf account q → IsThere now q → Contains names q
  pub only : (q : Bytes) → Contains names q → IsRecordOf account q × IsThere now q
  pub once : IsDistinct bytes_eq names
  pub rising : IsSorted (slice_cmp nat_cmp) names

-- the words stay, and each file that isn't temporary and no account's record
pub record OthersKept (accounts : List Bytes) (old new : Image) : Type 0 where
  pub words : new.words ≡ old.words
  pub files : (q : Bytes) → ¬ IsTemporary q → ((number : ℕ) → ¬ IsRecordOf (account_at accounts number) q)
      → get new.files q ≡ get old.files q
