-- How the names of records are spelled.
use Rattle.std.specs.Prelude.{◌≡◌, ℕ, ◌+◌, ◌/◌, ◌%◌, ◌^◌, ◌<◌, ◌≤◌, Bool, ◌&&◌, ◌==◌, nat_le, List, [], ◌∷◌, ◌++◌, length, codes, IsTrue}
use Rattle.std.specs.List.{list_all, before_first}
use Rattle.std.specs.Str.{IsUtf8}
use Rattle.std.specs.Fmt.{decimal}
use Rattle.hex.specs.Hex.{encode_lower, IsBytes}
pub use Rattle.home_names.specs.Names.{is_name_byte, is_account_name, is_factor_label}

abbrev pub Bytes : Type 0
Bytes = List ℕ

-- a number below 100,000 in five decimal digits
abbrev pub five_digits : ℕ → Bytes
five_digits n =
    (48 + n / 10000) ∷ (48 + n / 1000 % 10) ∷ (48 + n / 100 % 10) ∷ (48 + n / 10 % 10) ∷ (48 + n % 10) ∷ []

-- what a name says: the account, and which of its records
pub data Parts : Type 0 where
  -- the account's stash
  Stash : Bytes → Parts
  -- a factor's record, by the factor's label and the record's edition
  Factor : Bytes → Bytes → ℕ → Parts
  -- a leaf's record, by the leaf's label
  Leaf : Bytes → ℕ → Parts
  -- a vault file, by the file's name
  File : Bytes → Bytes → Parts

abbrev pub owner_of : Parts → Bytes
owner_of (Stash account) = account
owner_of (Factor account label edition) = account
owner_of (Leaf account label) = account
owner_of (File account name) = account

-- the parts are in their own grammars
abbrev pub AreParts : Parts → Type 0
AreParts (Stash account) = IsTrue (is_account_name account)
AreParts (Factor account label edition) =
    IsTrue (is_account_name account) × IsTrue (is_factor_label label) × (edition < 2 ^ 64)
AreParts (Leaf account label) = IsTrue (is_account_name account) × (label < 16384)
AreParts (File account name) =
    IsTrue (is_account_name account) × (1 ≤ length name) × (length name ≤ 64) × IsBytes name × IsUtf8 name

-- the full stop behind the account, and what follows it
unfoldable pub stash_end : Bytes
stash_end = codes ".stash"

unfoldable pub factor_end : Bytes → ℕ → Bytes
factor_end label edition = codes ".fac." ++ (label ++ 46 ∷ decimal edition)

unfoldable pub leaf_end : ℕ → Bytes
leaf_end label = codes ".leaf." ++ five_digits label

unfoldable pub file_end : Bytes → Bytes
file_end name = codes ".file." ++ encode_lower name

abbrev pub stash_name : Bytes → Bytes
stash_name account = account ++ stash_end

abbrev pub factor_name : Bytes → Bytes → ℕ → Bytes
factor_name account label edition = account ++ factor_end label edition

abbrev pub leaf_name : Bytes → ℕ → Bytes
leaf_name account label = account ++ leaf_end label

abbrev pub file_name : Bytes → Bytes → Bytes
file_name account name = account ++ file_end name

abbrev pub end_of : Parts → Bytes
end_of (Stash account) = stash_end
end_of (Factor account label edition) = factor_end label edition
end_of (Leaf account label) = leaf_end label
end_of (File account name) = file_end name

-- the name of a record
abbrev pub name_of : Parts → Bytes
name_of parts = owner_of parts ++ end_of parts

-- the text is the name of a record
pub record IsRecordName (name : Bytes) : Type 0 where
  pub parts : Parts
  pub are : AreParts parts
  pub spelled : name ≡ name_of parts

abbrev pub is_full_stop : ℕ → Bool
is_full_stop byte = byte == 46

-- what stands before the first full stop: in a record's name the account
abbrev pub account_of : Bytes → Bytes
account_of name = before_first is_full_stop name

-- what a record's name has behind the account and its full stop
abbrev pub tail_of : Parts → Bytes
tail_of (Stash account) = codes "stash"
tail_of (Factor account label edition) = codes "fac." ++ (label ++ 46 ∷ decimal edition)
tail_of (Leaf account label) = codes "leaf." ++ five_digits label
tail_of (File account name) = codes "file." ++ encode_lower name
