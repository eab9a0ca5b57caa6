-- The grammars of account names, of factor labels and of record names.
use Rattle.std.specs.Prelude.{◌≡◌, ℕ, Bool, ◌&&◌, ◌||◌, nat_le, List, ◌++◌, length, codes, IsTrue}
use Rattle.std.specs.List.{list_all}

-- a to z and 0 to 9
abbrev pub is_name_byte : ℕ → Bool
is_name_byte byte = (nat_le 97 byte && nat_le byte 122) || (nat_le 48 byte && nat_le byte 57)

-- the name of an account: 1 to 32 such bytes
abbrev pub is_account_name : List ℕ → Bool
is_account_name name =
    nat_le 1 (length name) && nat_le (length name) 32 && list_all is_name_byte name

-- the label of a factor: 1 to 16 such bytes
abbrev pub is_factor_label : List ℕ → Bool
is_factor_label label =
    nat_le 1 (length label) && nat_le (length label) 16 && list_all is_name_byte label

-- the name of an account's stash record
abbrev pub stash_name : List ℕ → List ℕ
stash_name account = account ++ codes ".stash"

-- the name of a record: that of an account's stash
pub record IsRecordName (name : List ℕ) : Type 0 where
  pub account : List ℕ
  pub plain : IsTrue (is_account_name account)
  pub spelled : name ≡ stash_name account
