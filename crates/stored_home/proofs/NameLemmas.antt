-- Names of an account's records that differ.
use Rattle.std.proofs.Common.{◌≡◌, ◌≢◌, ℕ, ◌<◌, ◌^◌, ap, arith}
use Rattle.std.specs.Prelude.{IsTrue}
use Rattle.record_names.specs.Names.{Bytes, Parts, Stash, Factor, Leaf, File, AreParts, is_account_name, is_factor_label, stash_name, factor_name, file_name}
use Rattle.record_names.proofs.NameLemmas.{names_tell}

-- which kind of record it is
abbrev kind_of : Parts → ℕ
kind_of (Stash account) = 0
kind_of (Factor account label edition) = 1
kind_of (Leaf account label) = 2
kind_of (File account name) = 3

abbrev label_of : Parts → Bytes
label_of (Stash account) = account
label_of (Factor account label edition) = label
label_of (Leaf account label) = account
label_of (File account name) = name

abbrev edition_in : Parts → ℕ
edition_in (Stash account) = 0
edition_in (Factor account label edition) = edition
edition_in (Leaf account label) = 0
edition_in (File account name) = 0

module _ (account : Bytes) (plain : IsTrue (is_account_name account)) where
  -- a factor's record isn't the stash
  pub factor_not_stash : (label : Bytes) (edition : ℕ) → IsTrue (is_factor_label label) → edition < 2 ^ 64
      → factor_name account label edition ≢ stash_name account
  factor_not_stash label edition labelled within same =
      let e : ◌≡◌ {A = ℕ} 1 0 = ap kind_of (names_tell (Factor account label edition) (Stash account)
      (plain, labelled, within) plain same) in
      omega (arith, e)

  -- a vault file isn't the stash
  pub file_not_stash : (name : Bytes) → AreParts (File account name) → file_name account name ≢ stash_name account
  file_not_stash name are same =
      let e : ◌≡◌ {A = ℕ} 3 0 = ap kind_of (names_tell (File account name) (Stash account) are plain same) in
      omega (arith, e)

  -- a vault file isn't a factor's record
  pub file_not_factor : (name label : Bytes) (edition : ℕ) → AreParts (File account name)
      → IsTrue (is_factor_label label) → edition < 2 ^ 64
      → file_name account name ≢ factor_name account label edition
  file_not_factor name label edition are labelled within same =
      let e : ◌≡◌ {A = ℕ} 3 1 = ap kind_of (names_tell (File account name) (Factor account label edition) are
      (plain, labelled, within) same) in
      omega (arith, e)

  -- a factor's record tells its label and its edition
  pub factor_tells_label : (one other : Bytes) (e f : ℕ) → IsTrue (is_factor_label one) → IsTrue (is_factor_label other)
      → e < 2 ^ 64 → f < 2 ^ 64 → factor_name account one e ≡ factor_name account other f → one ≡ other
  factor_tells_label one other e f p q within inside same =
      ap label_of (names_tell (Factor account one e) (Factor account other f) (plain, p, within) (plain, q, inside) same)

  pub factor_tells_edition : (one other : Bytes) (e f : ℕ) → IsTrue (is_factor_label one) → IsTrue (is_factor_label other)
      → e < 2 ^ 64 → f < 2 ^ 64 → factor_name account one e ≡ factor_name account other f → e ≡ f
  factor_tells_edition one other e f p q within inside same =
      ap edition_in (names_tell (Factor account one e) (Factor account other f) (plain, p, within) (plain, q, inside) same)

  -- a vault file's name tells the file
  pub file_tells_name : (one other : Bytes) → AreParts (File account one) → AreParts (File account other)
      → file_name account one ≡ file_name account other → one ≡ other
  file_tells_name one other p q same = ap label_of (names_tell (File account one) (File account other) p q same)
