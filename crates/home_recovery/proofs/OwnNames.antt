-- The names of an account's records, by what follows the account.
use Rattle.std.proofs.Common.{◌≡◌, ℕ, ◌+◌, ◌<◌, ◌≤◌, ◌/◌, ◌%◌, ◌∷◌, ◌++◌, length, take, drop, get_or, codes, refl, sym, ap, ◌∙◌, subst, inl, inr, length-append, arith}
use Rattle.std.proofs.lemmas.List.{take_at, append_cancel_left}
use Rattle.std.proofs.Math.Seq.{drop-append_seam}
use Rattle.std.specs.Prelude.{IsTrue}
use Rattle.std.specs.List.{after_first}
use Rattle.hex.specs.Hex.{encode_lower}
use Rattle.record_names.specs.Names.{Bytes, Parts, Stash, Factor, Leaf, File, AreParts, IsRecordName, owner_of, name_of, tail_of, is_account_name, is_full_stop, account_of, five_digits, stash_name, factor_name, leaf_name, file_name, file_end}
use Rattle.record_names.proofs.NameLemmas.{tail_is, before_full_stop, after_full_stop, bytes-account, account_of-name}
use Rattle.share_api.specs.Conditions.{IsFiledName}
use Rattle.home_recovery.specs.Sweeps.{IsFileRecord}

abbrev byte_at : ℕ → Bytes → ℕ
byte_at n bytes = get_or bytes n 0

-- two names of accounts' records that are one have one tail, whatever their labels are
tails_same : (p q : Parts) → IsTrue (is_account_name (owner_of p)) → IsTrue (is_account_name (owner_of q)) → name_of p ≡ name_of q
    → tail_of p ≡ tail_of q
tails_same p q plain other e =
    sym (after_full_stop (owner_of p) (tail_of p) (bytes-account (owner_of p) plain))
    ∙ ap (after_first is_full_stop) (ap (λ (rest : Bytes). owner_of p ++ rest) (sym (tail_is p)) ∙ e ∙ ap (λ (rest : Bytes). owner_of q ++ rest) (tail_is q))
    ∙ after_full_stop (owner_of q) (tail_of q) (bytes-account (owner_of q) other)

account_by : (p : Parts) → IsTrue (is_account_name (owner_of p)) → account_of (name_of p) ≡ owner_of p
account_by p plain =
    ap (λ (rest : Bytes). account_of (owner_of p ++ rest)) (tail_is p)
    ∙ before_full_stop (owner_of p) (tail_of p) (bytes-account (owner_of p) plain)

module _ (account : Bytes) (plain : IsTrue (is_account_name account)) where
  -- the account of a record's name
  pub filed_account : (name : Bytes) → IsFiledName account name → account_of name ≡ account
  filed_account name (inl e) = ap account_of e ∙ account_by (Stash account) plain
  filed_account name (inr (inl f)) = ap account_of f.2 ∙ account_by (Factor account f.0 f.1) plain
  filed_account name (inr (inr f)) = ap account_of f.1 ∙ account_by (File account f.0) plain

  -- a record's name isn't a leaf's
  pub filed_not_leaf : (name one : Bytes) (tree : ℕ) → IsTrue (is_account_name one) → IsFiledName account name
      → name ≡ leaf_name one tree → ⊥
  filed_not_leaf name one tree other (inl e) is =
      let x : ◌≡◌ {A = ℕ} 115 108 = ap (byte_at 0) (tails_same (Stash account) (Leaf one tree) plain other (sym e ∙ is)) in
      omega (arith, x)
  filed_not_leaf name one tree other (inr (inl f)) is =
      let x : ◌≡◌ {A = ℕ} 102 108 = ap (byte_at 0) (tails_same (Factor account f.0 f.1) (Leaf one tree) plain other (sym f.2 ∙ is)) in
      omega (arith, x)
  filed_not_leaf name one tree other (inr (inr f)) is =
      let x : ◌≡◌ {A = ℕ} 102 108 = ap (byte_at 0) (tails_same (File account f.0) (Leaf one tree) plain other (sym f.1 ∙ is)) in
      omega (arith, x)

  -- a vault file's name is no factor's, whatever the label is
  pub file_not_row : (file label : Bytes) (edition : ℕ) → file_name account file ≡ factor_name account label edition → ⊥
  file_not_row file label edition e =
      let x : ◌≡◌ {A = ℕ} 105 97 = ap (byte_at 1) (tails_same (File account file) (Factor account label edition) plain plain e) in
      omega (arith, x)

  -- a name of the account's that is no leaf's is one of a record
  pub own_filed : (name : Bytes) → IsRecordName name → account_of name ≡ account
      → ((one : Bytes) (label : ℕ) → IsTrue (is_account_name one) → label < 16384 → name ≡ leaf_name one label → ⊥)
      → IsFiledName account name
  own_filed name is own none = by is.parts is.are is.spelled
    where
      same : (p : Parts) → AreParts p → name ≡ name_of p → owner_of p ≡ account
      same p are e = sym (account_of-name p are) ∙ sym (ap account_of e) ∙ own

      by : (p : Parts) → AreParts p → name ≡ name_of p → IsFiledName account name
      by (Stash a) are e = inl (e ∙ ap stash_name (same (Stash a) are e))
      by (Factor a label edition) are e =
          inr (inl (label, edition, e ∙ ap (λ (x : Bytes). factor_name x label edition) (same (Factor a label edition) are e)))
      by (Leaf a label) are e = absurd (none a label are.0 are.1 e)
      by (File a file) are e = inr (inr (file, e ∙ ap (λ (x : Bytes). file_name x file) (same (File a file) are e)))

  -- ---- vault files' names

  -- behind the account they have `.file.`
  pub mark_of_file : (name : Bytes) → IsFileRecord account name
      → (length account + 6 ≤ length name) × (take 6 (drop (length account) name) ≡ codes ".file.")
  unfolding file_end
  mark_of_file name is =
      let whole : name ≡ account ++ (codes ".file." ++ encode_lower is.0) = is.2 in
      let sizes = ap length whole in
      let one = length-append account (codes ".file." ++ encode_lower is.0) in
      let two = length-append (codes ".file.") (encode_lower is.0) in (
        omega (arith, sizes, one, two),
        ap (λ (xs : Bytes). take 6 (drop (length account) xs)) whole
            ∙ ap (take 6) (drop-append_seam account (codes ".file." ++ encode_lower is.0))
            ∙ take_at (codes ".file.") (encode_lower is.0) 6 refl,
      )

  -- and no other name has that
  pub file_of_mark : (name : Bytes) → IsRecordName name → account_of name ≡ account
      → take 6 (drop (length account) name) ≡ codes ".file." → IsFileRecord account name
  file_of_mark name is own mark = by is.parts is.are is.spelled
    where
      same : (p : Parts) → AreParts p → name ≡ name_of p → owner_of p ≡ account
      same p are e = sym (account_of-name p are) ∙ sym (ap account_of e) ∙ own

      behind : (p : Parts) → AreParts p → name ≡ name_of p → take 6 (46 ∷ tail_of p) ≡ codes ".file."
      behind p are e =
          ap (take 6) (sym (drop-append_seam account (46 ∷ tail_of p))
          ∙ ap (drop (length account)) (ap (λ (x : Bytes). x ++ (46 ∷ tail_of p)) (sym (same p are e))
          ∙ ap (λ (rest : Bytes). owner_of p ++ rest) (sym (tail_is p)) ∙ sym e)) ∙ mark

      by : (p : Parts) → AreParts p → name ≡ name_of p → IsFileRecord account name
      by (Stash a) are e = let x : ◌≡◌ {A = ℕ} 115 102 = ap (byte_at 1) (behind (Stash a) are e) in absurd (omega (arith, x))
      by (Factor a label edition) are e =
          let x : ◌≡◌ {A = ℕ} 97 105 = ap (byte_at 2) (behind (Factor a label edition) are e) in absurd (omega (arith, x))
      by (Leaf a label) are e = let x : ◌≡◌ {A = ℕ} 108 102 = ap (byte_at 1) (behind (Leaf a label) are e) in absurd (omega (arith, x))
      by (File a file) are e =
          let owner : a ≡ account = same (File a file) are e in
          (file, subst (λ (x : Bytes). AreParts (File x file)) owner are, e ∙ ap (λ (x : Bytes). file_name x file) owner)

-- ---- leaves' names

five_same : (m n : ℕ) → five_digits m ≡ five_digits n → m ≡ n
five_same m n e =
    let a : 48 + m / 10000 ≡ 48 + n / 10000 = ap (λ (ds : Bytes). get_or ds 0 0) e in
    let b : 48 + m / 1000 % 10 ≡ 48 + n / 1000 % 10 = ap (λ (ds : Bytes). get_or ds 1 0) e in
    let c : 48 + m / 100 % 10 ≡ 48 + n / 100 % 10 = ap (λ (ds : Bytes). get_or ds 2 0) e in
    let d : 48 + m / 10 % 10 ≡ 48 + n / 10 % 10 = ap (λ (ds : Bytes). get_or ds 3 0) e in
    let f : 48 + m % 10 ≡ 48 + n % 10 = ap (λ (ds : Bytes). get_or ds 4 0) e in
    omega arith

-- a leaf's name tells its label
pub leaf_tells : (one other : Bytes) (m n : ℕ) → IsTrue (is_account_name one) → IsTrue (is_account_name other)
    → leaf_name one m ≡ leaf_name other n → m ≡ n
leaf_tells one other m n p q e =
    five_same m n (append_cancel_left (codes "leaf.") (five_digits m) (five_digits n) (tails_same (Leaf one m) (Leaf other n) p q e))

-- which is in its bounds where the name is one of a record
pub leaf_within : (name one : Bytes) (tree : ℕ) → IsRecordName name → IsTrue (is_account_name one) → name ≡ leaf_name one tree
    → tree < 16384
leaf_within name one tree is plain e = by is.parts is.are is.spelled
  where
    by : (p : Parts) → AreParts p → name ≡ name_of p → tree < 16384
    by (Stash a) are s =
        let x : ◌≡◌ {A = ℕ} 115 108 = ap (byte_at 0) (tails_same (Stash a) (Leaf one tree) are plain (sym s ∙ e)) in absurd (omega (arith, x))
    by (Factor a label edition) are s =
        let x : ◌≡◌ {A = ℕ} 102 108 = ap (byte_at 0) (tails_same (Factor a label edition) (Leaf one tree) are.0 plain (sym s ∙ e)) in
        absurd (omega (arith, x))
    by (Leaf a n) are s = subst (λ (t : ℕ). t < 16384) (leaf_tells a one n tree are.0 plain (sym s ∙ e)) are.1
    by (File a file) are s =
        let x : ◌≡◌ {A = ℕ} 102 108 = ap (byte_at 0) (tails_same (File a file) (Leaf one tree) are.0 plain (sym s ∙ e)) in
        absurd (omega (arith, x))
