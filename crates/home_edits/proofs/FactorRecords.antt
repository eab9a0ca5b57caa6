-- An account's records once a factor's record and the stash are put, and a factor's record is removed.
use Rattle.std.proofs.Common.{◌≡◌, ◌≢◌, ℕ, ◌<◌, ◌^◌, Some, sym, ap, ◌∙◌, subst, ◌⊎◌, inl, inr, ⊎_elim, arith}
use Rattle.std.specs.Prelude.{IsSome, IsTrue}
use Rattle.std.specs.FinMap.{get, insert, remove}
use Rattle.record_names.specs.Names.{is_account_name, is_factor_label, stash_name, factor_name}
use Rattle.share_api.specs.Contents.{Bytes, Records}
use Rattle.stored_home.proofs.MapLemmas.{same_or_apart, put_at, put_other, taken_at, taken_other, some_not_None}
use Rattle.stored_home.proofs.NameLemmas.{factor_tells_label, factor_tells_edition}
use Rattle.home_edits.proofs.FactorKept.{SameOthers}
use Rattle.home_edits.proofs.NamesApart.{stash_apart_factor, stash_apart_file, factor_apart_file}

module _ (account : Bytes) (plain : IsTrue (is_account_name account)) (records : Records) (stash_bytes : Bytes) where
  -- the stash is put
  abbrev with_stash : Records
  with_stash = insert records (stash_name account) stash_bytes

  pub stash_others : (label : Bytes) → SameOthers account label records with_stash
  stash_others label = record {
    rows = λ q edition labelled within away. put_other records (stash_name account) stash_bytes
        (factor_name account q edition)
        (λ e. stash_apart_factor account q edition (sym e));
    files = λ name are. put_other records (stash_name account) stash_bytes
        (Rattle.record_names.specs.Names.file_name account name)
        (λ e. stash_apart_file account name (sym e));
  }

  pub stash_names : (q : Bytes) → IsSome (get with_stash q) → (q ≡ stash_name account) ⊎ IsSome (get records q)
  stash_names q there = ⊎_elim inl (λ away. inr (subst IsSome
      (put_other records (stash_name account) stash_bytes q away) there))
      (same_or_apart q (stash_name account))

module _ (account : Bytes) (label : Bytes) (edition : ℕ) (records : Records) where
  -- a factor's record is removed
  abbrev without : Records
  without = remove records (factor_name account label edition)

  pub removed_stash : get without (stash_name account) ≡ get records (stash_name account)
  removed_stash = taken_other records (factor_name account label edition) (stash_name account)
      (stash_apart_factor account label edition)

  pub removed_names : (q : Bytes) → IsSome (get without q) → IsSome (get records q) ×
      (q ≢ factor_name account label edition)
  removed_names q there = ⊎_elim
      (λ e. absurd (some_not_None (get without q) there (ap (get without) e ∙ taken_at records
      (factor_name account label edition))))
      (λ away. (subst IsSome (taken_other records (factor_name account label edition) q away) there, away))
      (same_or_apart q (factor_name account label edition))

  pub removed_others : (plain : IsTrue (is_account_name account)) → IsTrue (is_factor_label label) → edition < 2 ^ 64
      → SameOthers account label records without
  removed_others plain labelled within = record {
    rows = λ q other q_labelled q_within away. taken_other records (factor_name account label edition)
        (factor_name account q other)
        (λ e. away (factor_tells_label account plain q label other edition q_labelled labelled q_within within e));
    files = λ name are. taken_other records (factor_name account label edition)
        (Rattle.record_names.specs.Names.file_name account name)
        (λ e. factor_apart_file account label edition name (sym e));
  }

-- others that stay twice stay
pub others_then : (account label : Bytes) (one two three : Records) → SameOthers account label one two → SameOthers
    account label two three
    → SameOthers account label one three
others_then account label one two three p q = record {
  rows = λ l e labelled within away. q.rows l e labelled within away ∙ p.rows l e labelled within away;
  files = λ name are. q.files name are ∙ p.files name are;
}

module _ (account : Bytes) (plain : IsTrue (is_account_name account)) (label : Bytes) (edition : ℕ)
    (labelled : IsTrue (is_factor_label label)) (within : edition < 2 ^ 64) (records : Records)
    (row_bytes stash_bytes : Bytes) where
  -- a factor's record is put, and then the stash
  abbrev pub with_both : Records
  with_both = insert (insert records (factor_name account label edition) row_bytes) (stash_name account) stash_bytes

  pub both_stash : get with_both (stash_name account) ≡ Some stash_bytes
  both_stash = put_at (insert records (factor_name account label edition) row_bytes) (stash_name account) stash_bytes

  pub both_row : get with_both (factor_name account label edition) ≡ Some row_bytes
  both_row = put_other (insert records (factor_name account label edition) row_bytes) (stash_name account) stash_bytes
      (factor_name account label edition) (λ e. stash_apart_factor account label edition (sym e))
      ∙ put_at records (factor_name account label edition) row_bytes

  row_others : SameOthers account label records (insert records (factor_name account label edition) row_bytes)
  row_others = record {
    rows = λ q other q_labelled q_within away. put_other records (factor_name account label edition) row_bytes
        (factor_name account q other)
        (λ e. away (factor_tells_label account plain q label other edition q_labelled labelled q_within within e));
    files = λ name are. put_other records (factor_name account label edition) row_bytes
        (Rattle.record_names.specs.Names.file_name account name)
        (λ e. factor_apart_file account label edition name (sym e));
  }

  pub both_others : SameOthers account label records with_both
  both_others = others_then account label records (insert records (factor_name account label edition) row_bytes)
      with_both row_others
      (stash_others account plain (insert records (factor_name account label edition) row_bytes) stash_bytes label)

  pub both_names : (q : Bytes) → IsSome (get with_both q)
      → (q ≡ stash_name account) ⊎ (q ≡ factor_name account label edition) ⊎ IsSome (get records q)
  both_names q there = ⊎_elim inl
      (λ was. inr (⊎_elim inl (λ away. inr (subst IsSome (put_other records (factor_name account label edition)
      row_bytes q away) was))
      (same_or_apart q (factor_name account label edition))))
      (stash_names account plain (insert records (factor_name account label edition) row_bytes) stash_bytes q there)

  -- the removal of an older record of the label leaves the new one
  pub removed_row : (old : ℕ) → old < edition
      → get (remove with_both (factor_name account label old)) (factor_name account label edition) ≡ Some row_bytes
  removed_row old below = taken_other with_both (factor_name account label old) (factor_name account label edition)
      (λ e. let same : edition ≡ old = factor_tells_edition account plain label label edition old labelled labelled
      within
      (omega (arith, below, within)) e in omega (arith, below, same))
      ∙ both_row
