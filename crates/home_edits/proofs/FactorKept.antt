-- The loaded state once a factor is set or removed.
use Rattle.std.proofs.Common.{◌≡◌, ◌≢◌, ℕ, ◌<◌, ◌^◌, None, Some, Bool, false, sym, ap, ◌∙◌, subst, ◌⊎◌, inl, inr, ⊎_elim, arith}
use Rattle.std.specs.Prelude.{IfSome, IsSome, IsTrue}
use Rattle.std.specs.FinMap.{get, insert, remove}
use Rattle.record_names.specs.Names.{is_factor_label, AreParts, File, stash_name, factor_name, file_name}
use Rattle.share_api.specs.Contents.{Bytes, Contents, Records}
use Rattle.secret_stash.specs.Edits.{without_block}
use Rattle.stash_format.specs.Blocks.{Blocks}
use Rattle.stash_format.specs.declared.block.Block.{Block}
use Rattle.stash_format.specs.declared.contents.Contents.{Contents as Stash}
use Rattle.factor_files.specs.declared.factor.FactorRecord.{FactorRecord}
use Rattle.stored_home.specs.Matching.{Matches}
use Rattle.stored_home.specs.Holds.{IsSound, IsSoundBlock, HasStash}
use Rattle.stored_home.specs.Loaded.{IsRowOf, IsKept, IsNamed, NamesTree, block_in}
use Rattle.stored_home.specs.declared.stored.Stored.{Stored}
use Rattle.stored_home.proofs.MapLemmas.{same_or_apart, put_at, put_other, taken_at, taken_other}
use Rattle.home_edits.proofs.KeptLemmas.{rows_stay}

-- the records of other labels' factors and of vault files are as they were
pub record SameOthers (account label : Bytes) (old new : Records) : Type 0 where
  pub rows : (q : Bytes) (edition : ℕ) → IsTrue (is_factor_label q) → edition < 2 ^ 64 → q ≢ label
      → get new (factor_name account q edition) ≡ get old (factor_name account q edition)
  pub files : (name : Bytes) → AreParts (File account name) → get new (file_name account name) ≡ get old
      (file_name account name)

module _ (lost : Bool) (account : Bytes) (contents new : Contents) (stored : Stored) (stash : Stash) (label : Bytes)
    (kept : IsKept lost contents account stored) (is : stored.stash ≡ Some stash) (sound : IsSound stash)
    (others : SameOthers account label contents.records new.records) (clear : new.doubt ≡ None) where
  -- the record was there, and isn't that of the label's factor
  abbrev WasOther : Bytes → Type 0
  WasOther q = IsSome (get contents.records q)
      × ((old : FactorRecord) → get stored.factors label ≡ Some old → q ≢ factor_name account label old.edition)

  -- the leaf was there, and isn't that of the label's factor
  abbrev WasOtherLeaf : ℕ → Type 0
  WasOtherLeaf tree = IsSome (get contents.leaves tree)
      × ((old : FactorRecord) → get stored.factors label ≡ Some old → old.leaf ≡ Some tree → ⊥)

  -- other labels' blocks keep their records
  other_row : (q : Bytes) → q ≢ label → Matches (IsRowOf new.records account q) (get stash.blocks q)
      (get stored.factors q)
  other_row q away = rows_stay contents.records new.records account q (get stash.blocks q) (get stored.factors q)
      (λ block row x y.
      let s : IsSoundBlock stash.next q block = subst (λ o. IfSome o (IsSoundBlock stash.next q)) x (sound.blocks q) in
      let below = s.below in
      let within = sound.within in
      others.rows q block.edition s.labelled (omega (arith, below, within)) away)
      (subst (λ x. Matches (IsRowOf contents.records account q) (block_in x q) (get stored.factors q)) is
      (kept.is_loaded.rows q))

  files_same : (name : Bytes) → AreParts (File account name)
      → (IsSome (get stored.files name) → IsSome (get new.records (file_name account name)))
      × (IsSome (get new.records (file_name account name)) → IsSome (get stored.files name))
  files_same name are =
      let was = kept.is_loaded.files name are in
      (λ h. subst IsSome (sym (others.files name are)) (was.0 h), λ h. was.1 (subst IsSome (others.files name are) h))

  -- a factor was set: its record and the stash with its block are there, and nothing else is new
  module _ (later : Stash) (block : Block) (blocks_are : later.blocks ≡ insert stash.blocks label block)
      (some : IsSome later.payload) (row : FactorRecord) (there : HasStash new.records account (Some later))
      (its : IsRowOf new.records account label block row)
      (names : (q : Bytes) → IsSome (get new.records q)
      → (q ≡ stash_name account) ⊎ (q ≡ factor_name account label row.edition) ⊎ WasOther q)
      (leaves : lost ≡ false → (tree : ℕ) → IsSome (get new.leaves tree) → (row.leaf ≡ Some tree) ⊎ WasOtherLeaf tree)
    where
      abbrev set : Stored
      set = record stored { stash = Some later; factors = insert stored.factors label row }

      rows_set : (q : Bytes) → Matches (IsRowOf new.records account q) (get later.blocks q)
          (get (insert stored.factors label row) q)
      rows_set q = subst (λ (m : Blocks). Matches (IsRowOf new.records account q) (get m q)
          (get (insert stored.factors label row) q))
          (sym blocks_are) (⊎_elim
          (λ e. subst (λ (n : Bytes). Matches (IsRowOf new.records account n) (get (insert stash.blocks label block) n)
          (get (insert stored.factors label row) n)) (sym e)
          (subst (λ x. Matches (IsRowOf new.records account label) x (get (insert stored.factors label row) label))
          (sym (put_at stash.blocks label block))
          (subst (λ y. Matches (IsRowOf new.records account label) (Some block) y)
          (sym (put_at stored.factors label row)) its)))
          (λ away. subst (λ x. Matches (IsRowOf new.records account q) x (get (insert stored.factors label row) q))
          (sym (put_other stash.blocks label block q away))
          (subst (λ y. Matches (IsRowOf new.records account q) (get stash.blocks q) y)
          (sym (put_other stored.factors label row q away))
          (other_row q away)))
          (same_or_apart q label))

      named_set : (q : Bytes) → ((old : FactorRecord) → get stored.factors label ≡ Some old → q ≢ factor_name account
          label old.edition)
          → IsNamed account stored q → IsNamed account set q
      named_set q other = ⊎_elim inl (λ k. inr (⊎_elim by_row (λ f. inr (some, f.1)) k))
        where
          by_row : ((l : Bytes) × (r : FactorRecord) × (get stored.factors l ≡ Some r) ×
              (q ≡ factor_name account l r.edition))
              → ((l : Bytes) × (r : FactorRecord) × (get (insert stored.factors label row) l ≡ Some r) ×
              (q ≡ factor_name account l r.edition))
              ⊎ (IsSome later.payload × ((file : Bytes) × AreParts (File account file) × IsSome (get stored.files file) ×
              (q ≡ file_name account file)))
          by_row w = ⊎_elim
              (λ same. absurd (other w.1 (ap (get stored.factors) (sym same) ∙ w.2)
              (w.3 ∙ ap (λ (n : Bytes). factor_name account n w.1.edition) same)))
              (λ away. inl (w.0, w.1, put_other stored.factors label row w.0 away ∙ w.2, w.3))
              (same_or_apart w.0 label)

      leaf_set : (tree : ℕ) → ((old : FactorRecord) → get stored.factors label ≡ Some old → old.leaf ≡ Some tree → ⊥)
          → NamesTree stored tree → NamesTree set tree
      leaf_set tree other w = ⊎_elim
          (λ same. absurd (other w.1 (ap (get stored.factors) (sym same) ∙ w.2) w.3))
          (λ away. (w.0, w.1, put_other stored.factors label row w.0 away ∙ w.2, w.3))
          (same_or_apart w.0 label)

      pub set_kept : IsKept lost new account set
      set_kept = record {
        is_loaded = record { stash = there; rows = rows_set; files = files_same };
        tidy = record {
          records = λ q own is_there. ⊎_elim inl
              (λ k. ⊎_elim (λ e. inr (inl (label, row, put_at stored.factors label row, e)))
              (λ w. named_set q w.1 (kept.tidy.records q own w.0)) k)
              (names q is_there);
          leaves = λ found tree is_there. ⊎_elim
              (λ e. (label, row, put_at stored.factors label row, e))
              (λ w. leaf_set tree w.1 (kept.tidy.leaves found tree w.0))
              (leaves found tree is_there);
        };
        clear = clear;
      }

  -- a factor was removed: the stash without its block is there, and nothing is new
  module _ (some : IsSome stash.payload) (there : HasStash new.records account (Some (without_block stash label)))
      (names : (q : Bytes) → IsSome (get new.records q) → (q ≡ stash_name account) ⊎ WasOther q)
      (leaves : lost ≡ false → (tree : ℕ) → IsSome (get new.leaves tree) → WasOtherLeaf tree) where
    abbrev rest : Stored
    rest = record stored { stash = Some (without_block stash label); factors = remove stored.factors label }

    rows_left : (q : Bytes) → Matches (IsRowOf new.records account q) (get (remove stash.blocks label) q)
        (get (remove stored.factors label) q)
    rows_left q = ⊎_elim
        (λ e. subst (λ (n : Bytes). Matches (IsRowOf new.records account n) (get (remove stash.blocks label) n)
        (get (remove stored.factors label) n)) (sym e)
        (subst (λ x. Matches (IsRowOf new.records account label) x (get (remove stored.factors label) label))
        (sym (taken_at stash.blocks label))
        (subst (λ y. Matches (IsRowOf new.records account label) None y) (sym (taken_at stored.factors label)) tt)))
        (λ away. subst (λ x. Matches (IsRowOf new.records account q) x (get (remove stored.factors label) q))
        (sym (taken_other stash.blocks label q away))
        (subst (λ y. Matches (IsRowOf new.records account q) (get stash.blocks q) y)
        (sym (taken_other stored.factors label q away))
        (other_row q away)))
        (same_or_apart q label)

    named_left : (q : Bytes) → ((old : FactorRecord) → get stored.factors label ≡ Some old → q ≢ factor_name account
        label old.edition)
        → IsNamed account stored q → IsNamed account rest q
    named_left q other = ⊎_elim inl (λ k. inr (⊎_elim by_row (λ f. inr (some, f.1)) k))
      where
        by_row : ((l : Bytes) × (r : FactorRecord) × (get stored.factors l ≡ Some r) ×
            (q ≡ factor_name account l r.edition))
            → ((l : Bytes) × (r : FactorRecord) × (get (remove stored.factors label) l ≡ Some r) ×
            (q ≡ factor_name account l r.edition))
            ⊎ (IsSome stash.payload × ((file : Bytes) × AreParts (File account file) × IsSome (get stored.files file) ×
            (q ≡ file_name account file)))
        by_row w = ⊎_elim
            (λ same. absurd (other w.1 (ap (get stored.factors) (sym same) ∙ w.2)
            (w.3 ∙ ap (λ (n : Bytes). factor_name account n w.1.edition) same)))
            (λ away. inl (w.0, w.1, taken_other stored.factors label w.0 away ∙ w.2, w.3))
            (same_or_apart w.0 label)

    leaf_left : (tree : ℕ) → ((old : FactorRecord) → get stored.factors label ≡ Some old → old.leaf ≡ Some tree → ⊥)
        → NamesTree stored tree → NamesTree rest tree
    leaf_left tree other w = ⊎_elim
        (λ same. absurd (other w.1 (ap (get stored.factors) (sym same) ∙ w.2) w.3))
        (λ away. (w.0, w.1, taken_other stored.factors label w.0 away ∙ w.2, w.3))
        (same_or_apart w.0 label)

    pub rest_kept : IsKept lost new account rest
    rest_kept = record {
      is_loaded = record { stash = there; rows = rows_left; files = files_same };
      tidy = record {
        records = λ q own is_there. ⊎_elim inl (λ w. named_left q w.1 (kept.tidy.records q own w.0)) (names q is_there);
        leaves = λ found tree is_there.
            let w = leaves found tree is_there in leaf_left tree w.1 (kept.tidy.leaves found tree w.0);
      };
      clear = clear;
    }
