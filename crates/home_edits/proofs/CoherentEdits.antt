-- What is loaded fits together after each edit too.
use Rattle.std.proofs.Common.{◌≡◌, ◌≢◌, ℕ, ◌+◌, ◌<◌, ◌≤◌, Bool, true, false, cond, [], Result, Ok, Err, OnOk, None, Some, refl, sym, ap, ◌∙◌, subst, ⊎_elim, true≢false, arith}
use Rattle.std.specs.Prelude.{IsSome, IfSome, IsSomeAnd, OnErr, is_some, count_by}
use Rattle.std.specs.Ordering.{nat_cmp}
use Rattle.std.specs.Cmp.Lexicographic.{slice_cmp, nat_list_cmp_total}
use Rattle.std.specs.FinMap.{get, insert, remove, empty, len, get-empty, len-insert, same_map, slice_cmp-IsAntisymmetric, nat_cmp-IsAntisymmetric}
use Rattle.account_machine.specs.Outline.{is_pin_kind}
use Rattle.account_machine.specs.declared.factor.Kind.TheVariants.{Password}
use Rattle.factor_files.specs.declared.factor.FactorRecord.{FactorRecord}
use Rattle.record_names.specs.Names.{AreParts, File}
use Rattle.secret_stash.specs.Edits.{new_stash, with_block, without_block}
use Rattle.share_api.specs.Contents.{Bytes}
use Rattle.stash_format.specs.Blocks.{Blocks}
use Rattle.stash_format.specs.Kept.{HasBoth}
use Rattle.stash_format.specs.Sizes.{payload_size, most_payload}
use Rattle.stash_format.specs.declared.block.Block.{Block}
use Rattle.stash_format.specs.declared.contents.Contents.{Contents as Stash}
use Rattle.stash_format.proofs.Rising.{entries-empty}
use Rattle.stored_home.specs.Matching.{Matches}
use Rattle.stored_home.specs.Loaded.{Rows, block_in}
use Rattle.stored_home.specs.Coherent.{IsCoherent, IsOwnStash, FitsBlock, KeepsBounds, RowNames, HaveOwnLeaves, pin_rows}
use Rattle.stored_home.specs.declared.fault.StoreFault.{StoreFault}
use Rattle.stored_home.specs.declared.stored.Stored.{Stored}
use Rattle.stored_home.proofs.MapLemmas.{same_or_apart, put_at, put_other, taken_at, taken_other, not_None, from_some, matched_right}
use Rattle.home_edits.specs.Files.{with_file}
use Rattle.home_edits.specs.Removals.{KeepsPassword}
use Rattle.home_edits.proofs.CountLemmas.{count_put, count_taken}
use Rattle.home_edits.proofs.KeptLemmas.{none_matched}
use Rattle.home_edits.proofs.StashLemmas.{both_without, both_sealed}

-- whichever way an edit ended
pub coherent_stays : {A : Type 0} (account : Bytes) (r : Result A StoreFault) (old new later : Stored)
    → OnOk r (new ≡ later) → OnErr r (new ≡ old)
    → IsCoherent account later → IsCoherent account old → IsCoherent account new
coherent_stays account (Ok x) old new later ok err made h = subst (IsCoherent account) (sym ok) made
coherent_stays account (Err x) old new later ok err made h = subst (IsCoherent account) (sym err) h

module _ (account : Bytes) (stored : Stored) (was : IsCoherent account stored) where
  -- a home is made
  pub made_coherent : stored.stash ≡ None
      → IsCoherent account (record stored { stash = Some (new_stash account) })
  made_coherent absent = record {
    stash = record { account_is = refl; short = omega arith };
    both = record { none = λ _. refl; some = λ s. absurd (true≢false (sym s)) };
    rows = λ label. subst (λ x. Matches (FitsBlock label) x (get stored.factors label))
        (sym (get-empty (slice_cmp nat_cmp) label))
        (subst (λ x. Matches (FitsBlock label) (block_in x label) (get stored.factors label)) absent (was.rows label));
    bounds = λ some. absurd (true≢false (sym some));
    files = was.files;
  }

  -- a vault file is put
  pub filed_coherent : (name : Bytes) → AreParts (File account name)
      → (get stored.files name ≡ None → len stored.files < 256)
      → IsCoherent account (record stored { files = with_file stored.files name })
  filed_coherent name are room = record {
    stash = was.stash;
    both = was.both;
    rows = was.rows;
    bounds = λ some. let b = was.bounds some in record {
      label = b.label;
      row = b.row;
      there = b.there;
      is_password = b.is_password;
      pins = b.pins;
      own = b.own;
      files = few b.files;
    };
    files = λ q there. ⊎_elim (λ e. subst (λ (n : Bytes). AreParts (File account n)) (sym e) are)
        (λ away. was.files q (subst IsSome (put_other stored.files name (record {}) q away) there))
        (same_or_apart q name);
  }
    where
      few : len stored.files ≤ 256 → len (with_file stored.files name) ≤ 256
      few most = by (get stored.files name) room (len-insert nat_list_cmp_total stored.files name (record {}))
        where
          by : (o : Rattle.std.proofs.Common.Option Rattle.stored_home.specs.declared.stored.Kept.Kept)
              → (o ≡ None → len stored.files < 256)
              → len (with_file stored.files name) ≡ cond (is_some o) (len stored.files) (len stored.files + 1)
              → len (with_file stored.files name) ≤ 256
          by None free size = let below = free refl in omega (arith, below, size)
          by (Some x) free size = omega (arith, most, size)

  module _ (stash : Stash) (is : stored.stash ≡ Some stash) where
    own : IsOwnStash account stash
    own = subst (λ x. IfSome x (IsOwnStash account)) is was.stash

    both : HasBoth stash
    both = subst (λ x. IfSome x HasBoth) is was.both

    rows_by : (q : Bytes) → Matches (FitsBlock q) (get stash.blocks q) (get stored.factors q)
    rows_by q = subst (λ x. Matches (FitsBlock q) (block_in x q) (get stored.factors q)) is (was.rows q)

    bounds_by : IsSome stash.payload → KeepsBounds stored
    bounds_by some = was.bounds (subst (λ x. IsSomeAnd x (λ (s : Stash). IsSome s.payload)) (sym is) some)

    -- ---- a factor is set

    module _ (later : Stash) (label : Bytes) (block : Block) (row : FactorRecord)
        (same_account : later.account ≡ stash.account) (blocks_are : later.blocks ≡ insert stash.blocks label block)
        (whole : HasBoth later) (short : payload_size later ≤ most_payload) (fits : FitsBlock label block row) where
      abbrev set : Stored
      set = record stored { stash = Some later; factors = insert stored.factors label row }

      rows_set : (q : Bytes) → Matches (FitsBlock q) (get later.blocks q) (get (insert stored.factors label row) q)
      rows_set q = subst (λ (m : Blocks). Matches (FitsBlock q) (get m q) (get (insert stored.factors label row) q))
          (sym blocks_are)
          (⊎_elim
          (λ e. subst (λ (n : Bytes). Matches (FitsBlock n) (get (insert stash.blocks label block) n)
          (get (insert stored.factors label row) n)) (sym e)
          (subst (λ x. Matches (FitsBlock label) x (get (insert stored.factors label row) label))
          (sym (put_at stash.blocks label block))
          (subst (λ y. Matches (FitsBlock label) (Some block) y) (sym (put_at stored.factors label row)) fits)))
          (λ away. subst (λ x. Matches (FitsBlock q) x (get (insert stored.factors label row) q))
          (sym (put_other stash.blocks label block q away))
          (subst (λ y. Matches (FitsBlock q) (get stash.blocks q) y) (sym (put_other stored.factors label row q away))
          (rows_by q)))
          (same_or_apart q label))

      set_by : (IsSome later.payload → KeepsBounds set) → IsCoherent account set
      set_by bounds = record {
        stash = record { account_is = same_account ∙ own.account_is; short = short };
        both = whole;
        rows = rows_set;
        bounds = bounds;
        files = was.files;
      }

      module _ (password : row.kind ≡ Password) (none : row.leaf ≡ None) where
        -- a leaf is named by another factor's record, which was there
        named_before : (q : Bytes) (tree : ℕ) → RowNames (insert stored.factors label row) q tree
            → RowNames stored.factors q tree
        named_before q tree n = ⊎_elim
            (λ e. absurd (not_None tree (sym n.names ∙ ap (λ (r : FactorRecord). r.leaf)
            (from_some n.row row (sym n.there ∙ ap (get (insert stored.factors label row)) e
            ∙ put_at stored.factors label row)) ∙ none)))
            (λ away. record {
              row = n.row;
              there = sym (put_other stored.factors label row q away) ∙ n.there;
              names = n.names;
            })
            (same_or_apart q label)

        password_bounds : pin_rows stored.factors ≤ 8 → HaveOwnLeaves stored.factors → len stored.files ≤ 256
            → KeepsBounds set
        password_bounds pins leaves files = record {
          label = label;
          row = row;
          there = put_at stored.factors label row;
          is_password = password;
          pins = (let step : pin_rows (insert stored.factors label row) ≤ pin_rows stored.factors =
              count_put (λ (r : FactorRecord). is_pin_kind r.kind) stored.factors label row (ap is_pin_kind password) in
              omega (arith, step, pins));
          own = λ one two tree a b. leaves one two tree (named_before one tree a) (named_before two tree b);
          files = files;
        }

        -- a password is added or gets another secret
        pub set_coherent : IsSome stash.payload → IsCoherent account set
        set_coherent some = let b = bounds_by some in set_by (λ _. password_bounds b.pins b.own b.files)

        -- the first password
        pub first_coherent : stash.payload ≡ None → len stored.files ≤ 256 → IsCoherent account set
        first_coherent bare few = set_by (λ _. password_bounds none_pins no_leaves few)
          where
            no_row : (q : Bytes) → get stored.factors q ≡ None
            no_row q = none_matched (FitsBlock q) (get stored.factors q)
                (subst (λ x. Matches (FitsBlock q) x (get stored.factors q))
                (ap (λ (m : Blocks). get m q) (both.none bare) ∙ get-empty (slice_cmp nat_cmp) q) (rows_by q))

            is_empty : stored.factors ≡ empty
            is_empty = same_map nat_list_cmp_total (slice_cmp-IsAntisymmetric nat_cmp-IsAntisymmetric) stored.factors
                empty (λ q. no_row q ∙ sym (get-empty (slice_cmp nat_cmp) q))

            none_pins : pin_rows stored.factors ≤ 8
            none_pins =
                let no : count_by (λ (r : FactorRecord). is_pin_kind r.kind)
                (Rattle.std.proofs.Common.map (λ (e : Bytes × FactorRecord). e.1) []) ≤ 8 = omega arith in
                subst (λ (m : Rows). pin_rows m ≤ 8) (sym is_empty)
                (subst (λ es. count_by (λ (r : FactorRecord). is_pin_kind r.kind)
                (Rattle.std.proofs.Common.map (λ (e : Bytes × FactorRecord). e.1) es) ≤ 8) (sym entries-empty) no)

            no_leaves : HaveOwnLeaves stored.factors
            no_leaves one two tree a b = absurd (not_None a.row (sym a.there ∙ no_row one))

    -- ---- a block is sealed anew

    module _ (label : Bytes) (block : Block) (row : FactorRecord) (there : get stored.factors label ≡ Some row)
        (edition : block.edition ≡ row.edition) where
      abbrev sealed : Stored
      sealed = record stored { stash = Some (with_block stash label block) }

      -- the record is one of the label
      fits_block : FitsBlock label block row
      fits_block =
          let f = (matched_right (FitsBlock label) (get stash.blocks label) (get stored.factors label) row there
          (rows_by label)).2 in
          record { plain = f.plain; label_is = f.label_is; edition_is = sym edition }

      pub resealed_coherent : IsSome stash.payload → IsCoherent account sealed
      resealed_coherent some = record {
        stash = record { account_is = own.account_is; short = own.short };
        both = both_sealed stash label block some;
        rows = λ q. ⊎_elim
            (λ e. subst (λ (n : Bytes). Matches (FitsBlock n) (get (insert stash.blocks label block) n)
            (get stored.factors n)) (sym e)
            (subst (λ x. Matches (FitsBlock label) x (get stored.factors label))
            (sym (put_at stash.blocks label block))
            (subst (λ y. Matches (FitsBlock label) (Some block) y) (sym there) fits_block)))
            (λ away. subst (λ x. Matches (FitsBlock q) x (get stored.factors q))
            (sym (put_other stash.blocks label block q away)) (rows_by q))
            (same_or_apart q label);
        bounds = λ more. let b = bounds_by some in record {
          label = b.label;
          row = b.row;
          there = b.there;
          is_password = b.is_password;
          pins = b.pins;
          own = b.own;
          files = b.files;
        };
        files = was.files;
      }

    -- ---- a factor is removed

    module _ (label : Bytes) where
      abbrev removed : Stored
      removed = record stored { stash = Some (without_block stash label); factors = remove stored.factors label }

      left_before : (q : Bytes) (tree : ℕ) → RowNames (remove stored.factors label) q tree
          → RowNames stored.factors q tree
      left_before q tree n = ⊎_elim
          (λ e. absurd (not_None n.row (sym n.there ∙ ap (get (remove stored.factors label)) e
          ∙ taken_at stored.factors label)))
          (λ away. record {
            row = n.row;
            there = sym (taken_other stored.factors label q away) ∙ n.there;
            names = n.names;
          })
          (same_or_apart q label)

      pub removed_coherent : IsSome stash.payload → 2 ≤ len stash.blocks → KeepsPassword label stored.factors
          → IsCoherent account removed
      removed_coherent some two left = record {
        stash = record { account_is = own.account_is; short = own.short };
        both = both_without stash label some two;
        rows = λ q. ⊎_elim
            (λ e. subst (λ (n : Bytes). Matches (FitsBlock n) (get (remove stash.blocks label) n)
            (get (remove stored.factors label) n)) (sym e)
            (subst (λ x. Matches (FitsBlock label) x (get (remove stored.factors label) label))
            (sym (taken_at stash.blocks label))
            (subst (λ y. Matches (FitsBlock label) None y) (sym (taken_at stored.factors label)) tt)))
            (λ away. subst (λ x. Matches (FitsBlock q) x (get (remove stored.factors label) q))
            (sym (taken_other stash.blocks label q away))
            (subst (λ y. Matches (FitsBlock q) (get stash.blocks q) y) (sym (taken_other stored.factors label q away))
            (rows_by q)))
            (same_or_apart q label);
        bounds = λ more. let b = bounds_by some in record {
          label = left.other;
          row = left.row;
          there = taken_other stored.factors label left.other left.apart ∙ left.there;
          is_password = left.is_password;
          pins = (let step : pin_rows (remove stored.factors label) ≤ pin_rows stored.factors =
              count_taken (λ (r : FactorRecord). is_pin_kind r.kind) stored.factors label in
              let most = b.pins in
              omega (arith, step, most));
          own = λ one two tree a c. b.own one two tree (left_before one tree a) (left_before two tree c);
          files = b.files;
        };
        files = was.files;
      }
