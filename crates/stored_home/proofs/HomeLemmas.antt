-- A home is made, and a vault file put.
use Rattle.std.proofs.Common.{◌≡◌, ℕ, ◌<◌, ◌^◌, Option, None, Some, Bool, refl, sym, ap, ◌∙◌, subst, ⊎_elim, arith, true≢false}
use Rattle.std.specs.Prelude.{IfSome, IsSome, IsTrue, option_and_then}
use Rattle.std.specs.Ordering.{nat_cmp}
use Rattle.std.specs.Cmp.Lexicographic.{slice_cmp}
use Rattle.std.specs.FinMap.{get, insert, empty, get-empty}
use Rattle.account_machine.specs.declared.factor.Factor.{Factor}
use Rattle.account_machine.specs.declared.user.Durable.{Durable}
use Rattle.account_machine.specs.User.{new_home}
use Rattle.record_names.specs.Names.{is_account_name, is_factor_label, AreParts, File, stash_name, factor_name, file_name}
use Rattle.share_api.specs.Contents.{Bytes, Contents, settled}
use Rattle.share_api.specs.Steps.{done}
use Rattle.share_api.specs.declared.step.Write.TheVariants.{Put}
use Rattle.stash_format.specs.declared.block.Block.{Block}
use Rattle.sealed_text.specs.declared.sealed.Sealed.{Sealed}
use Rattle.stash_format.specs.declared.contents.Contents.{Contents as Stash}
use Rattle.stash_format.specs.Record.{stash_at}
use Rattle.factor_files.specs.Record.{factor_at}
use Rattle.stored_home.specs.Matching.{Matches}
use Rattle.stored_home.specs.Bounds.{HasBounds}
use Rattle.stored_home.specs.Changes.{durable_with_file}
use Rattle.secret_stash.specs.Edits.{new_stash}
use Rattle.stored_home.specs.Holds.{Keys, record_at, IsBlockOf, IsSoundBlock, IsFileOf, HoldsFiles, HoldsBy, HoldsUnder}
use Rattle.stored_home.proofs.MapLemmas.{same_or_apart, put_at, put_other, matches_weaker, not_None, some_not_None}
use Rattle.stored_home.proofs.NameLemmas.{file_not_factor, file_tells_name}
use Rattle.stored_home.proofs.FrameLemmas.{stash_put, factor_is_sound, block_stays, apart_stays}

abbrev no_payload : Option Sealed
no_payload = None

-- None isn't there
nothing : IsSome no_payload → ⊥
nothing some = true≢false (sym some)

-- nothing stands in an empty map
none_at : (X : Type 0) (q : Bytes) → get (empty {X = X} {R = slice_cmp nat_cmp}) q ≡ None
none_at X q = get-empty (slice_cmp nat_cmp) q

module _ (lost : Bool) (account : Bytes) (keys : Keys) (plain : IsTrue (is_account_name account)) where
  -- the stash of a new home holds a home without factors and files, whatever else is there
  new_home_is : (contents : Contents) → HoldsBy lost contents account new_home keys (new_stash account)
  new_home_is contents = record {
    made = refl;
    account_is = refl;
    next = refl;
    sound = record {
      within = omega arith;
      blocks = λ q. subst (λ o. IfSome o (IsSoundBlock 1 q)) (sym (none_at Block q)) tt;
    };
    resets = empty;
    blocks = λ q. subst (λ x. Matches (IsBlockOf lost contents.records contents.leaves account keys.main empty q) x (get (empty {X = Factor} {R = slice_cmp nat_cmp}) q))
        (sym (none_at Block q))
        (subst (λ y. Matches (IsBlockOf lost contents.records contents.leaves account keys.main empty q) None y) (sym (none_at Factor q)) tt);
    apart = λ one two tree p q. absurd (not_None p.factor (sym p.there ∙ none_at Factor one));
    bare = λ _. (refl, refl);
    bounds = λ some. absurd (nothing some);
    payload = λ some. absurd (nothing some);
    files = λ some. absurd (nothing some);
  }

  -- once the stash of a new home is put, the contents hold the home
  pub home_made : (contents : Contents) (bytes : Bytes) → stash_at bytes ≡ Some (new_stash account)
      → HoldsUnder lost (done (Put (stash_name account) bytes) contents) account new_home keys
  home_made contents bytes read =
      stash_put lost account keys plain contents new_home (new_stash account) bytes read (new_home_is (settled contents))

  module _ (contents : Contents) (durable : Durable) (stash : Stash) (name bytes plain_bytes : Bytes)
      (are : AreParts (File account name)) (some : IsSome stash.payload)
      (is : IsFileOf keys.vault account name bytes plain_bytes)
      (bounds : HasBounds (durable_with_file durable name plain_bytes)) where
    abbrev put : Contents → Contents
    put c = done (Put (file_name account name) bytes) c

    -- the vault files with one more, or with other bytes
    files_put : HoldsFiles contents.records keys.vault account durable.files
        → HoldsFiles (put contents).records keys.vault account (insert durable.files name plain_bytes)
    files_put h = record { named = named; bytes = held }
      where
        named : (q : Bytes) → IsSome (get (insert durable.files name plain_bytes) q) → AreParts (File account q)
        named q there = ⊎_elim
            (λ e. subst (λ (n : Bytes). AreParts (File account n)) (sym e) are)
            (λ away. h.named q (subst IsSome (put_other durable.files name plain_bytes q away) there))
            (same_or_apart q name)

        held : (q : Bytes) → AreParts (File account q) → Matches (IsFileOf keys.vault account q)
            (get (insert contents.records (file_name account name) bytes) (file_name account q))
            (get (insert durable.files name plain_bytes) q)
        held q parts = ⊎_elim
            (λ e. subst (λ (n : Bytes). Matches (IsFileOf keys.vault account n)
            (get (insert contents.records (file_name account name) bytes) (file_name account n))
            (get (insert durable.files name plain_bytes) n)) (sym e)
            (subst (λ x. Matches (IsFileOf keys.vault account name) x (get (insert durable.files name plain_bytes) name))
            (sym (put_at contents.records (file_name account name) bytes))
            (subst (λ y. Matches (IsFileOf keys.vault account name) (Some bytes) y) (sym (put_at durable.files name plain_bytes)) is)))
            (λ away. subst (λ x. Matches (IsFileOf keys.vault account q) x (get (insert durable.files name plain_bytes) q))
            (sym (put_other contents.records (file_name account name) bytes (file_name account q)
            (λ same. away (file_tells_name account plain q name parts are same))))
            (subst (λ y. Matches (IsFileOf keys.vault account q) (get contents.records (file_name account q)) y)
            (sym (put_other durable.files name plain_bytes q away)) (h.bytes q parts)))
            (same_or_apart q name)

    -- factor records are as before
    row_same : (label : Bytes) (edition : ℕ) → IsTrue (is_factor_label label) → edition < 2 ^ 64
        → record_at (put contents).records account label edition ≡ record_at contents.records account label edition
    row_same label edition labelled within = ap (option_and_then factor_at)
        (put_other contents.records (file_name account name) bytes (factor_name account label edition)
        (λ same. file_not_factor account plain name label edition are labelled within (sym same)))

    -- once the file's record is put, the contents hold the file
    pub file_held : HoldsBy lost contents account durable keys stash
        → HoldsBy lost (put contents) account (durable_with_file durable name plain_bytes) keys stash
    file_held h = record {
      made = h.made;
      account_is = h.account_is;
      next = h.next;
      sound = h.sound;
      resets = h.resets;
      blocks = λ label. matches_weaker
          (IsBlockOf lost contents.records contents.leaves account keys.main h.resets label)
          (IsBlockOf lost (put contents).records contents.leaves account keys.main h.resets label)
          (get stash.blocks label) (get durable.factors label)
          (λ block factor x y b. block_stays lost account keys.main h.resets contents.records (put contents).records
          contents.leaves label block factor (same label factor y) b)
          (h.blocks label);
      apart = apart_stays contents.records (put contents).records account durable.factors same h.apart;
      bare = λ none. absurd (some_not_None stash.payload some none);
      bounds = λ _. bounds;
      payload = h.payload;
      files = λ there. files_put (h.files there);
    }
      where
        same : (label : Bytes) (factor : Factor) → get durable.factors label ≡ Some factor
            → record_at (put contents).records account label factor.edition ≡ record_at contents.records account label factor.edition
        same label factor there =
            let sound = factor_is_sound lost account keys.main h.resets contents.records contents.leaves stash.next label
            (get stash.blocks label) (get durable.factors label) factor (h.sound.blocks label) (h.blocks label) there in
            let within = h.sound.within in
            let below = sound.1 in
            row_same label factor.edition sound.0 (omega (arith, within, below))
