-- A home is made by the put of its stash.
use Rattle.std.proofs.Common.{◌≡◌, [], ◌∷◌, None, Some, Bool, sym, ap, ◌∙◌, subst, inl, inr, ⊎_elim}
use Rattle.std.specs.Prelude.{IsSome, IsSomeAnd, IsTrue, is_some, option_and_then}
use Rattle.std.specs.FinMap.{get, get-empty}
use Rattle.std.specs.Ordering.{nat_cmp}
use Rattle.std.specs.Cmp.Lexicographic.{slice_cmp}
use Rattle.account_machine.specs.declared.user.Durable.{Durable}
use Rattle.account_machine.specs.User.{no_home, new_home}
use Rattle.record_names.specs.Names.{is_account_name, stash_name, file_name}
use Rattle.share_api.specs.Contents.{Bytes, Contents}
use Rattle.share_api.specs.Folds.{Throughout}
use Rattle.share_api.specs.Seen.{ShareSeen, Tries}
use Rattle.share_api.specs.Steps.{Does, done}
use Rattle.share_api.specs.declared.step.Write.TheVariants.{Put}
use Rattle.secret_stash.specs.Edits.{new_stash}
use Rattle.stash_format.specs.declared.contents.Contents.{Contents as Stash}
use Rattle.stash_format.specs.Record.{stash_at}
use Rattle.stored_home.specs.Adding.{HoldsEither}
use Rattle.stored_home.specs.Matching.{Matches}
use Rattle.stored_home.specs.Holds.{Keys, HasStash, HoldsUnder}
use Rattle.stored_home.specs.Loaded.{IsRowOf, IsLoaded, IsKept, IsNamed, HasFactors, block_in}
use Rattle.stored_home.specs.declared.stored.Stored.{Stored}
use Rattle.stored_home.proofs.MapLemmas.{same_or_apart, put_at, put_other}
use Rattle.stored_home.proofs.HomeLemmas.{home_made}
use Rattle.stored_home.proofs.EditLemmas.{create_law}
use Rattle.home_edits.specs.Edits.{Starts, Edits}
use Rattle.home_edits.specs.Homes.{MakesHome}
use Rattle.home_edits.specs.Puts.{IsStashPut}
use Rattle.home_edits.specs.declared.record_put.RecordPut.{RecordPut}
use Rattle.home_edits.proofs.Edited.{Suits, edits_tried}
use Rattle.home_edits.proofs.KeptLemmas.{none_matched, bare_is}
use Rattle.home_edits.proofs.NamesApart.{stash_apart_file}

module _ (account : Bytes) (stored : Stored) (absent : stored.stash ≡ None) (bytes : Bytes)
    (read : stash_at bytes ≡ Some (new_stash account)) where
  -- the loaded state of a new home
  abbrev made : Stored
  made = record stored { stash = Some (new_stash account) }

  -- without a stash no factor is loaded
  no_row : (contents : Contents) → IsLoaded contents account stored → (label : Bytes) → get stored.factors label ≡ None
  no_row contents loaded label = none_matched (IsRowOf contents.records account label) (get stored.factors label)
      (subst (λ x. Matches (IsRowOf contents.records account label) (block_in x label) (get stored.factors label))
      absent
      (loaded.rows label))

  -- and no vault file is named
  no_home_named : HasFactors stored → ⊥
  no_home_named h = subst (λ x. IsSomeAnd x (λ (stash : Stash). IsSome stash.payload)) absent h

  module _ (lost : Bool) (contents : Contents) (kept : IsKept lost contents account stored) where
    abbrev then : Contents
    then = done (Put (stash_name account) bytes) contents

    named_still : (name : Bytes) → IsNamed account stored name → IsNamed account made name
    named_still name = ⊎_elim inl (λ k. inr (⊎_elim inl (λ f. absurd (no_home_named f.0)) k))

    -- once the stash is put, the new home is loaded and nothing else is there
    made_kept : IsKept lost then account made
    made_kept = record {
      is_loaded = record {
        stash = ap (option_and_then stash_at) (put_at contents.records (stash_name account) bytes) ∙ read;
        rows = λ label. subst (λ x. Matches (IsRowOf then.records account label) x (get stored.factors label))
            (sym (get-empty (slice_cmp nat_cmp) label))
            (subst (λ y. Matches (IsRowOf then.records account label) None y)
            (sym (no_row contents kept.is_loaded label)) tt);
        files = λ name are.
            let same = put_other contents.records (stash_name account) bytes (file_name account name)
            (λ e. stash_apart_file account name (sym e)) in
            let was = kept.is_loaded.files name are in
            (λ h. subst IsSome (sym same) (was.0 h), λ h. was.1 (subst IsSome same h));
      };
      tidy = record {
        records = λ name own there. ⊎_elim inl
            (λ away. named_still name (kept.tidy.records name own
            (subst IsSome (put_other contents.records (stash_name account) bytes name away) there)))
            (same_or_apart name (stash_name account));
        leaves = kept.tidy.leaves;
      };
      clear = kept.clear;
    }

  -- what create asks and does
  pub create_suits : (old : ShareSeen) (ok : Type 0) (later : Stored) → IsTrue (is_account_name account)
      → (ok → later ≡ record stored { stash = Some (new_stash account) })
      → Suits old account stored later (Put (stash_name account) bytes ∷ []) ok MakesHome
  create_suits old ok later plain is_later = record {
    throughout = λ contents keys before next steps starts follows.
        let bare = before_is contents keys before next starts in
        subst (λ (n : Durable). Throughout (Does old.era) (HoldsEither (is_some old.lost) account keys before n)
        contents steps)
        (sym starts.asked)
        (subst (λ (b : Durable). Throughout (Does old.era) (HoldsEither (is_some old.lost) account keys b new_home)
        contents steps)
        (sym bare)
        (create_law old.era (is_some old.lost) account keys contents bytes steps plain starts.kept.clear
        (subst (λ (b : Durable). HoldsUnder (is_some old.lost) contents account b keys) bare starts.holds) read
        follows));
    last = λ o contents keys before next starts. (
      subst (λ (n : Durable). HoldsUnder (is_some old.lost) (done (Put (stash_name account) bytes) contents) account n
          keys)
          (sym starts.asked) (home_made (is_some old.lost) account keys plain contents bytes read),
      subst (IsKept (is_some old.lost) (done (Put (stash_name account) bytes) contents) account) (sym (is_later o))
          (made_kept (is_some old.lost) contents starts.kept),
    );
  }
    where
      before_is : (contents : Contents) (keys : Keys) (before next : Durable)
          → Starts (is_some old.lost) account stored MakesHome contents keys before next → before ≡ no_home
      before_is contents keys before next starts = bare_is (is_some old.lost) contents account keys before starts.holds
          (subst (HasStash contents.records account) absent starts.kept.is_loaded.stash)

-- create, whichever way its put ended
pub create_edits : (old new : ShareSeen) (account : Bytes) (stored later : Stored) (ok failed went err : Type 0)
    (put : RecordPut)
    → IsTrue (is_account_name account) → stored.stash ≡ None → IsStashPut account (new_stash account) put
    → (ok → later ≡ record stored { stash = Some (new_stash account) })
    → Tries old new (Put put.name put.bytes ∷ []) went err → (ok → went) → (failed → err)
    → Edits old new account stored later ok failed MakesHome
create_edits old new account stored later ok failed went err put plain absent is is_later tried goes fails =
    edits_tried old new account stored later ok failed went err MakesHome (Put (stash_name account) put.bytes) []
    (subst (λ (n : Bytes). Tries old new (Put n put.bytes ∷ []) went err) is.0 tried) goes fails
    (create_suits account stored absent put.bytes is.1 old ok later plain is_later)
