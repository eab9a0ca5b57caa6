-- A vault file is put by the put of its record.
use Rattle.std.proofs.Common.{◌≡◌, ◌≢◌, ◌⊎◌, ℕ, List, [], ◌∷◌, None, Some, Bool, refl, sym, ap, ◌∙◌, subst, inl, inr, ⊎_elim}
use Rattle.std.specs.Prelude.{IsSome, IsTrue, is_some}
use Rattle.std.specs.FinMap.{get}
use Rattle.account_machine.specs.declared.user.Durable.{Durable}
use Rattle.record_names.specs.Names.{is_account_name, AreParts, File, stash_name, factor_name, file_name}
use Rattle.share_api.specs.Contents.{Bytes, Contents, Records, settled}
use Rattle.share_api.specs.Folds.{Fold, Throughout}
use Rattle.share_api.specs.Places.{steps_of}
use Rattle.share_api.specs.Seen.{ShareSeen, Runs, Tries}
use Rattle.share_api.specs.Steps.{Does, Follows, done}
use Rattle.share_api.specs.declared.step.Step.{Step}
use Rattle.share_api.specs.declared.step.Write.TheVariants.{Put}
use Rattle.share_api.proofs.FoldLaws.{throughout_end}
use Rattle.share_api.proofs.StepLaws.{throughout_follows}
use Rattle.stash_format.specs.declared.contents.Contents.{Contents as Stash}
use Rattle.stored_home.specs.Adding.{HoldsEither}
use Rattle.stored_home.specs.Bounds.{HasBounds}
use Rattle.stored_home.specs.Changes.{durable_with_file}
use Rattle.stored_home.specs.Holds.{Keys, IsFileOf, HoldsBy, HasStash, HoldsUnder}
use Rattle.stored_home.specs.Loaded.{Filed, IsKept, IsNamed, HasFactors, block_in}
use Rattle.stored_home.specs.declared.stored.Stored.{Stored}
use Rattle.stored_home.proofs.MapLemmas.{same_or_apart, put_at, put_other, put_same}
use Rattle.stored_home.proofs.NameLemmas.{file_tells_name}
use Rattle.stored_home.proofs.ChangeLemmas.{file_put_held}
use Rattle.stored_home.proofs.EditLemmas.{put_file_law}
use Rattle.home_edits.specs.Edits.{Starts, Edits}
use Rattle.home_edits.specs.Files.{PutsFile, EditsFile, TellsFile, IsFilePut, with_file}
use Rattle.home_edits.specs.declared.files.FilePut.{FilePut}
use Rattle.home_edits.proofs.CostLemmas.{same_rest}
use Rattle.home_edits.proofs.Edited.{Suits, edits_tried}
use Rattle.home_edits.proofs.KeptLemmas.{home_stash, stash_stays, rows_stay, held_by, put_keeps, put_is_there}
use Rattle.home_edits.proofs.NamesApart.{stash_apart_file, factor_apart_file}

module _ (account : Bytes) (plain : IsTrue (is_account_name account)) (stored : Stored) (home : HasFactors stored)
    (name bytes : Bytes) (are : AreParts (File account name)) where
  -- the loaded state with the file
  abbrev with_one : Stored
  with_one = record stored { files = with_file stored.files name }

  module _ (lost : Bool) (contents : Contents) (kept : IsKept lost contents account stored) where
    abbrev then : Contents
    then = done (Put (file_name account name) bytes) contents

    -- the file is loaded where its record is there
    files_then : (q : Bytes) → AreParts (File account q)
        → (IsSome (get (with_file stored.files name) q) → IsSome (get then.records (file_name account q)))
        × (IsSome (get then.records (file_name account q)) → IsSome (get (with_file stored.files name) q))
    files_then q parts = ⊎_elim here away (same_or_apart q name)
      where
        here : q ≡ name → (IsSome (get (with_file stored.files name) q) → IsSome
            (get then.records (file_name account q)))
            × (IsSome (get then.records (file_name account q)) → IsSome (get (with_file stored.files name) q))
        here e = (
          λ _. subst (λ (n : Bytes). IsSome (get then.records (file_name account n))) (sym e)
              (put_is_there contents.records (file_name account name) bytes),
          λ _. subst (λ (n : Bytes). IsSome (get (with_file stored.files name) n)) (sym e)
              (put_is_there stored.files name (record {})),
        )

        away : q ≢ name → (IsSome (get (with_file stored.files name) q) → IsSome
            (get then.records (file_name account q)))
            × (IsSome (get then.records (file_name account q)) → IsSome (get (with_file stored.files name) q))
        away apart =
            let was = kept.is_loaded.files q parts in
            let same = put_other contents.records (file_name account name) bytes (file_name account q)
            (λ e. apart (file_tells_name account plain q name parts are e)) in
            let file = put_other stored.files name (record {}) q apart in (
              λ h. subst IsSome (sym same) (was.0 (subst IsSome file h)),
              λ h. subst IsSome (sym file) (was.1 (subst IsSome same h)),
            )

    named_still : (q : Bytes) → IsNamed account stored q → IsNamed account with_one q
    named_still q = ⊎_elim inl (λ k. inr (⊎_elim inl
        (λ f. inr (f.0, (f.1.0, f.1.1, put_keeps stored.files name (record {}) f.1.0 f.1.2, f.1.3))) k))

    -- once the file's record is put, the file is loaded and nothing else is there
    file_kept : IsKept lost then account with_one
    file_kept = record {
      is_loaded = record {
        stash = stash_stays contents.records then.records account stored.stash
            (put_other contents.records (file_name account name) bytes (stash_name account)
            (stash_apart_file account name))
            kept.is_loaded.stash;
        rows = λ label. rows_stay contents.records then.records account label (block_in stored.stash label)
            (get stored.factors label)
            (λ block row p q. put_other contents.records (file_name account name) bytes
            (factor_name account label block.edition)
            (factor_apart_file account label block.edition name))
            (kept.is_loaded.rows label);
        files = files_then;
      };
      tidy = record {
        records = λ q own there. ⊎_elim
            (λ e. inr (inr (home, (name, are, put_is_there stored.files name (record {}), e))))
            (λ away. named_still q (kept.tidy.records q own
            (subst IsSome (put_other contents.records (file_name account name) bytes q away) there)))
            (same_or_apart q (file_name account name));
        leaves = kept.tidy.leaves;
      };
      clear = kept.clear;
    }

  module _ (old : ShareSeen) (vault bytes_then : Bytes) (opens : IsFileOf vault account name bytes bytes_then) where
    abbrev Begins : Contents → Keys → Durable → Durable → Type 0
    Begins = Starts (is_some old.lost) account stored (PutsFile vault name bytes_then)

    abbrev stash : Stash
    stash = (home_stash stored.stash home).0

    some : IsSome stash.payload
    some = (home_stash stored.stash home).2

    there : (contents : Contents) → IsKept (is_some old.lost) contents account stored → HasStash contents.records
        account (Some stash)
    there contents kept = subst (HasStash contents.records account) (home_stash stored.stash home).1
        kept.is_loaded.stash

    held : (contents : Contents) (keys : Keys) (before next : Durable) → Begins contents keys before next
        → HoldsBy (is_some old.lost) (settled contents) account before keys stash
    held contents keys before next starts =
        held_by (is_some old.lost) contents account keys before stash starts.holds (there contents starts.kept)

    is_file : (contents : Contents) (keys : Keys) (before next : Durable) → Begins contents keys before next
        → IsFileOf keys.vault account name bytes bytes_then
    is_file contents keys before next starts =
        subst (λ (v : Bytes). IsFileOf v account name bytes bytes_then) (sym starts.asked.vault_is) opens

    bounded : (contents : Contents) (keys : Keys) (before next : Durable) → Begins contents keys before next
        → HasBounds (durable_with_file before name bytes_then)
    bounded contents keys before next starts = subst HasBounds starts.asked.after_is starts.asked.bounds

    -- once the record is put, the durable part after it is held
    put_held : (contents : Contents) (keys : Keys) (before next : Durable) → Begins contents keys before next
        → HoldsUnder (is_some old.lost) (done (Put (file_name account name) bytes) contents) account next keys
    put_held contents keys before next starts =
        subst (λ (n : Durable). HoldsUnder (is_some old.lost) (done (Put (file_name account name) bytes) contents)
        account n keys)
        (sym starts.asked.after_is)
        (file_put_held (is_some old.lost) account keys plain contents before stash name bytes bytes_then
        (there contents starts.kept) (held contents keys before next starts) are some
        (is_file contents keys before next starts) (bounded contents keys before next starts))

    -- where the put led
    abbrev Ended : Contents → Contents → Type 0
    Ended contents new = (new ≡ contents) ⊎ (new ≡ done (Put (file_name account name) bytes) contents)

    ended_by : (contents new : Contents) (steps : List Step) → contents.doubt ≡ None
        → Follows (Put (file_name account name) bytes ∷ []) steps → Fold (Does old.era) contents steps new
        → Ended contents new
    ended_by contents new steps clear follows fold =
        throughout_end (Does old.era) (Ended contents) contents new steps
        (throughout_follows old.era contents (Put (file_name account name) bytes ∷ []) steps (Ended contents) clear
        (inl refl, inr refl) follows) fold

    -- the record tells which durable part is held
    pub file_tells : (contents new : Contents) (keys : Keys) (before next : Durable) (steps : List Step)
        → Begins contents keys before next → Follows (Put (file_name account name) bytes ∷ []) steps
        → Fold (Does old.era) contents steps new
        → TellsFile (is_some old.lost) account name bytes keys before next new
    file_tells contents new keys before next steps starts follows fold =
        ⊎_elim stayed went (ended_by contents new steps starts.kept.clear follows fold)
      where
        put : HoldsUnder (is_some old.lost) (done (Put (file_name account name) bytes) contents) account next keys
        put = put_held contents keys before next starts

        stayed : new ≡ contents → TellsFile (is_some old.lost) account name bytes keys before next new
        stayed same = subst (TellsFile (is_some old.lost) account name bytes keys before next) (sym same) (record {
          put = λ at. subst (λ (r : Records). HoldsUnder (is_some old.lost) (record contents { records = r }) account next keys)
              (put_same contents.records (file_name account name) bytes at) put;
          not_put = λ _. starts.holds;
        })

        went : new ≡ done (Put (file_name account name) bytes) contents
            → TellsFile (is_some old.lost) account name bytes keys before next new
        went same = subst (TellsFile (is_some old.lost) account name bytes keys before next) (sym same) (record {
          put = λ _. put;
          not_put = λ apart. absurd (apart (put_at contents.records (file_name account name) bytes));
        })

    -- what put_file asks and does
    pub file_suits : (ok : Type 0) (later : Stored)
        → (ok → later ≡ record stored { files = with_file stored.files name })
        → Suits old account stored later (Put (file_name account name) bytes ∷ []) ok (PutsFile vault name bytes_then)
    file_suits ok later is_later = record {
      throughout = λ contents keys before next steps starts follows.
          subst (λ (n : Durable). Throughout (Does old.era) (HoldsEither (is_some old.lost) account keys before n)
          contents steps)
          (sym starts.asked.after_is)
          (put_file_law old.era (is_some old.lost) account keys contents before stash name bytes bytes_then steps plain
          starts.kept.clear (there contents starts.kept) (held contents keys before next starts) are some
          (is_file contents keys before next starts) (bounded contents keys before next starts) follows);
      last = λ o contents keys before next starts. (
        put_held contents keys before next starts,
        subst (IsKept (is_some old.lost) (done (Put (file_name account name) bytes) contents) account)
            (sym (is_later o))
            (file_kept (is_some old.lost) contents starts.kept),
      );
    }

-- the steps between two states of a share are one list
same_steps : (old new : ShareSeen) (one two : List Step) → Runs old new one → Runs old new two → one ≡ two
same_steps old new one two a b =
    sym a.steps_are
    ∙ ap (λ (own : List (ℕ × Step)). steps_of own) (same_rest old.own a.own b.own (sym a.own_is ∙ b.own_is))
    ∙ b.steps_are

-- put_file, whichever way its put ended
pub file_edits : (old new : ShareSeen) (account : Bytes) (stored later : Stored) (ok failed went err : Type 0)
    (vault bytes_then : Bytes) (put : FilePut) (named : Bytes)
    → IsTrue (is_account_name account) → HasFactors stored → IsFilePut vault account bytes_then stored.files put
    → AreParts (File account put.name) → named ≡ file_name account put.name
    → (ok → later ≡ record stored { files = put.files })
    → Tries old new (Put named put.sealed ∷ []) went err → (ok → went) → (failed → err)
    → EditsFile old new account stored later ok failed vault bytes_then put
file_edits old new account stored later ok failed went err vault bytes_then put named plain home is are same is_later
    tried goes fails =
    let whole : Tries old new (Put (file_name account put.name) put.sealed ∷ []) went err =
    subst (λ (n : Bytes). Tries old new (Put n put.sealed ∷ []) went err) same tried in
    let done : Edits old new account stored later ok failed (PutsFile vault put.name bytes_then) =
    edits_tried old new account stored later ok failed went err (PutsFile vault put.name bytes_then)
    (Put (file_name account put.name) put.sealed) [] whole goes fails
    (file_suits account plain stored home put.name put.sealed are old vault bytes_then is.opens ok later
    (λ o. is_later o ∙ ap (λ (f : Filed). record stored { files = f }) is.files_are)) in
    record {
      edits = done;
      named = are;
      tells = λ contents end keys before next starts fold.
          file_tells account plain stored home put.name put.sealed are old vault bytes_then is.opens contents end
          keys before next whole.steps starts whole.follows
          (subst (λ (steps : List Step). Fold (Does old.era) contents steps end)
          (same_steps old new done.steps whole.steps done.runs whole.runs) fold);
    }
