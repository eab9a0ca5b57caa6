-- A password is removed: the stash is put without its block, and then its record is removed.
use Rattle.std.proofs.Common.{◌≡◌, ℕ, [], ◌∷◌, None, Some, Bool, sym, ap, ◌∙◌, subst, inl, inr, ⊎_elim}
use Rattle.std.specs.Prelude.{IsSome, IsTrue, is_some, option_and_then}
use Rattle.std.specs.FinMap.{get, remove}
use Rattle.account_machine.specs.declared.user.Durable.{Durable}
use Rattle.record_names.specs.Names.{is_account_name, stash_name, factor_name}
use Rattle.secret_stash.specs.Edits.{without_block}
use Rattle.share_api.specs.Contents.{Bytes, Contents, settled}
use Rattle.share_api.specs.Folds.{Throughout}
use Rattle.share_api.specs.Seen.{ShareSeen, Tries}
use Rattle.share_api.specs.Steps.{Does, Follows, done}
use Rattle.share_api.specs.declared.step.Write.TheVariants.{Put, Remove}
use Rattle.stash_format.specs.declared.contents.Contents.{Contents as Stash}
use Rattle.stash_format.specs.Record.{stash_at}
use Rattle.factor_files.specs.declared.factor.FactorRecord.{FactorRecord}
use Rattle.stored_home.specs.Adding.{HoldsEither}
use Rattle.stored_home.specs.Bounds.{HasBounds}
use Rattle.stored_home.specs.Changes.{durable_without}
use Rattle.stored_home.specs.Holds.{Keys, HoldsBy, HasStash, HoldsUnder}
use Rattle.stored_home.specs.Loaded.{IsKept}
use Rattle.stored_home.specs.declared.stored.Stored.{Stored}
use Rattle.stored_home.proofs.MapLemmas.{not_None, from_some, put_at}
use Rattle.stored_home.proofs.ChangeLemmas.{factor_removed, removed_row_is_other}
use Rattle.stored_home.proofs.FrameLemmas.{other_removed}
use Rattle.stored_home.proofs.EditLemmas.{remove_law}
use Rattle.home_edits.specs.Edits.{Starts, Edits}
use Rattle.home_edits.specs.Removals.{RemovesFactor}
use Rattle.home_edits.specs.Puts.{IsStashPut}
use Rattle.home_edits.specs.declared.record_put.RecordPut.{RecordPut}
use Rattle.home_edits.proofs.Edited.{Suits, edits_tried}
use Rattle.home_edits.proofs.KeptLemmas.{held_by}
use Rattle.home_edits.proofs.LoadedFactors.{loaded_factor}
use Rattle.home_edits.proofs.FactorKept.{rest_kept}
use Rattle.home_edits.proofs.FactorRecords.{stash_others, stash_names, others_then, removed_stash, removed_names, removed_others}

module _ (account : Bytes) (plain : IsTrue (is_account_name account)) (stored : Stored) (stash : Stash)
    (is : stored.stash ≡ Some stash) (some : IsSome stash.payload) (label : Bytes) (row : FactorRecord)
    (at : get stored.factors label ≡ Some row) (none : row.leaf ≡ None) (stash_bytes : Bytes)
    (read : stash_at stash_bytes ≡ Some (without_block stash label)) where
  abbrev later_without : Stored
  later_without = record stored { stash = Some (without_block stash label); factors = remove stored.factors label }

  module _ (lost : Bool) (contents : Contents) (keys : Keys) (before next : Durable)
      (starts : Starts lost account stored (RemovesFactor label) contents keys before next) where
    there : HasStash contents.records account (Some stash)
    there = subst (HasStash contents.records account) is starts.kept.is_loaded.stash

    held : HoldsBy lost (settled contents) account before keys stash
    held = held_by lost contents account keys before stash starts.holds there

    bounds : HasBounds (durable_without before label)
    bounds = subst HasBounds starts.asked.after_is starts.asked.bounds

    abbrev put : Contents
    put = done (Put (stash_name account) stash_bytes) contents

    -- once the record is removed too, the rest is loaded and nothing else is there
    removed_kept : IsKept lost (done (Remove (factor_name account label row.edition)) put) account later_without
    removed_kept =
        let of = loaded_factor lost contents account stored keys before stash held label row starts.kept is at in
        let new = done (Remove (factor_name account label row.edition)) put in
        rest_kept lost account contents new stored stash label starts.kept is held.sound
        (others_then account label contents.records put.records new.records
        (stash_others account plain contents.records stash_bytes label)
        (removed_others account label row.edition put.records plain of.labelled of.within)) starts.kept.clear some
        (ap (option_and_then stash_at) (removed_stash account label row.edition put.records
        ∙ put_at contents.records (stash_name account) stash_bytes) ∙ read)
        (λ q found.
        let left = removed_names account label row.edition put.records q found in ⊎_elim inl
        (λ was. inr (
          was,
          λ old here e. left.1 (e ∙ ap (λ (r : FactorRecord). factor_name account label r.edition)
              (from_some old row (sym here ∙ at))),
        ))
        (stash_names account plain contents.records stash_bytes q left.0))
        (λ found tree leaf. (
          leaf,
          λ old here e. not_None tree (sym e ∙ ap (λ (r : FactorRecord). r.leaf)
              (from_some old row (sym here ∙ at)) ∙ none),
        ))

  -- what remove_password asks and does
  pub remove_suits : (old : ShareSeen) (ok : Type 0) (later : Stored) → (ok → later ≡ later_without)
      → Suits old account stored later
      (Put (stash_name account) stash_bytes ∷ Remove (factor_name account label row.edition) ∷ []) ok
      (RemovesFactor label)
  remove_suits old ok later is_later = record {
    throughout = λ contents keys before next steps starts follows.
        let lost = is_some old.lost in
        let h = held lost contents keys before next starts in
        let of = loaded_factor lost contents account stored keys before stash h label row starts.kept is at in
        subst (λ (n : Durable). Throughout (Does old.era) (HoldsEither lost account keys before n) contents steps)
        (sym starts.asked.after_is)
        (remove_law old.era lost account keys contents before stash label of.factor stash_bytes steps plain
        starts.kept.clear
        (there lost contents keys before next starts) h some of.held (bounds lost contents keys before next starts) read
        (subst (λ (n : ℕ). Follows (Put (stash_name account) stash_bytes ∷ Remove (factor_name account label n) ∷ [])
        steps)
        of.edition follows));
    last = λ o contents keys before next starts.
        let lost = is_some old.lost in
        let h = held lost contents keys before next starts in
        let of = loaded_factor lost contents account stored keys before stash h label row starts.kept is at in
        let t = there lost contents keys before next starts in
        let b = bounds lost contents keys before next starts in
        let then = done (Put (stash_name account) stash_bytes) contents in (
          subst (λ (n : Durable). HoldsUnder lost (done (Remove (factor_name account label row.edition)) then) account
              n keys)
              (sym starts.asked.after_is)
              (subst (λ (n : ℕ). HoldsUnder lost (done (Remove (factor_name account label n)) then) account
              (durable_without before label) keys)
              (sym of.edition)
              (other_removed lost account keys plain then (durable_without before label)
              (factor_name account label of.factor.edition)
              (removed_row_is_other lost account keys plain contents before stash label stash_bytes t h of.factor
              of.held then)
              (factor_removed lost account keys plain contents before stash label stash_bytes t h some b read))),
          subst (IsKept lost (done (Remove (factor_name account label row.edition)) then) account) (sym (is_later o))
              (removed_kept lost contents keys before next starts),
        );
  }

-- remove_password, whichever way its steps ended
pub remove_edits : (old new : ShareSeen) (account : Bytes) (stored later : Stored) (stash : Stash) (row : FactorRecord)
    (ok failed went err : Type 0) (label : Bytes) (put : RecordPut) (name : Bytes)
    → IsTrue (is_account_name account) → stored.stash ≡ Some stash → IsSome stash.payload
    → get stored.factors label ≡ Some row → row.leaf ≡ None
    → IsStashPut account (without_block stash label) put → name ≡ factor_name account label row.edition
    → (ok → later ≡ record stored { stash = Some (without_block stash label); factors = remove stored.factors label })
    → Tries old new (Put put.name put.bytes ∷ Remove name ∷ []) went err
    → (ok → went) → (failed → err)
    → Edits old new account stored later ok failed (RemovesFactor label)
remove_edits old new account stored later stash row ok failed went err label put name plain is some at none are named
    is_later tried goes fails =
    edits_tried old new account stored later ok failed went err (RemovesFactor label)
    (Put (stash_name account) put.bytes) (Remove (factor_name account label row.edition) ∷ [])
    (subst (λ (n : Bytes × Bytes). Tries old new (Put n.0 put.bytes ∷ Remove n.1 ∷ []) went err)
    (λ i. (are.0 i, named i)) tried) goes fails
    (remove_suits account plain stored stash is some label row at none put.bytes are.1 old ok later is_later)
