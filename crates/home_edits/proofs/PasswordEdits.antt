-- A password is added, or gets another secret: its record is put, and then the stash with its block.
use Rattle.std.proofs.Common.{◌≡◌, ℕ, ◌+◌, ◌<◌, ◌^◌, [], ◌∷◌, None, Some, Bool, refl, sym, ap, ◌∙◌, subst, inl, inr, ⊎_elim, take, arith}
use Rattle.std.specs.Prelude.{IsTrue, is_some, option_and_then}
use Rattle.std.specs.FinMap.{get, insert}
use Rattle.account_machine.specs.declared.factor.Factor.{Factor}
use Rattle.account_machine.specs.declared.factor.Kind.TheVariants.{Password}
use Rattle.account_machine.specs.declared.user.Durable.{Durable}
use Rattle.account_machine.specs.Effect.{new_factor}
use Rattle.gcm_seal.proofs.GcmLemmas.{decrypted-encrypted}
use Rattle.record_names.specs.Names.{is_account_name, is_factor_label, stash_name, factor_name}
use Rattle.scrypt_kdf.specs.Derive.{derive, derive_32}
use Rattle.sealed_text.specs.OpeningSealed.{Opens}
use Rattle.share_api.specs.Contents.{Bytes, Contents, settled}
use Rattle.share_api.specs.Folds.{Throughout}
use Rattle.share_api.specs.Seen.{ShareSeen, Tries}
use Rattle.share_api.specs.Steps.{Does, Follows, done}
use Rattle.share_api.specs.declared.step.Write.TheVariants.{Put, Remove}
use Rattle.stash_format.specs.Forms.{extra_by, main_of}
use Rattle.stash_format.specs.declared.block.Block.{Block}
use Rattle.stash_format.specs.declared.block.Form.TheVariants.{Bound}
use Rattle.stash_format.specs.declared.contents.Contents.{Contents as Stash}
use Rattle.stash_format.specs.Record.{stash_at}
use Rattle.factor_files.specs.declared.factor.FactorRecord.{FactorRecord}
use Rattle.factor_files.specs.Record.{factor_at}
use Rattle.stored_home.specs.Adding.{Adds, HoldsEither}
use Rattle.stored_home.specs.Changes.{durable_with}
use Rattle.stored_home.specs.Holds.{Keys, OpensBySecret, HoldsBy, HasStash, HoldsUnder}
use Rattle.stored_home.specs.Loaded.{IsKept}
use Rattle.stored_home.specs.declared.stored.Stored.{Stored}
use Rattle.stored_home.proofs.MapLemmas.{not_None, from_some}
use Rattle.stored_home.proofs.AddLemmas.{with_stash_held, old_row_is_other}
use Rattle.stored_home.proofs.FrameLemmas.{other_removed}
use Rattle.stored_home.proofs.EditLemmas.{add_law, update_law}
use Rattle.home_edits.specs.Edits.{Starts, Edits}
use Rattle.home_edits.specs.Passwords.{password_row, password_block, with_password, TakesFactor, SetsPassword, AreFactorPuts}
use Rattle.stored_home.specs.declared.derived.Derived.{Derived}
use Rattle.home_edits.specs.declared.factor_puts.FactorPuts.{FactorPuts}
use Rattle.home_edits.proofs.Edited.{Suits, edits_tried}
use Rattle.home_edits.proofs.KeptLemmas.{held_by}
use Rattle.home_edits.proofs.LoadedFactors.{loaded_factor}
use Rattle.home_edits.proofs.FactorKept.{set_kept}
use Rattle.home_edits.proofs.FactorRecords.{both_stash, both_row, both_others, both_names, others_then, removed_stash, removed_names, removed_others, removed_row, with_both}

-- the wrap key of a password is the first half of what is derived of it
pub wrap_is : (key secret salt : Bytes) (cost : ℕ) → key ≡ derive secret salt cost → take 32 key ≡ derive_32 secret
    salt cost
unfolding derive_32
wrap_is key secret salt cost e = ap (take 32) e

module _ (account : Bytes) (plain : IsTrue (is_account_name account)) (stored : Stored) (stash : Stash)
    (is : stored.stash ≡ Some stash) (label : Bytes) (labelled : IsTrue (is_factor_label label))
    (takes : TakesFactor label stash)
    (derived : Derived) (main iv row_bytes stash_bytes : Bytes)
    (row_read : factor_at row_bytes ≡ Some (password_row label stash.next derived))
    (stash_read : stash_at stash_bytes ≡ Some (with_password stash label derived main iv)) where
  abbrev row : FactorRecord
  row = password_row label stash.next derived

  abbrev block : Block
  block = password_block stash label derived main iv

  abbrev later_with : Stored
  later_with = record stored {
    stash = Some (with_password stash label derived main iv);
    factors = insert
        stored.factors label row;
  }

  within : stash.next < 2 ^ 64
  within = let below = takes.below in omega (arith, below)

  room : stash.next + 1 < 2 ^ 64
  room = let below = takes.below in omega (arith, below)

  module _ (lost : Bool) (contents : Contents) (keys : Keys) (before next : Durable)
      (starts : Starts lost account stored (SetsPassword label derived main) contents keys before next) where
    -- the factor with the new secret
    abbrev factor : Factor
    factor = new_factor Password starts.asked.secret before.next starts.asked.schedule

    there : HasStash contents.records account (Some stash)
    there = subst (HasStash contents.records account) is starts.kept.is_loaded.stash

    held : HoldsBy lost (settled contents) account before keys stash
    held = held_by lost contents account keys before stash starts.holds there

    -- its block opens by the secret
    opens : OpensBySecret account keys.main label block row factor
    opens = record {
      none = refl;
      opens = subst (λ (t : Bytes × Bytes × Bytes). Opens t.0 (extra_by Bound t.1 label stash.next) (main_of block) t.2)
          (λ i. (
            wrap_is derived.key starts.asked.secret derived.salt derived.cost starts.asked.key_is i,
            held.account_is i,
            sym starts.asked.main_is i,
          ))
          (record { tag = refl; text = decrypted-encrypted 8 14 (take 32 derived.key) iv main });
    }

    -- record and block are the factor's
    adds : Adds lost account keys contents before stash label factor stash.payload block row row_bytes stash_bytes
        held.resets
    adds = record {
      there = there;
      holds = held;
      added = record {
        labelled = labelled;
        edition = sym held.next;
        room = room;
        row_read = row_read;
        row_label = refl;
        row_edition = refl;
        row_kind = refl;
        block_edition = refl;
        opens = opens;
        there = takes.there;
        opened = held.payload takes.there;
        stash_read = stash_read;
      };
      entries = λ q f away at pin. refl;
      own = λ q tree names n. absurd (not_None tree (sym names));
      bounds = subst Rattle.stored_home.specs.Bounds.HasBounds starts.asked.after_is starts.asked.bounds;
      files = held.files takes.there;
    }

    -- once both are put, the factor is held
    set_held : HoldsUnder lost (done (Put (stash_name account) stash_bytes)
        (done (Put (factor_name account label stash.next) row_bytes) contents))
        account (durable_with before label factor) keys
    set_held = with_stash_held lost account keys plain contents before stash label factor stash.payload block row
        row_bytes stash_bytes
        held.resets adds.there adds.holds adds.added adds.entries adds.own adds.bounds adds.files

    -- and loaded, where it is new
    added_kept : get stored.factors label ≡ None
        → IsKept lost (done (Put (stash_name account) stash_bytes) (done
        (Put (factor_name account label stash.next) row_bytes) contents))
        account later_with
    added_kept absent =
        let new = done (Put (stash_name account) stash_bytes) (done
        (Put (factor_name account label stash.next) row_bytes) contents) in
        set_kept lost account contents new stored stash label starts.kept is held.sound
        (both_others account plain label stash.next labelled within contents.records row_bytes stash_bytes)
        starts.kept.clear
        (with_password stash label derived main iv) block refl takes.there row
        (ap (option_and_then stash_at) (both_stash account plain label stash.next labelled within contents.records
        row_bytes stash_bytes) ∙ stash_read)
        (record {
          label_is = refl;
          edition_is = refl;
          read = ap (option_and_then factor_at) (both_row account plain label stash.next labelled within
              contents.records row_bytes stash_bytes) ∙ row_read;
        })
        (λ q found. ⊎_elim inl
        (λ k. inr (⊎_elim inl (λ was. inr (was, λ old at. absurd (not_None old (sym at ∙ absent)))) k))
        (both_names account plain label stash.next labelled within contents.records row_bytes stash_bytes q found))
        (λ found tree leaf. inr (leaf, λ old at. absurd (not_None old (sym at ∙ absent))))

    -- and loaded without its old record, where it was there
    updated_kept : (old_row : FactorRecord) → get stored.factors label ≡ Some old_row → old_row.leaf ≡ None
        → IsKept lost (done (Remove (factor_name account label old_row.edition))
        (done (Put (stash_name account) stash_bytes)
        (done (Put (factor_name account label stash.next) row_bytes) contents))) account later_with
    updated_kept old_row at none =
        let of = loaded_factor lost contents account stored keys before stash held label old_row starts.kept is at in
        let new = done (Remove (factor_name account label old_row.edition)) (done (Put (stash_name account) stash_bytes)
        (done (Put (factor_name account label stash.next) row_bytes) contents)) in
        let both = with_both account plain label stash.next labelled within contents.records row_bytes stash_bytes in
        set_kept lost account contents new stored stash label starts.kept is held.sound
        (others_then account label contents.records both new.records
        (both_others account plain label stash.next labelled within contents.records row_bytes stash_bytes)
        (removed_others account label old_row.edition both plain labelled of.within)) starts.kept.clear
        (with_password stash label derived main iv) block refl takes.there row
        (ap (option_and_then stash_at) (removed_stash account label old_row.edition both
        ∙ both_stash account plain label stash.next labelled within contents.records row_bytes stash_bytes)
        ∙ stash_read)
        (record {
          label_is = refl;
          edition_is = refl;
          read = ap (option_and_then factor_at) (removed_row account plain label stash.next labelled within
              contents.records row_bytes stash_bytes
              old_row.edition of.below) ∙ row_read;
        })
        (λ q found.
        let left = removed_names account label old_row.edition both q found in ⊎_elim inl
        (λ k. inr (⊎_elim inl (λ was. inr (
          was,
          λ old here e. left.1 (e ∙ ap (λ (r : FactorRecord). factor_name account label r.edition)
              (from_some old old_row (sym here ∙ at))),
        )) k))
        (both_names account plain label stash.next labelled within contents.records row_bytes stash_bytes q left.0))
        (λ found tree leaf. inr (
          leaf,
          λ old here e. not_None tree (sym e ∙ ap (λ (r : FactorRecord). r.leaf)
              (from_some old old_row (sym here ∙ at)) ∙ none),
        ))

  -- what add_password asks and does
  pub add_suits : (old : ShareSeen) (ok : Type 0) (later : Stored) → get stored.factors label ≡ None
      → (ok → later ≡ later_with)
      → Suits old account stored later
      (Put (factor_name account label stash.next) row_bytes ∷ Put (stash_name account) stash_bytes ∷ []) ok
      (SetsPassword label derived main)
  add_suits old ok later absent is_later = record {
    throughout = λ contents keys before next steps starts follows.
        let lost = is_some old.lost in
        let f = factor lost contents keys before next starts in
        subst (λ (n : Durable). Throughout (Does old.era) (HoldsEither lost account keys before n) contents steps)
        (sym starts.asked.after_is)
        (add_law old.era lost account keys contents before stash label f stash.payload block row row_bytes stash_bytes
        (held lost contents keys before next starts).resets steps plain starts.kept.clear
        (adds lost contents keys before next starts) follows);
    last = λ o contents keys before next starts. (
      subst (λ (n : Durable). HoldsUnder (is_some old.lost) (done (Put (stash_name account) stash_bytes)
          (done (Put (factor_name account label stash.next) row_bytes) contents)) account n keys)
          (sym starts.asked.after_is) (set_held (is_some old.lost) contents keys before next starts),
      subst (IsKept (is_some old.lost) (done (Put (stash_name account) stash_bytes)
          (done (Put (factor_name account label stash.next) row_bytes) contents)) account) (sym (is_later o))
          (added_kept (is_some old.lost) contents keys before next starts absent),
    );
  }

  -- what update_password asks and does
  pub update_suits : (old : ShareSeen) (ok : Type 0) (later : Stored) (old_row : FactorRecord)
      → get stored.factors label ≡ Some old_row → old_row.leaf ≡ None → (ok → later ≡ later_with)
      → Suits old account stored later
      (Put (factor_name account label stash.next) row_bytes ∷ Put (stash_name account) stash_bytes
      ∷ Remove (factor_name account label old_row.edition) ∷ []) ok (SetsPassword label derived main)
  update_suits old ok later old_row at none is_later = record {
    throughout = λ contents keys before next steps starts follows.
        let lost = is_some old.lost in
        let h = held lost contents keys before next starts in
        let of = loaded_factor lost contents account stored keys before stash h label old_row starts.kept is at in
        let f = factor lost contents keys before next starts in
        subst (λ (n : Durable). Throughout (Does old.era) (HoldsEither lost account keys before n) contents steps)
        (sym starts.asked.after_is)
        (update_law old.era lost account keys contents before stash label f of.factor stash.payload block row row_bytes
        stash_bytes
        h.resets steps plain starts.kept.clear of.held (adds lost contents keys before next starts)
        (subst (λ (n : ℕ). Follows (Put (factor_name account label stash.next) row_bytes ∷ Put (stash_name account)
        stash_bytes
        ∷ Remove (factor_name account label n) ∷ []) steps) of.edition follows));
    last = λ o contents keys before next starts.
        let lost = is_some old.lost in
        let h = held lost contents keys before next starts in
        let of = loaded_factor lost contents account stored keys before stash h label old_row starts.kept is at in
        let f = factor lost contents keys before next starts in
        let a = adds lost contents keys before next starts in
        let both = done (Put (stash_name account) stash_bytes) (done
        (Put (factor_name account label stash.next) row_bytes) contents) in (
          subst (λ (n : Durable). HoldsUnder lost (done (Remove (factor_name account label old_row.edition)) both)
              account n keys)
              (sym starts.asked.after_is)
              (subst (λ (n : ℕ). HoldsUnder lost (done (Remove (factor_name account label n)) both) account
              (durable_with before label f) keys)
              (sym of.edition)
              (other_removed lost account keys plain both (durable_with before label f)
              (factor_name account label of.factor.edition)
              (old_row_is_other lost account keys plain contents before stash label f stash.payload block row row_bytes
              stash_bytes
              h.resets a.there a.holds a.added a.entries a.own a.bounds a.files of.factor of.held both)
              (set_held lost contents keys before next starts))),
          subst (IsKept lost (done (Remove (factor_name account label old_row.edition)) both) account)
              (sym (is_later o))
              (updated_kept lost contents keys before next starts old_row at none),
        );
  }

-- add_password, whichever way its puts ended
pub add_edits : (old new : ShareSeen) (account : Bytes) (stored later : Stored) (stash : Stash)
    (ok failed went err : Type 0)
    (label : Bytes) (derived : Derived) (main iv : Bytes) (puts : FactorPuts)
    → IsTrue (is_account_name account) → stored.stash ≡ Some stash → IsTrue (is_factor_label label) → TakesFactor label
    stash
    → get stored.factors label ≡ None
    → AreFactorPuts account stored.factors (with_password stash label derived main iv)
    (password_row label stash.next derived) puts
    → (ok → later ≡ record stored { stash = Some puts.stash; factors = puts.factors })
    → Tries old new (Put puts.row_put.name puts.row_put.bytes ∷ Put puts.stash_put.name puts.stash_put.bytes ∷ []) went
    err
    → (ok → went) → (failed → err)
    → Edits old new account stored later ok failed (SetsPassword label derived main)
add_edits old new account stored later stash ok failed went err label derived main iv puts plain is labelled takes
    absent are is_later tried goes fails =
    edits_tried old new account stored later ok failed went err (SetsPassword label derived main)
    (Put (factor_name account label stash.next) puts.row_put.bytes) (Put (stash_name account) puts.stash_put.bytes ∷ [])
    (subst (λ (n : Bytes × Bytes). Tries old new (Put n.0 puts.row_put.bytes ∷ Put n.1 puts.stash_put.bytes ∷ []) went
    err)
    (λ i. (are.row_put.0 i, are.stash_put.0 i)) tried) goes fails
    (add_suits account plain stored stash is label labelled takes derived main iv puts.row_put.bytes
    puts.stash_put.bytes
    are.row_put.1 are.stash_put.1 old ok later absent
    (λ o. is_later o ∙ (λ i. record stored { stash = Some (are.stash_is i); factors = are.factors_are i })))

-- update_password, whichever way its steps ended
pub update_edits : (old new : ShareSeen) (account : Bytes) (stored later : Stored) (stash : Stash)
    (old_row : FactorRecord)
    (ok failed went err : Type 0) (label : Bytes) (derived : Derived) (main iv : Bytes) (puts : FactorPuts)
    (name : Bytes)
    → IsTrue (is_account_name account) → stored.stash ≡ Some stash → IsTrue (is_factor_label label) → TakesFactor label
    stash
    → get stored.factors label ≡ Some old_row → old_row.leaf ≡ None
    → AreFactorPuts account stored.factors (with_password stash label derived main iv)
    (password_row label stash.next derived) puts
    → name ≡ factor_name account label old_row.edition
    → (ok → later ≡ record stored { stash = Some puts.stash; factors = puts.factors })
    → Tries old new (Put puts.row_put.name puts.row_put.bytes ∷ Put puts.stash_put.name puts.stash_put.bytes ∷ Remove
    name ∷ []) went err
    → (ok → went) → (failed → err)
    → Edits old new account stored later ok failed (SetsPassword label derived main)
update_edits old new account stored later stash old_row ok failed went err label derived main iv puts name plain is
    labelled takes at none are named is_later tried goes fails =
    edits_tried old new account stored later ok failed went err (SetsPassword label derived main)
    (Put (factor_name account label stash.next) puts.row_put.bytes)
    (Put (stash_name account) puts.stash_put.bytes ∷ Remove (factor_name account label old_row.edition) ∷ [])
    (subst (λ (n : Bytes × Bytes × Bytes). Tries old new (Put n.0 puts.row_put.bytes ∷ Put n.1 puts.stash_put.bytes ∷
    Remove n.2 ∷ []) went err)
    (λ i. (are.row_put.0 i, are.stash_put.0 i, named i)) tried) goes fails
    (update_suits account plain stored stash is label labelled takes derived main iv puts.row_put.bytes
    puts.stash_put.bytes
    are.row_put.1 are.stash_put.1 old ok later old_row at none
    (λ o. is_later o ∙ (λ i. record stored { stash = Some (are.stash_is i); factors = are.factors_are i })))
