-- A password's block is sealed anew by the put of the stash.
use Rattle.std.proofs.Common.{◌≡◌, ℕ, [], ◌∷◌, Some, Bool, refl, sym, ap, ◌∙◌, subst, inl, inr, ⊎_elim, take}
use Rattle.std.specs.Prelude.{IsTrue, is_some, option_and_then}
use Rattle.std.specs.FinMap.{get}
use Rattle.account_machine.specs.declared.factor.Factor.{Factor}
use Rattle.account_machine.specs.declared.factor.Kind.{Kind}
use Rattle.account_machine.specs.declared.user.Durable.{Durable}
use Rattle.gcm_seal.proofs.GcmLemmas.{decrypted-encrypted}
use Rattle.record_names.specs.Names.{is_account_name, stash_name, factor_name}
use Rattle.sealed_text.specs.OpeningSealed.{Opens}
use Rattle.secret_stash.specs.Edits.{with_block}
use Rattle.secret_stash.specs.Keys.{new_block}
use Rattle.share_api.specs.Contents.{Bytes, Contents, settled}
use Rattle.share_api.specs.Folds.{Throughout}
use Rattle.share_api.specs.Seen.{ShareSeen, Tries}
use Rattle.share_api.specs.Steps.{Does, done}
use Rattle.share_api.specs.declared.step.Write.TheVariants.{Put}
use Rattle.share_api.proofs.FoldLaws.{throughout_weaker}
use Rattle.stash_format.specs.Forms.{extra_by, main_of}
use Rattle.stash_format.specs.declared.block.Block.{Block}
use Rattle.stash_format.specs.declared.block.Form.TheVariants.{Bound}
use Rattle.stash_format.specs.declared.contents.Contents.{Contents as Stash}
use Rattle.stash_format.specs.Record.{stash_at}
use Rattle.factor_files.specs.declared.factor.FactorRecord.{FactorRecord}
use Rattle.factor_files.specs.Record.{factor_at}
use Rattle.stored_home.specs.Adding.{HoldsEither}
use Rattle.stored_home.specs.Holds.{Keys, IsBlockOf, OpensBy, OpensBySecret, HoldsBy, HasStash, HoldsUnder}
use Rattle.stored_home.specs.Loaded.{Rows, IsKept}
use Rattle.stored_home.specs.declared.stored.Stored.{Stored}
use Rattle.stored_home.proofs.MapLemmas.{same_or_apart, put_at, put_other, put_same, not_None, from_some}
use Rattle.stored_home.proofs.ChangeLemmas.{block_resealed}
use Rattle.stored_home.proofs.EditLemmas.{reseal_law}
use Rattle.home_edits.specs.Edits.{Starts, Edits}
use Rattle.home_edits.specs.Puts.{IsStashPut}
use Rattle.home_edits.specs.Reseals.{TakesReseal, Reseals, with_resealed}
use Rattle.home_edits.specs.declared.record_put.RecordPut.{RecordPut}
use Rattle.home_edits.proofs.Edited.{Suits, edits_tried}
use Rattle.home_edits.proofs.KeptLemmas.{held_by}
use Rattle.home_edits.proofs.LoadedFactors.{loaded_factor}
use Rattle.home_edits.proofs.FactorKept.{set_kept}
use Rattle.home_edits.proofs.FactorRecords.{stash_others, stash_names}
use Rattle.home_edits.proofs.NamesApart.{stash_apart_factor}
use Rattle.home_edits.proofs.PasswordEdits.{wrap_is}

module _ (account : Bytes) (plain : IsTrue (is_account_name account)) (stored : Stored) (stash : Stash)
    (is : stored.stash ≡ Some stash) (label : Bytes) (row : FactorRecord) (at : get stored.factors label ≡ Some row)
    (takes : TakesReseal label row stash) (key main iv stash_bytes : Bytes)
    (read : stash_at stash_bytes ≡ Some (with_block stash label (new_block stash.account label row.edition
    (take 32 key) main iv))) where
  abbrev block : Block
  block = new_block stash.account label row.edition (take 32 key) main iv

  abbrev resealed : Stash
  resealed = with_block stash label block

  module _ (lost : Bool) (contents : Contents) (keys : Keys) (before next : Durable)
      (starts : Starts lost account stored (Reseals account label key main) contents keys before next) where
    there : HasStash contents.records account (Some stash)
    there = subst (HasStash contents.records account) is starts.kept.is_loaded.stash

    held : HoldsBy lost (settled contents) account before keys stash
    held = held_by lost contents account keys before stash starts.holds there

    -- the new block is the factor's too
    is_block : IsBlockOf lost contents.records (settled contents).leaves account keys.main held.resets label block
        starts.asked.factor
    is_block =
        let of = loaded_factor lost contents account stored keys before stash held label row starts.kept is at in
        let f = starts.asked.factor in
        let same : of.factor ≡ f = from_some of.factor f (sym of.held ∙ starts.asked.held) in
        let old : IsBlockOf lost contents.records (settled contents).leaves account keys.main held.resets label
        of.block f =
        subst (λ (x : Factor). IsBlockOf lost contents.records (settled contents).leaves account keys.main held.resets
        label of.block x)
        same of.sealed in
        let was : OpensBySecret account keys.main label of.block old.row f =
        subst (λ (k : Kind). OpensBy lost k (settled contents).leaves held.resets account keys.main label of.block
        old.row f)
        starts.asked.is_password old.opens in
        let now : OpensBySecret account keys.main label block old.row f = record {
          none = was.none;
          opens = subst (λ (t : Bytes × Bytes × Bytes). Opens t.0 (extra_by Bound t.1 label row.edition)
              (main_of block) t.2)
              (λ i. (
                wrap_is key f.secret old.row.salt old.row.cost (starts.asked.key_is old.row old.read) i,
                held.account_is i,
                sym starts.asked.main_is i,
              ))
              (record { tag = refl; text = decrypted-encrypted 8 14 (take 32 key) iv main });
        } in
        record {
          edition = of.edition ∙ ap (λ (x : Factor). x.edition) same;
          row = old.row;
          read = old.read;
          label_is = old.label_is;
          edition_is = old.edition_is;
          kind_is = old.kind_is;
          opens = subst (λ (k : Kind). OpensBy lost k (settled contents).leaves held.resets account keys.main label
              block old.row f)
              (sym starts.asked.is_password) now;
        }

    -- the stash with it is loaded
    resealed_kept : IsKept lost (done (Put (stash_name account) stash_bytes) contents) account
        (record stored { stash = Some resealed })
    resealed_kept =
        let of = loaded_factor lost contents account stored keys before stash held label row starts.kept is at in
        let new = done (Put (stash_name account) stash_bytes) contents in
        subst (λ (rows : Rows). IsKept lost new account (record stored { stash = Some resealed; factors = rows }))
        (put_same stored.factors label row at)
        (set_kept lost account contents new stored stash label starts.kept is held.sound
        (stash_others account plain contents.records stash_bytes label) starts.kept.clear
        resealed block refl takes.there row
        (ap (option_and_then stash_at) (put_at contents.records (stash_name account) stash_bytes) ∙ read)
        (record {
          label_is = of.its.label_is;
          edition_is = refl;
          read = ap (option_and_then factor_at) (put_other contents.records (stash_name account) stash_bytes
              (factor_name account label row.edition) (λ e. stash_apart_factor account label row.edition (sym e)))
              ∙ ap (λ (n : ℕ). option_and_then factor_at (get contents.records (factor_name account label n)))
              of.its.edition_is
              ∙ of.its.read;
        })
        (λ q found. ⊎_elim inl
        (λ was. inr (⊎_elim inl
        (λ away. inr (
          was,
          λ old here e. away (e ∙ ap (λ (r : FactorRecord). factor_name account label r.edition)
              (from_some old row (sym here ∙ at))),
        ))
        (same_or_apart q (factor_name account label row.edition))))
        (stash_names account plain contents.records stash_bytes q found))
        (λ found tree leaf. inr (
          leaf,
          λ old here e. not_None tree (sym e ∙ ap (λ (r : FactorRecord). r.leaf)
              (from_some old row (sym here ∙ at)) ∙ takes.password),
        )))

  -- what reseal_password asks and does
  pub reseal_suits : (old : ShareSeen) (ok : Type 0) (later : Stored) → (ok → later ≡ record stored
      { stash = Some resealed })
      → Suits old account stored later (Put (stash_name account) stash_bytes ∷ []) ok (Reseals account label key main)
  reseal_suits old ok later is_later = record {
    throughout = λ contents keys before next steps starts follows.
        let lost = is_some old.lost in
        subst (λ (n : Durable). Throughout (Does old.era) (HoldsEither lost account keys before n) contents steps)
        (sym starts.asked.after_is)
        (throughout_weaker (Does old.era) (λ c. HoldsUnder lost c account before keys)
        (HoldsEither lost account keys before before)
        contents steps (λ c h. inl h)
        (reseal_law old.era lost account keys contents before stash label starts.asked.factor block stash_bytes steps
        plain
        starts.kept.clear (there lost contents keys before next starts) (held lost contents keys before next starts)
        takes.there
        starts.asked.held (is_block lost contents keys before next starts) read follows));
    last = λ o contents keys before next starts.
        let lost = is_some old.lost in (
          subst (λ (n : Durable). HoldsUnder lost (done (Put (stash_name account) stash_bytes) contents) account n keys)
              (sym starts.asked.after_is)
              (block_resealed lost account keys plain contents before stash label stash_bytes
              (there lost contents keys before next starts)
              (held lost contents keys before next starts) starts.asked.factor block takes.there starts.asked.held
              (is_block lost contents keys before next starts) read),
          subst (IsKept lost (done (Put (stash_name account) stash_bytes) contents) account) (sym (is_later o))
              (resealed_kept lost contents keys before next starts),
        );
  }

-- reseal_password, whichever way its put ended
pub reseal_edits : (old new : ShareSeen) (account : Bytes) (stored later : Stored) (stash : Stash) (row : FactorRecord)
    (ok failed went err : Type 0) (label key main iv : Bytes) (put : RecordPut)
    → IsTrue (is_account_name account) → stored.stash ≡ Some stash → get stored.factors label ≡ Some row → TakesReseal
    label row stash
    → IsStashPut account (with_resealed stash label row key main iv) put
    → (ok → later ≡ record stored { stash = Some (with_resealed stash label row key main iv) })
    → Tries old new (Put put.name put.bytes ∷ []) went err → (ok → went) → (failed → err)
    → Edits old new account stored later ok failed (Reseals account label key main)
reseal_edits old new account stored later stash row ok failed went err label key main iv put plain is at takes are
    is_later tried goes fails =
    edits_tried old new account stored later ok failed went err (Reseals account label key main)
    (Put (stash_name account) put.bytes) []
    (subst (λ (n : Bytes). Tries old new (Put n put.bytes ∷ []) went err) are.0 tried) goes fails
    (reseal_suits account plain stored stash is label row at takes key main iv put.bytes are.1 old ok later is_later)
