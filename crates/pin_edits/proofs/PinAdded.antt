-- A PIN is added: its leaf is inserted, its record is put, and then the stash with its block.
use Rattle.std.proofs.Common.{◌≡◌, ◌≢◌, ℕ, ◌+◌, ◌<◌, ◌^◌, [], ◌∷◌, List, Option, None, Some, Ok, false, refl, sym, ap, ◌∙◌, subst, inl, inr, ⊎_elim, arith}
use mathlib.Core.Logic.{dite}
use native.Mathlib.Decide.{ℕ_discrete}
use Rattle.std.specs.Prelude.{IsSome, IsTrue, option_and_then}
use Rattle.std.specs.FinMap.{get, insert, remove}
use Rattle.account_machine.specs.declared.factor.Factor.{Factor}
use Rattle.account_machine.specs.declared.factor.Kind.TheVariants.{Pin}
use Rattle.account_machine.specs.declared.user.Durable.{Durable}
use Rattle.account_machine.specs.Effect.{new_factor}
use Rattle.factor_files.specs.declared.factor.FactorRecord.{FactorRecord}
use Rattle.factor_files.specs.Record.{factor_at}
use Rattle.gcm_seal.proofs.GcmLemmas.{decrypted-encrypted}
use Rattle.pw_types.specs.declared.era.Era.{Era}
use Rattle.record_names.specs.Names.{is_account_name, is_factor_label, stash_name, factor_name}
use Rattle.secret_stash.specs.Edits.{live_resets}
use Rattle.secret_stash.specs.Keys.{pin_wrap, opened_payload_of, opened_sealed}
use Rattle.sealed_text.specs.OpeningSealed.{Opens}
use Rattle.share_api.specs.Contents.{Bytes, Contents, Leaves, leaves_left, settled}
use Rattle.share_api.specs.Folds.{Throughout}
use Rattle.share_api.specs.Seen.{ShareSeen}
use Rattle.share_api.specs.Steps.{Does, Follows, done, with_leaf, leaf_of}
use Rattle.share_api.specs.declared.leaf.Leaf.{Leaf}
use Rattle.share_api.specs.declared.step.Step.{Step}
use Rattle.share_api.specs.declared.step.Write.TheVariants.{Put, Remove, RemoveLeaf}
use Rattle.share_api.proofs.FoldLaws.{throughout_weaker}
use Rattle.share_api.proofs.StepLaws.{settled_same, throughout_follows}
use Rattle.stash_format.specs.Forms.{extra_by, main_of}
use Rattle.stash_format.specs.Resets.{Resets}
use Rattle.stash_format.specs.declared.block.Block.{Block}
use Rattle.stash_format.specs.declared.block.Form.TheVariants.{Bound}
use Rattle.stash_format.specs.declared.contents.Contents.{Contents as Stash}
use Rattle.stash_format.specs.declared.payload.Payload.{Payload}
use Rattle.stash_format.specs.Record.{stash_at}
use Rattle.stored_home.specs.Adding.{Adds, KeepsEntries, IsOwnLeaf, HoldsEither}
use Rattle.stored_home.specs.Bounds.{HasBounds}
use Rattle.stored_home.specs.Changes.{durable_with}
use Rattle.stored_home.specs.Holds.{Keys, record_at, IsBlockOf, OpensBy, OpensByLeaf, NamesLeaf, HoldsPayload, HoldsBy, HasStash, HoldsUnder}
use Rattle.stored_home.specs.Loaded.{IsKept}
use Rattle.stored_home.specs.Unnamed.{NamesNot}
use Rattle.stored_home.specs.declared.stored.Stored.{Stored}
use Rattle.stored_home.proofs.MapLemmas.{put_at, put_other, not_None, some_not_None, from_some, matched_right}
use Rattle.stored_home.proofs.LeafLemmas.{leaf_put, leaf_other, leaf_gone, leaf_left, leaf_undone, free_is_unnamed, leaf_added}
use Rattle.stored_home.proofs.AddLemmas.{with_row_held, with_stash_held, old_row_is_other}
use Rattle.stored_home.proofs.FrameLemmas.{other_removed}
use Rattle.stored_home.proofs.ChangeLemmas.{fresh_leaf_held, unnamed_leaf_taken}
use Rattle.stored_home.proofs.EditLemmas.{add_law}
use Rattle.home_edits.specs.Edits.{Starts}
use Rattle.home_edits.specs.Passwords.{TakesFactor}
use Rattle.home_edits.proofs.KeptLemmas.{held_by}
use Rattle.home_edits.proofs.PasswordEdits.{wrap_is}
use Rattle.home_edits.proofs.FactorKept.{set_kept}
use Rattle.home_edits.proofs.FactorRecords.{both_stash, both_row, both_others, both_names, others_then, removed_stash, removed_names, removed_others, removed_row, with_both}
use Rattle.pin_edits.specs.Pins.{pin_leaf, pin_row, pin_block, with_reset, IsPinStash, SetsPin}
use Rattle.pin_edits.specs.declared.pin_stash.NewPin.{NewPin}
use Rattle.pin_edits.proofs.HeldPins.{IsOfPin, held_pin}
use Rattle.pin_edits.proofs.LeafNames.{leaf_unnamed}
use Rattle.pin_edits.proofs.LiveResets.{live_there}
use Rattle.pin_edits.proofs.PayloadHeld.{payload_held}
use Rattle.pin_edits.proofs.PinReset.{payload_whole}
use Rattle.pin_edits.proofs.Inserted.{SuitsLeaf}

module _ (account : Bytes) (plain : IsTrue (is_account_name account)) (stored : Stored) (stash : Stash)
    (is : stored.stash ≡ Some stash) (label : Bytes) (labelled : IsTrue (is_factor_label label))
    (takes : TakesFactor label stash) (pin : NewPin) (main iv : Bytes) (later_stash : Stash)
    (made : IsPinStash stash label pin main iv later_stash) (tree : ℕ) (row_bytes stash_bytes : Bytes)
    (row_read : factor_at row_bytes ≡ Some (pin_row label stash.next pin.derived tree))
    (stash_read : stash_at stash_bytes ≡ Some later_stash) where
  abbrev row : FactorRecord
  row = pin_row label stash.next pin.derived tree

  abbrev block : Block
  block = pin_block stash label pin main iv

  abbrev leaf : Leaf
  leaf = leaf_of (pin_leaf pin)

  -- the reset secrets of the new payload
  abbrev resets : Resets
  resets = live_resets (insert stash.blocks label block) (with_reset made.old.resets label stash.next pin.reset)

  abbrev later_with : Stored
  later_with = record stored { stash = Some later_stash; factors = insert stored.factors label row }

  within : stash.next < 2 ^ 64
  within = let below = takes.below in omega (arith, below)

  room : stash.next + 1 < 2 ^ 64
  room = let below = takes.below in omega (arith, below)

  -- the new PIN's reset secret is among them
  own_reset : get resets label ≡ Some (record { edition = stash.next; secret = pin.reset })
  own_reset = live_there (insert stash.blocks label block) (with_reset made.old.resets label stash.next pin.reset) label
      (record { edition = stash.next; secret = pin.reset }) block
      (put_at made.old.resets label (record { edition = stash.next; secret = pin.reset }))
      (put_at stash.blocks label block) refl

  module _ (contents : Contents) (keys : Keys) (before next : Durable)
      (starts : Starts false account stored (SetsPin label pin main) contents keys before next)
      (free : get contents.leaves tree ≡ None) where
    abbrev factor : Factor
    factor = new_factor Pin starts.asked.secret before.next pin.schedule

    -- the contents with the leaf
    abbrev with : Contents
    with = with_leaf contents tree leaf

    there : HasStash contents.records account (Some stash)
    there = subst (HasStash contents.records account) is starts.kept.is_loaded.stash

    held : HoldsBy false (settled contents) account before keys stash
    held = held_by false contents account keys before stash starts.holds there

    held_plain : HoldsBy false contents account before keys stash
    held_plain = subst (λ c. HoldsBy false c account before keys stash) (settled_same contents starts.kept.clear) held

    held_leaf : HoldsBy false (settled with) account before keys stash
    held_leaf = subst (λ c. HoldsBy false c account before keys stash) (sym (settled_same with starts.kept.clear))
        (leaf_added false account keys before stash contents tree held_plain leaf free)

    -- the payload before is the one that is held
    whole : made.old ≡ record { vault = keys.vault; resets = held_leaf.resets }
    whole = payload_whole account keys held_leaf.resets stash.payload made.old (held_leaf.payload takes.there)
        (subst (λ (t : Bytes × Bytes). opened_payload_of t.0 t.1 stash.payload ≡ Ok made.old)
        (λ i. (sym starts.asked.main_is i, held.account_is i)) made.opened)

    -- other PINs keep their reset secrets
    entries : KeepsEntries before label held_leaf.resets resets
    entries q f away at pin_kind =
        let m = matched_right
        (IsBlockOf false (settled with).records (settled with).leaves account keys.main held_leaf.resets q)
        (get stash.blocks q) (get before.factors q) f at (held_leaf.blocks q) in
        let o : OpensByLeaf (settled with).leaves held_leaf.resets account keys.main q m.0 m.2.row f =
        subst (λ k. OpensBy false k (settled with).leaves held_leaf.resets account keys.main q m.0 m.2.row f) pin_kind
        m.2.opens in
        live_there (insert stash.blocks label block) (with_reset made.old.resets label stash.next pin.reset) q
        (record { edition = f.edition; secret = o.leaf.reset }) m.0
        (put_other made.old.resets label (record { edition = stash.next; secret = pin.reset }) q away
        ∙ ap (λ (p : Payload). get p.resets q) whole ∙ o.own.reset)
        (put_other stash.blocks label block q away ∙ m.1) m.2.edition
        ∙ sym o.own.reset

    -- the new block opens by the new leaf
    opens : OpensByLeaf (settled with).leaves resets account keys.main label block row factor
    opens = record {
      tree = tree;
      names = refl;
      leaf = leaf;
      found = ap (λ (d : Option ℕ). get (leaves_left d (insert contents.leaves tree leaf)) tree) starts.kept.clear
          ∙ leaf_put contents.leaves tree leaf;
      own = record {
        les = wrap_is pin.derived.key starts.asked.secret pin.derived.salt pin.derived.cost starts.asked.key_is;
        wrong = refl;
        last = refl;
        schedule = refl;
        reset = own_reset ∙ ap (λ (n : ℕ). Some (record { edition = n; secret = pin.reset })) held.next;
      };
      opens = subst (λ (t : Bytes × Bytes × Bytes). Opens t.0 (extra_by Bound t.1 label stash.next) (main_of block) t.2)
          (λ i. (
            ap (pin_wrap pin.high) starts.asked.key_is i,
            held.account_is i,
            sym starts.asked.main_is i,
          ))
          (record {
            tag = refl;
            text = decrypted-encrypted 8 14 (pin_wrap pin.high pin.derived.key) iv main;
          });
    }

    -- and the new payload to the vault key and the new reset secrets
    opened : HoldsPayload account keys resets (Some made.payload)
    opened = payload_held account keys made.payload resets
        (subst (λ (t : Bytes × Bytes × Bytes). opened_sealed t.0 t.1 made.payload
        ≡ Ok (record { vault = t.2; resets = resets }))
        (λ i. (sym starts.asked.main_is i, held.account_is i, ap (λ (p : Payload). p.vault) whole i)) made.opens)

    -- no other factor names the leaf
    own : IsOwnLeaf with.records account before.factors label row
    own q t names n = absurd (free_is_unnamed false account keys before stash contents tree held_plain refl free q
        (subst (λ (x : ℕ). NamesLeaf contents.records account before.factors q x) (from_some t tree (sym names)) n))

    -- record and block are the factor's
    adds : Adds false account keys with before stash label factor (Some made.payload) block row row_bytes stash_bytes
        resets
    adds = record {
      there = there;
      holds = held_leaf;
      added = record {
        labelled = labelled;
        edition = sym held.next;
        room = room;
        row_read = row_read;
        row_label = refl;
        row_edition = refl;
        row_kind = refl;
        block_edition = refl;
        opens = opens;
        there = refl;
        opened = opened;
        stash_read = stash_read ∙ ap Some made.made_is;
      };
      entries = entries;
      own = own;
      bounds = subst HasBounds starts.asked.after_is starts.asked.bounds;
      files = held.files takes.there;
    }

    -- once both are put, the factor is held
    set_held : HoldsUnder false (done (Put (stash_name account) stash_bytes)
        (done (Put (factor_name account label stash.next) row_bytes) with)) account (durable_with before label factor) keys
    set_held = with_stash_held false account keys plain with before stash label factor (Some made.payload) block row
        row_bytes stash_bytes resets adds.there adds.holds adds.added adds.entries adds.own adds.bounds adds.files

    -- and loaded, where it is new
    added_kept : get stored.factors label ≡ None
        → IsKept false (done (Put (stash_name account) stash_bytes)
        (done (Put (factor_name account label stash.next) row_bytes) with)) account later_with
    added_kept absent =
        let new = done (Put (stash_name account) stash_bytes) (done
        (Put (factor_name account label stash.next) row_bytes) with) in
        set_kept false account contents new stored stash label starts.kept is held.sound
        (both_others account plain label stash.next labelled within contents.records row_bytes stash_bytes)
        starts.kept.clear later_stash block (ap (λ (s : Stash). s.blocks) made.made_is)
        (subst (λ (s : Stash). IsSome s.payload) (sym made.made_is) refl) row
        (ap (option_and_then stash_at) (both_stash account plain label stash.next labelled within contents.records
        row_bytes stash_bytes) ∙ stash_read)
        (record {
          label_is = refl;
          edition_is = refl;
          read = ap (option_and_then factor_at) (both_row account plain label stash.next labelled within
              contents.records row_bytes stash_bytes) ∙ row_read;
        })
        (λ q found. ⊎_elim inl
        (λ k. inr (⊎_elim inl (λ was. inr (was, λ old at. absurd (not_None old (sym at ∙ absent)))) k))
        (both_names account plain label stash.next labelled within contents.records row_bytes stash_bytes q found))
        (λ found t there_now. dite (ℕ_discrete t tree)
        (λ same. inl (ap (λ (x : ℕ). Some x) (sym same)))
        (λ apart. inr (
          subst IsSome (leaf_other contents.leaves tree leaf t apart) there_now,
          λ old at. absurd (not_None old (sym at ∙ absent)),
        )))

    -- ---- the label had a PIN, whose leaf and record are removed then

    module _ (old_row : FactorRecord) (at : get stored.factors label ≡ Some old_row) (old_tree : ℕ)
        (names : old_row.leaf ≡ Some old_tree) where
      had : IsOfPin contents account keys before stash held label old_row old_tree
      had = held_pin contents account stored keys before stash held label old_row old_tree starts.kept is at names

      -- its leaf is there, so the new one is another
      apart : tree ≢ old_tree
      apart same = not_None had.leaf (sym had.found ∙ ap (get contents.leaves) (sym same) ∙ free)

      -- the contents once both are put, once the leaf is gone, and once the record is
      abbrev both : Contents
      both = done (Put (stash_name account) stash_bytes)
          (done (Put (factor_name account label stash.next) row_bytes) with)

      abbrev without_leaf : Contents
      without_leaf = done (RemoveLeaf old_tree) both

      abbrev last : Contents
      last = done (Remove (factor_name account label old_row.edition)) without_leaf

      -- the label's record names the new leaf
      own_new : NamesLeaf both.records account (insert before.factors label factor) label old_tree → ⊥
      own_new n =
          let its : factor ≡ n.factor = from_some factor n.factor
          (sym (put_at before.factors label factor) ∙ n.there) in
          let reads : record_at both.records account label n.factor.edition ≡ Some row =
          ap (λ (f : Factor). record_at both.records account label f.edition) (sym its)
          ∙ ap (λ (e : ℕ). record_at both.records account label e) (sym held.next)
          ∙ ap (option_and_then factor_at) (both_row account plain label stash.next labelled within contents.records
          row_bytes stash_bytes) ∙ row_read in
          let same : row ≡ n.row = from_some row n.row (sym reads ∙ n.read) in
          apart (from_some tree old_tree (ap (λ (r : FactorRecord). r.leaf) same ∙ n.names))

      -- so no record names the old one
      unnamed : NamesNot both.records account (insert before.factors label factor) old_tree
      unnamed = leaf_unnamed false account keys contents before stash label had.of.factor old_row old_tree held
          had.of.held had.read names both.records (insert before.factors label factor)
          (both_others account plain label stash.next labelled within contents.records row_bytes stash_bytes)
          (λ q away. put_other before.factors label factor q away) own_new

      -- the old leaf gone, the rest is held
      leaf_taken_held : HoldsUnder false without_leaf account (durable_with before label factor) keys
      leaf_taken_held = unnamed_leaf_taken false account keys both (durable_with before label factor) old_tree
          starts.kept.clear unnamed set_held

      -- and so with the old record gone
      updated_held : HoldsUnder false last account (durable_with before label factor) keys
      updated_held = subst (λ (n : ℕ). HoldsUnder false (done (Remove (factor_name account label n)) without_leaf)
          account (durable_with before label factor) keys)
          (sym had.of.edition)
          (other_removed false account keys plain without_leaf (durable_with before label factor)
          (factor_name account label had.of.factor.edition)
          (old_row_is_other false account keys plain with before stash label factor (Some made.payload) block row
          row_bytes stash_bytes resets adds.there adds.holds adds.added adds.entries adds.own adds.bounds adds.files
          had.of.factor had.of.held without_leaf) leaf_taken_held)

      -- whichever step failed, the durable part before or the one after it is held
      updated_throughout : (era : Era) (steps : List Step)
          → Follows (Put (factor_name account label stash.next) row_bytes ∷ Put (stash_name account) stash_bytes
          ∷ RemoveLeaf old_tree ∷ Remove (factor_name account label old_row.edition) ∷ []) steps
          → Throughout (Does era) (HoldsEither false account keys before (durable_with before label factor)) with steps
      updated_throughout era steps follows =
          throughout_follows era with (Put (factor_name account label stash.next) row_bytes
          ∷ Put (stash_name account) stash_bytes ∷ RemoveLeaf old_tree
          ∷ Remove (factor_name account label old_row.edition) ∷ []) steps
          (HoldsEither false account keys before (durable_with before label factor)) starts.kept.clear (
            inl (record { stash = Some stash; there = there; holds = held_leaf }),
            (
              inl (with_row_held false account keys plain with before stash label factor (Some made.payload) block row
                  row_bytes stash_bytes resets adds.there adds.holds adds.added),
              (inr set_held, (inr leaf_taken_held, inr updated_held)),
            ),
          ) follows

      -- and loaded without its old leaf and its old record
      updated_kept : IsKept false last account later_with
      updated_kept =
          let records = with_both account plain label stash.next labelled within contents.records row_bytes
          stash_bytes in
          set_kept false account contents last stored stash label starts.kept is held.sound
          (others_then account label contents.records records last.records
          (both_others account plain label stash.next labelled within contents.records row_bytes stash_bytes)
          (removed_others account label old_row.edition records plain labelled had.of.within)) starts.kept.clear
          later_stash block (ap (λ (s : Stash). s.blocks) made.made_is)
          (subst (λ (s : Stash). IsSome s.payload) (sym made.made_is) refl) row
          (ap (option_and_then stash_at) (removed_stash account label old_row.edition records
          ∙ both_stash account plain label stash.next labelled within contents.records row_bytes stash_bytes)
          ∙ stash_read)
          (record {
            label_is = refl;
            edition_is = refl;
            read = ap (option_and_then factor_at) (removed_row account plain label stash.next labelled within
                contents.records row_bytes stash_bytes old_row.edition had.of.below) ∙ row_read;
          })
          (λ q found.
          let left = removed_names account label old_row.edition records q found in ⊎_elim inl
          (λ k. inr (⊎_elim inl (λ was. inr (
            was,
            λ old here e. left.1 (e ∙ ap (λ (r : FactorRecord). factor_name account label r.edition)
                (from_some old old_row (sym here ∙ at))),
          )) k))
          (both_names account plain label stash.next labelled within contents.records row_bytes stash_bytes q left.0))
          (λ found t there_now. dite (ℕ_discrete t old_tree)
          (λ same. absurd (some_not_None (get (remove (insert contents.leaves tree leaf) old_tree) t) there_now
          (ap (get (remove (insert contents.leaves tree leaf) old_tree)) same
          ∙ leaf_gone (insert contents.leaves tree leaf) old_tree)))
          (λ away. dite (ℕ_discrete t tree)
          (λ same. inl (ap (λ (x : ℕ). Some x) (sym same)))
          (λ other. inr (
            subst IsSome (leaf_left (insert contents.leaves tree leaf) old_tree t away
                ∙ leaf_other contents.leaves tree leaf t other) there_now,
            λ old here e. away (from_some t old_tree (sym e ∙ ap (λ (r : FactorRecord). r.leaf)
                (from_some old old_row (sym here ∙ at)) ∙ names)),
          ))))

  -- what add_pin asks and does once the leaf is inserted
  pub add_suits : (old : ShareSeen) (ok : Type 0) (later : Stored) → get stored.factors label ≡ None
      → (ok → later ≡ later_with)
      → SuitsLeaf old account stored later (pin_leaf pin) tree
      (Put (factor_name account label stash.next) row_bytes ∷ Put (stash_name account) stash_bytes ∷ []) ok
      (SetsPin label pin main)
  add_suits old ok later absent is_later = record {
    throughout = λ contents keys before next steps starts free follows.
        subst (λ (n : Durable). Throughout (Does old.era) (HoldsEither false account keys before n)
        (with_leaf contents tree leaf) steps)
        (sym starts.asked.after_is)
        (add_law old.era false account keys (with_leaf contents tree leaf) before stash label
        (factor contents keys before next starts free) (Some made.payload) block row row_bytes stash_bytes resets steps
        plain starts.kept.clear (adds contents keys before next starts free) follows);
    last = λ o contents keys before next starts free. (
      subst (λ (n : Durable). HoldsUnder false (done (Put (stash_name account) stash_bytes)
          (done (Put (factor_name account label stash.next) row_bytes) (with_leaf contents tree leaf)))
          account n keys)
          (sym starts.asked.after_is) (set_held contents keys before next starts free),
      subst (IsKept false (done (Put (stash_name account) stash_bytes)
          (done (Put (factor_name account label stash.next) row_bytes) (with_leaf contents tree leaf)))
          account) (sym (is_later o)) (added_kept contents keys before next starts free absent),
    );
  }

  -- what update_pin asks and does once the leaf is inserted
  pub update_suits : (old : ShareSeen) (ok : Type 0) (later : Stored) (old_row : FactorRecord)
      → get stored.factors label ≡ Some old_row → (old_tree : ℕ) → old_row.leaf ≡ Some old_tree
      → (ok → later ≡ later_with)
      → SuitsLeaf old account stored later (pin_leaf pin) tree
      (Put (factor_name account label stash.next) row_bytes ∷ Put (stash_name account) stash_bytes
      ∷ RemoveLeaf old_tree ∷ Remove (factor_name account label old_row.edition) ∷ []) ok (SetsPin label pin main)
  update_suits old ok later old_row at old_tree names is_later = record {
    throughout = λ contents keys before next steps starts free follows.
        subst (λ (n : Durable). Throughout (Does old.era) (HoldsEither false account keys before n)
        (with_leaf contents tree leaf) steps)
        (sym starts.asked.after_is)
        (updated_throughout contents keys before next starts free old_row at old_tree names old.era steps follows);
    last = λ o contents keys before next starts free.
        let end = done (Remove (factor_name account label old_row.edition)) (done (RemoveLeaf old_tree)
        (done (Put (stash_name account) stash_bytes)
        (done (Put (factor_name account label stash.next) row_bytes) (with_leaf contents tree leaf)))) in (
          subst (λ (n : Durable). HoldsUnder false end account n keys)
              (sym starts.asked.after_is) (updated_held contents keys before next starts free old_row at old_tree names),
          subst (IsKept false end account) (sym (is_later o))
              (updated_kept contents keys before next starts free old_row at old_tree names),
        );
  }

-- a new leaf that is removed again: what was held is held throughout
pub back_held : (era : Era) (account : Bytes) (contents : Contents) (keys : Keys) (before : Durable) (tree : ℕ)
    (leaf : Leaf) (steps : List Step) → contents.doubt ≡ None → get contents.leaves tree ≡ None
    → HoldsUnder false contents account before keys → Follows (RemoveLeaf tree ∷ []) steps
    → Throughout (Does era) (λ c. HoldsUnder false c account before keys) (with_leaf contents tree leaf) steps
back_held era account contents keys before tree leaf steps clear free holds follows =
    throughout_follows era (with_leaf contents tree leaf) (RemoveLeaf tree ∷ []) steps
    (λ c. HoldsUnder false c account before keys) clear (
      fresh_leaf_held false account keys contents before tree clear leaf free holds,
      subst (λ c. HoldsUnder false c account before keys)
          (sym (ap (λ (l : Leaves). record contents { leaves = l }) (leaf_undone contents.leaves tree leaf free))) holds,
    ) follows

pub back_suits : (old : ShareSeen) (account : Bytes) (stored later : Stored) (label : Bytes) (pin : NewPin)
    (main : Bytes) (tree : ℕ) (ok : Type 0) → (ok → ⊥)
    → SuitsLeaf old account stored later (pin_leaf pin) tree (RemoveLeaf tree ∷ []) ok (SetsPin label pin main)
back_suits old account stored later label pin main tree ok none = record {
  throughout = λ contents keys before next steps starts free follows.
      throughout_weaker (Does old.era) (λ c. HoldsUnder false c account before keys)
      (HoldsEither false account keys before next) (with_leaf contents tree (leaf_of (pin_leaf pin))) steps
      (λ c h. inl h)
      (back_held old.era account contents keys before tree (leaf_of (pin_leaf pin)) steps starts.kept.clear free
      starts.holds follows);
  last = λ o. absurd (none o);
}
