-- A factor is added or gets another secret: its record is put, and then the stash with its block.
use Rattle.std.proofs.Common.{◌≡◌, ℕ, ◌<◌, ◌^◌, Option, Some, Bool, refl, sym, ap, ◌∙◌, arith}
use Rattle.std.specs.Prelude.{IsTrue, option_and_then}
use Rattle.std.specs.FinMap.{get, insert}
use Rattle.account_machine.specs.declared.factor.Factor.{Factor}
use Rattle.account_machine.specs.declared.user.Durable.{Durable}
use Rattle.record_names.specs.Names.{is_account_name, is_factor_label, stash_name, factor_name, file_name}
use Rattle.share_api.specs.Contents.{Bytes, Contents, settled}
use Rattle.share_api.specs.Steps.{done}
use Rattle.share_api.specs.declared.step.Write.TheVariants.{Put}
use Rattle.sealed_text.specs.declared.sealed.Sealed.{Sealed}
use Rattle.stash_format.specs.declared.block.Block.{Block}
use Rattle.stash_format.specs.declared.contents.Contents.{Contents as Stash}
use Rattle.stash_format.specs.Resets.{Resets}
use Rattle.factor_files.specs.declared.factor.FactorRecord.{FactorRecord}
use Rattle.factor_files.specs.Record.{factor_at}
use Rattle.stored_home.specs.Unnamed.{IsUnnamed}
use Rattle.stored_home.specs.Bounds.{HasBounds}
use Rattle.stored_home.specs.Changes.{durable_with, stash_with}
use Rattle.stored_home.specs.Holds.{Keys, record_at, IsBlockOf, HoldsFiles, HoldsBy, HasStash, HoldsUnder}
use Rattle.stored_home.proofs.MapLemmas.{put_at, put_other, from_some}
use Rattle.stored_home.proofs.NameLemmas.{factor_not_stash, file_not_factor, factor_tells_label, factor_tells_edition}
use Rattle.stored_home.proofs.FrameLemmas.{SameFiles, factor_is_sound, files_stay, held_stays, held_stays_resets, stash_put, other_put}
use Rattle.stored_home.specs.Adding.{KeepsEntries, IsOwnLeaf, IsAdded}
use Rattle.stored_home.proofs.BlockLemmas.{block_added}

module _ (lost : Bool) (account : Bytes) (keys : Keys) (plain : IsTrue (is_account_name account)) (contents : Contents)
    (durable : Durable) (stash : Stash) (label : Bytes) (factor : Factor) (payload : Option Sealed) (block : Block)
    (row : FactorRecord) (row_bytes stash_bytes : Bytes) (resets : Resets)
    (there : HasStash contents.records account (Some stash))
    (h : HoldsBy lost (settled contents) account durable keys stash)
    (added : IsAdded lost account keys (settled contents).leaves resets label factor stash payload block row row_bytes stash_bytes)
  where
    -- the contents with the new record
    abbrev with_row : Contents
    with_row = done (Put (factor_name account label stash.next) row_bytes) contents

    within : stash.next < 2 ^ 64
    within = (let room = added.room in omega (arith, room))

    -- the new record's name is of none that is there
    row_is_other : IsUnnamed account contents durable (factor_name account label stash.next)
    row_is_other = record {
      not_stash = factor_not_stash account plain label stash.next added.labelled within;
      not_row = λ other found q f at labelled below inside same.
          let edition : f.edition ≡ stash.next =
          factor_tells_edition account plain q label f.edition stash.next labelled added.labelled inside within same in
          let next : other.next ≡ stash.next = ap (λ (x : Stash). x.next) (from_some other stash (sym found ∙ there)) in
          omega (arith, below, edition, next);
      not_file = λ file are. file_not_factor account plain file label stash.next are added.labelled within;
    }

    -- each factor's record is as before
    pub rows_same : (q : Bytes) (f : Factor) → get durable.factors q ≡ Some f → IsTrue (is_factor_label q) → f.edition < stash.next
        → record_at with_row.records account q f.edition ≡ record_at contents.records account q f.edition
    rows_same q f at labelled below = ap (option_and_then factor_at)
        (put_other contents.records (factor_name account label stash.next) row_bytes (factor_name account q f.edition)
        (row_is_other.not_row stash there q f at labelled below (omega (arith, below, within))))

    -- and so is each vault file
    files_same : SameFiles account contents.records with_row.records
    files_same name are = put_other contents.records (factor_name account label stash.next) row_bytes (file_name account name)
        (row_is_other.not_file name are)

    -- after the record's put the contents hold the durable part before
    pub with_row_held : HoldsUnder lost with_row account durable keys
    with_row_held = other_put lost account keys plain contents durable (factor_name account label stash.next) row_bytes
        row_is_other (record { stash = Some stash; there = there; holds = h })

    -- also beside the stash
    row_held : HoldsBy lost (settled with_row) account durable keys stash
    row_held = held_stays lost account keys (settled contents) (settled with_row) durable stash refl rows_same files_same h

    row_resets : row_held.resets ≡ h.resets
    unfolding row_held
    row_resets = held_stays_resets lost account keys (settled contents) (settled with_row) durable stash refl rows_same files_same h

    -- the new record is read
    pub new_row_read : record_at with_row.records account label factor.edition ≡ Some row
    new_row_read = ap (λ (n : ℕ). record_at with_row.records account label n) added.edition
        ∙ ap (option_and_then factor_at) (put_at contents.records (factor_name account label stash.next) row_bytes)
        ∙ added.row_read

    -- the block is the factor's, once the record is there
    block_is : IsBlockOf lost (settled with_row).records (settled with_row).leaves account keys.main resets label block factor
    block_is = record {
      edition = added.block_edition ∙ sym added.edition;
      row = row;
      read = new_row_read;
      label_is = added.row_label;
      edition_is = added.row_edition ∙ sym added.edition;
      kind_is = added.row_kind;
      opens = added.opens;
    }

    -- another label names the leaf now only where it did before
    own_leaf : IsOwnLeaf contents.records account durable.factors label row
        → IsOwnLeaf (settled with_row).records account durable.factors label row
    own_leaf own q tree names n =
        let sound = factor_is_sound lost account keys.main h.resets contents.records (settled contents).leaves stash.next q
        (get stash.blocks q) (get durable.factors q) n.factor (h.sound.blocks q) (h.blocks q) n.there in
        own q tree names (record {
          factor = n.factor;
          row = n.row;
          there = n.there;
          read = sym (rows_same q n.factor n.there sound.0 sound.1) ∙ n.read;
          names = n.names;
        })

    module _ (entries : KeepsEntries durable label h.resets resets)
        (own : IsOwnLeaf contents.records account durable.factors label row)
        (bounds : HasBounds (durable_with durable label factor))
        (files : HoldsFiles contents.records keys.vault account durable.files) where
      -- the contents with the stash too
      abbrev with_stash : Contents
      with_stash = done (Put (stash_name account) stash_bytes) with_row

      -- after the stash's put they hold the durable part with the factor
      pub with_stash_held : HoldsUnder lost with_stash account (durable_with durable label factor) keys
      unfolding block_is
      with_stash_held = stash_put lost account keys plain with_row (durable_with durable label factor)
          (stash_with stash payload label block) stash_bytes added.stash_read
          (block_added lost account keys (settled with_row) label durable stash row_held resets block factor block_is
          (λ q f away at pin. entries q f away at pin ∙ ap (λ (r : Resets). get r q) (sym row_resets))
          payload added.there added.labelled added.edition added.room (own_leaf own) bounds added.opened
          (files_stay contents.records with_row.records keys.vault account durable.files files_same files))

      -- the record that the label's factor had is named no more
      pub old_row_is_other : (old : Factor) → get durable.factors label ≡ Some old → (c : Contents)
          → IsUnnamed account c (durable_with durable label factor) (factor_name account label old.edition)
      old_row_is_other old at c =
          let sound = factor_is_sound lost account keys.main h.resets contents.records (settled contents).leaves stash.next label
          (get stash.blocks label) (get durable.factors label) old (h.sound.blocks label) (h.blocks label) at in
          let below = sound.1 in
          let old_within : old.edition < 2 ^ 64 = omega (arith, below, within) in
          record {
            not_stash = factor_not_stash account plain label old.edition sound.0 old_within;
            not_row = λ other found q f there_now labelled f_below inside same.
                let label_is : q ≡ label =
                factor_tells_label account plain q label f.edition old.edition labelled sound.0 inside old_within same in
                let edition : f.edition ≡ old.edition =
                factor_tells_edition account plain q label f.edition old.edition labelled sound.0 inside old_within same in
                let new : factor ≡ f = from_some factor f (sym (put_at durable.factors label factor)
                ∙ ap (get (insert durable.factors label factor)) (sym label_is) ∙ there_now) in
                let next : f.edition ≡ stash.next = ap (λ (x : Factor). x.edition) (sym new) ∙ added.edition in
                omega (arith, below, edition, next);
            not_file = λ file are. file_not_factor account plain file label old.edition are sound.0 old_within;
          }
