-- The first password of a home is added: its record is put, and then the stash with its block and the payload.
use Rattle.std.proofs.Common.{◌≡◌, ◌+◌, ◌<◌, ◌≤◌, ◌^◌, [], ◌∷◌, Option, None, Some, Result, Ok, Err, Bool, true, false, cond, refl, sym, ap, ◌∙◌, subst, inl, inr, ⊎_elim, take, arith}
use Rattle.std.specs.Prelude.{IsSome, IsSomeAnd, IsTrue, is_some, bytes_eq, option_and_then}
use Rattle.std.specs.Result.{result_ok}
use Rattle.std.specs.Ordering.{nat_cmp}
use Rattle.std.specs.Cmp.Lexicographic.{slice_cmp}
use Rattle.std.specs.FinMap.{get, insert, get-empty}
use Rattle.std.proofs.lemmas.Slice.Eq.{bytes_eq-Decides}
use Rattle.account_machine.specs.declared.factor.Factor.{Factor}
use Rattle.account_machine.specs.declared.factor.Kind.TheVariants.{Password}
use Rattle.account_machine.specs.declared.user.Durable.{Durable}
use Rattle.account_machine.specs.Effect.{new_factor}
use Rattle.ct_bytes.specs.Reading.{or_fault}
use Rattle.gcm_seal.specs.Gcm.{decrypted, tag_of}
use Rattle.gcm_seal.proofs.GcmLemmas.{decrypted-encrypted}
use Rattle.record_names.specs.Names.{is_account_name, is_factor_label, stash_name, factor_name, file_name}
use Rattle.sealed_text.specs.OpeningSealed.{opened, Opens}
use Rattle.sealed_text.specs.declared.sealed.Sealed.{Sealed}
use Rattle.secret_stash.specs.Keys.{payload_extra, payload_or_fault, opened_sealed, opened_payload}
use Rattle.secret_stash.specs.Edits.{with_payload, sealed_payload}
use Rattle.secret_stash.specs.Faults.{told_record}
use Rattle.share_api.specs.Contents.{Bytes, Contents, settled}
use Rattle.share_api.specs.Folds.{Throughout}
use Rattle.share_api.specs.Seen.{ShareSeen, Tries}
use Rattle.share_api.specs.Steps.{Does, done}
use Rattle.share_api.specs.declared.step.Write.TheVariants.{Put}
use Rattle.stash_format.specs.Blocks.{Blocks}
use Rattle.stash_format.specs.Forms.{extra_by, main_of}
use Rattle.stash_format.specs.Payloads.{payload_read}
use Rattle.stash_format.specs.Resets.{Resets}
use Rattle.stash_format.specs.Sizes.{payload_size, most_payload}
use Rattle.stash_format.specs.declared.block.Block.{Block}
use Rattle.stash_format.specs.declared.block.Form.TheVariants.{Bound}
use Rattle.stash_format.specs.declared.contents.Contents.{Contents as Stash}
use Rattle.stash_format.specs.declared.fault.RecordFault.{RecordFault}
use Rattle.stash_format.specs.declared.payload.Payload.{Payload}
use Rattle.stash_format.specs.Record.{stash_at}
use Rattle.factor_files.specs.declared.factor.FactorRecord.{FactorRecord}
use Rattle.factor_files.specs.Record.{factor_at}
use Rattle.stored_home.specs.Adding.{Adds, HoldsEither}
use Rattle.stored_home.specs.Bounds.{HasBounds}
use Rattle.stored_home.specs.Changes.{durable_with, stash_with}
use Rattle.stored_home.specs.Matching.{Matches}
use Rattle.stored_home.specs.Holds.{Keys, Files, IsBlockOf, IsFileOf, OpensBySecret, HoldsFiles, HoldsPayload, HoldsBy, HasStash, HoldsUnder}
use Rattle.stored_home.specs.Loaded.{Rows, IsKept, IsNamed, IsRowOf, block_in}
use Rattle.stored_home.specs.declared.stored.Stored.{Stored}
use Rattle.stored_home.proofs.MapLemmas.{not_None, some_not_None}
use Rattle.stored_home.proofs.AddLemmas.{with_stash_held}
use Rattle.stored_home.proofs.EditLemmas.{add_law}
use Rattle.home_edits.specs.Edits.{Starts, Edits}
use Rattle.home_edits.specs.FirstPasswords.{TakesFirst, IsFirstStash, SetsFirstPassword}
use Rattle.home_edits.specs.Passwords.{password_row, password_block, with_password, AreFactorPuts}
use Rattle.stored_home.specs.declared.derived.Derived.{Derived}
use Rattle.home_edits.specs.declared.factor_puts.FactorPuts.{FactorPuts}
use Rattle.home_edits.proofs.Edited.{Suits, edits_tried}
use Rattle.home_edits.proofs.KeptLemmas.{held_by, none_matched}
use Rattle.home_edits.proofs.NamesApart.{stash_apart_file}
use Rattle.home_edits.proofs.PasswordEdits.{wrap_is}
use Rattle.home_edits.proofs.FactorKept.{set_kept}
use Rattle.home_edits.proofs.FactorRecords.{both_stash, both_row, both_others, both_names}

-- a text that opening gives is one that the sealed text opens to
opens_to : (key extra : Bytes) (sealed : Sealed) (text : Bytes) → opened key extra sealed ≡ Some text → Opens key extra
    sealed text
opens_to key extra sealed text e = by (bytes_eq sealed.tag (tag_of 8 14 key sealed.iv extra sealed.text))
    (bytes_eq-Decides sealed.tag (tag_of 8 14 key sealed.iv extra sealed.text)).0 e
  where
    by : (b : Bool) → (b ≡ true → sealed.tag ≡ tag_of 8 14 key sealed.iv extra sealed.text)
        → cond b (Some (decrypted 8 14 key sealed.iv sealed.text)) None ≡ Some text → Opens key extra sealed text
    by true fits h = record {
      tag = sym (fits refl);
      text = (let same : decrypted 8 14 key sealed.iv sealed.text ≡
          text = cc in same);
    }
    by false fits h = absurd (cc h)

-- what is read is there
read_there : (r : Result Payload RecordFault) (payload : Payload) → or_fault told_record r ≡ Ok payload → result_ok r ≡
    Some payload
read_there (Ok x) payload e = let same : x ≡ payload = cc in ap Some same
read_there (Err fault) payload e = absurd (cc e)

-- a payload that opens to the vault key is the home's
payload_held : (account : Bytes) (keys : Keys) (sealed : Sealed) (resets : Resets)
    → opened_sealed keys.main account sealed ≡ Ok (record { vault = keys.vault; resets = resets })
    → HoldsPayload account keys resets (Some sealed)
payload_held account keys sealed resets e = by (opened keys.main (payload_extra account) sealed) refl e
  where
    by : (o : Option Bytes) → opened keys.main (payload_extra account) sealed ≡ o
        → payload_or_fault o ≡ Ok (record { vault = keys.vault; resets = resets }) → HoldsPayload account keys resets
        (Some sealed)
    by None is h = absurd (cc h)
    by (Some text) is h = record {
      text = text;
      opens = opens_to keys.main (payload_extra account) sealed text is;
      read = read_there (payload_read text) (record { vault = keys.vault; resets = resets }) h;
    }

-- a stash with a first block and a payload sealed after it
pub first_is : (stash : Stash) (label : Bytes) (derived : Derived) (main vault iv later : Bytes) (mid new : Stash)
    (payload : Payload) (resets : Resets)
    → mid ≡ with_password stash label derived main iv → new ≡ with_payload mid main payload later
    → opened_payload new main ≡ Ok (record { vault = vault; resets = resets }) → payload_size new ≤ most_payload
    → IsFirstStash stash label derived main vault iv new
first_is stash label derived main vault iv later mid new payload resets mid_is new_is opens short =
    let whole : new ≡ with_payload (with_password stash label derived main iv) main payload later =
    new_is ∙ ap (λ (s : Stash). with_payload s main payload later) mid_is in
    record {
      payload = sealed_payload (with_password stash label derived main iv) main payload later;
      resets = resets;
      made_is = whole;
      opens = subst (λ (s : Stash). opened_payload s main ≡ Ok (record { vault = vault; resets = resets })) whole opens;
      short = subst (λ (s : Stash). payload_size s ≤ most_payload) whole short;
    }

module _ (account : Bytes) (plain : IsTrue (is_account_name account)) (stored : Stored) (stash : Stash)
    (is : stored.stash ≡ Some stash) (label : Bytes) (labelled : IsTrue (is_factor_label label))
    (takes : TakesFirst label stash)
    (derived : Derived) (main vault iv row_bytes stash_bytes : Bytes) (made : Stash)
    (first : IsFirstStash stash label derived main vault iv made)
    (row_read : factor_at row_bytes ≡ Some (password_row label stash.next derived))
    (stash_read : stash_at stash_bytes ≡ Some made) where
  abbrev row : FactorRecord
  row = password_row label stash.next derived

  abbrev block : Block
  block = password_block stash label derived main iv

  abbrev set_stash : Stash
  set_stash = stash_with stash (Some first.payload) label block

  abbrev later_with : Stored
  later_with = record stored { stash = Some set_stash; factors = insert stored.factors label row }

  within : stash.next < 2 ^ 64
  within = let below = takes.below in omega (arith, below)

  room : stash.next + 1 < 2 ^ 64
  room = let below = takes.below in omega (arith, below)

  stash_reads : stash_at stash_bytes ≡ Some set_stash
  stash_reads = stash_read ∙ ap Some first.made_is

  module _ (lost : Bool) (contents : Contents) (keys : Keys) (before next : Durable)
      (starts : Starts lost account stored (SetsFirstPassword label derived main vault) contents keys before next) where
    abbrev factor : Factor
    factor = new_factor Password starts.asked.secret before.next starts.asked.schedule

    there : HasStash contents.records account (Some stash)
    there = subst (HasStash contents.records account) is starts.kept.is_loaded.stash

    held : HoldsBy lost (settled contents) account before keys stash
    held = held_by lost contents account keys before stash starts.holds there

    -- the home has no block, no factor and no loaded record of one
    no_block : (q : Bytes) → get stash.blocks q ≡ None
    no_block q = ap (λ (m : Blocks). get m q) (held.bare takes.bare).0 ∙ get-empty (slice_cmp nat_cmp) q

    no_factor : (q : Bytes) → get before.factors q ≡ None
    no_factor q = none_matched (IsBlockOf lost contents.records (settled contents).leaves account keys.main held.resets
        q) (get before.factors q)
        (subst (λ x. Matches (IsBlockOf lost contents.records (settled contents).leaves account keys.main held.resets
        q) x (get before.factors q))
        (no_block q) (held.blocks q))

    no_row : (q : Bytes) → get stored.factors q ≡ None
    no_row q = none_matched (IsRowOf contents.records account q) (get stored.factors q)
        (subst (λ x. Matches (IsRowOf contents.records account q) x (get stored.factors q)) (no_block q)
        (subst (λ x. Matches (IsRowOf contents.records account q) (block_in x q) (get stored.factors q)) is
        (starts.kept.is_loaded.rows q)))

    -- and no vault file is there
    file_gone : (o : Option Bytes) (name : Bytes) → (IsSome o → IsNamed account stored (file_name account name)) → o ≡
        None
    file_gone None name named = refl
    file_gone (Some bytes) name named = absurd (⊎_elim
        (λ e. stash_apart_file account name (sym e))
        (λ k. ⊎_elim
        (λ w. not_None w.1 (sym w.2 ∙ no_row w.0))
        (λ f. some_not_None stash.payload (subst (λ x. IsSomeAnd x (λ (s : Stash). IsSome s.payload)) is f.0)
        takes.bare) k)
        (named refl))

    no_files : HoldsFiles contents.records keys.vault account before.files
    no_files = record {
      named = λ name some. absurd (some_not_None (get before.files name) some (none name));
      bytes = λ name are. subst (λ x. Matches (IsFileOf keys.vault account name) x (get before.files name))
          (sym (file_gone (get contents.records (file_name account name)) name
          (starts.kept.tidy.records (file_name account name) (inr (inr (name, refl))))))
          (subst (λ y. Matches (IsFileOf keys.vault account name) None y) (sym (none name)) tt);
    }
      where
        none : (name : Bytes) → get before.files name ≡ None
        none name = ap (λ (m : Files). get m name) (held.bare takes.bare).1 ∙ get-empty (slice_cmp nat_cmp) name

    opened_first : HoldsPayload account keys first.resets (Some first.payload)
    opened_first = payload_held account keys first.payload first.resets
        (subst (λ (t : Bytes × Bytes × Bytes). opened_sealed t.0 t.1 first.payload ≡ Ok
        (record { vault = t.2; resets = first.resets }))
        (λ i. (sym starts.asked.main_is i, held.account_is i, sym starts.asked.vault_is i)) first.opens)

    opens : OpensBySecret account keys.main label block row factor
    opens = record {
      none = refl;
      opens = subst (λ (t : Bytes × Bytes × Bytes). Opens t.0 (extra_by Bound t.1 label stash.next) (main_of block) t.2)
          (λ i. (
            wrap_is derived.key starts.asked.secret derived.salt derived.cost starts.asked.key_is i,
            held.account_is i,
            sym starts.asked.main_is i,
          ))
          (record { tag = refl; text = decrypted-encrypted 8 14 (take 32 derived.key) iv main });
    }

    adds : Adds lost account keys contents before stash label factor (Some first.payload) block row row_bytes
        stash_bytes first.resets
    adds = record {
      there = there;
      holds = held;
      added = record {
        labelled = labelled;
        edition = sym held.next;
        room = room;
        row_read = row_read;
        row_label = refl;
        row_edition = refl;
        row_kind = refl;
        block_edition = refl;
        opens = opens;
        there = refl;
        opened = opened_first;
        stash_read = stash_reads;
      };
      entries = λ q f away at pin. absurd (not_None f (sym at ∙ no_factor q));
      own = λ q tree names n. absurd (not_None tree (sym names));
      bounds = subst HasBounds starts.asked.after_is starts.asked.bounds;
      files = no_files;
    }

    set_held : HoldsUnder lost (done (Put (stash_name account) stash_bytes)
        (done (Put (factor_name account label stash.next) row_bytes) contents))
        account (durable_with before label factor) keys
    set_held = with_stash_held lost account keys plain contents before stash label factor (Some first.payload) block
        row row_bytes stash_bytes
        first.resets adds.there adds.holds adds.added adds.entries adds.own adds.bounds adds.files

    first_kept : IsKept lost (done (Put (stash_name account) stash_bytes)
        (done (Put (factor_name account label stash.next) row_bytes) contents))
        account later_with
    first_kept =
        let new = done (Put (stash_name account) stash_bytes) (done
        (Put (factor_name account label stash.next) row_bytes) contents) in
        set_kept lost account contents new stored stash label starts.kept is held.sound
        (both_others account plain label stash.next labelled within contents.records row_bytes stash_bytes)
        starts.kept.clear
        set_stash block refl refl row
        (ap (option_and_then stash_at) (both_stash account plain label stash.next labelled within contents.records
        row_bytes stash_bytes) ∙ stash_reads)
        (record {
          label_is = refl;
          edition_is = refl;
          read = ap (option_and_then factor_at) (both_row account plain label stash.next labelled within
              contents.records row_bytes stash_bytes) ∙ row_read;
        })
        (λ q found. ⊎_elim inl
        (λ k. inr (⊎_elim inl (λ was. inr (was, λ old at. absurd (not_None old (sym at ∙ no_row label)))) k))
        (both_names account plain label stash.next labelled within contents.records row_bytes stash_bytes q found))
        (λ found tree leaf. inr (leaf, λ old at. absurd (not_None old (sym at ∙ no_row label))))

  -- what add_first_password asks and does
  pub first_suits : (old : ShareSeen) (ok : Type 0) (later : Stored) → (ok → later ≡ later_with)
      → Suits old account stored later
      (Put (factor_name account label stash.next) row_bytes ∷ Put (stash_name account) stash_bytes ∷ []) ok
      (SetsFirstPassword label derived main vault)
  first_suits old ok later is_later = record {
    throughout = λ contents keys before next steps starts follows.
        let lost = is_some old.lost in
        let f = factor lost contents keys before next starts in
        subst (λ (n : Durable). Throughout (Does old.era) (HoldsEither lost account keys before n) contents steps)
        (sym starts.asked.after_is)
        (add_law old.era lost account keys contents before stash label f (Some first.payload) block row row_bytes
        stash_bytes
        first.resets steps plain starts.kept.clear (adds lost contents keys before next starts) follows);
    last = λ o contents keys before next starts. (
      subst (λ (n : Durable). HoldsUnder (is_some old.lost) (done (Put (stash_name account) stash_bytes)
          (done (Put (factor_name account label stash.next) row_bytes) contents)) account n keys)
          (sym starts.asked.after_is) (set_held (is_some old.lost) contents keys before next starts),
      subst (IsKept (is_some old.lost) (done (Put (stash_name account) stash_bytes)
          (done (Put (factor_name account label stash.next) row_bytes) contents)) account) (sym (is_later o))
          (first_kept (is_some old.lost) contents keys before next starts),
    );
  }

-- what an edit that sets a first password has made
pub first_puts : (account : Bytes) (rows : Rows) (stash : Stash) (label : Bytes) (derived : Derived)
    (main vault iv : Bytes) (made : Stash)
    (row : FactorRecord) (puts : FactorPuts)
    → IsFirstStash stash label derived main vault iv made → row ≡ password_row label stash.next derived
    → AreFactorPuts account rows made row puts
    → IsFirstStash stash label derived main vault iv puts.stash
    × AreFactorPuts account rows puts.stash (password_row label stash.next derived) puts
first_puts account rows stash label derived main vault iv made row puts first is are = (
  subst (IsFirstStash stash label derived main vault iv) (sym are.stash_is) first,
  subst (λ (r : FactorRecord). AreFactorPuts account rows puts.stash r puts) is
      (subst (λ (s : Stash). AreFactorPuts account rows s row puts) (sym are.stash_is) are),
)

-- add_first_password, whichever way its puts ended
pub first_edits : (old new : ShareSeen) (account : Bytes) (stored later : Stored) (stash : Stash)
    (ok failed went err : Type 0)
    (label : Bytes) (derived : Derived) (main vault iv : Bytes) (puts : FactorPuts)
    → IsTrue (is_account_name account) → stored.stash ≡ Some stash → IsTrue (is_factor_label label) → TakesFirst label
    stash
    → IsFirstStash stash label derived main vault iv puts.stash
    → AreFactorPuts account stored.factors puts.stash (password_row label stash.next derived) puts
    → (ok → later ≡ record stored { stash = Some puts.stash; factors = puts.factors })
    → Tries old new (Put puts.row_put.name puts.row_put.bytes ∷ Put puts.stash_put.name puts.stash_put.bytes ∷ []) went
    err
    → (ok → went) → (failed → err)
    → Edits old new account stored later ok failed (SetsFirstPassword label derived main vault)
first_edits old new account stored later stash ok failed went err label derived main vault iv puts plain is labelled
    takes first are is_later tried goes fails =
    edits_tried old new account stored later ok failed went err (SetsFirstPassword label derived main vault)
    (Put (factor_name account label stash.next) puts.row_put.bytes) (Put (stash_name account) puts.stash_put.bytes ∷ [])
    (subst (λ (n : Bytes × Bytes). Tries old new (Put n.0 puts.row_put.bytes ∷ Put n.1 puts.stash_put.bytes ∷ []) went
    err)
    (λ i. (are.row_put.0 i, are.stash_put.0 i)) tried) goes fails
    (first_suits account plain stored stash is label labelled takes derived main vault iv puts.row_put.bytes
    puts.stash_put.bytes puts.stash first
    are.row_put.1 are.stash_put.1 old ok later
    (λ o. is_later o ∙ (λ i. record stored { stash = Some (first.made_is i); factors = are.factors_are i })))
