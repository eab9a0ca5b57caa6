-- What is held stays where the records and leaves that it names stay.
use Rattle.std.proofs.Common.{◌≡◌, ◌≢◌, ℕ, ◌<◌, Option, None, Some, Bool, refl, sym, ap, ◌∙◌, subst, arith}
use Rattle.std.specs.Prelude.{IfSome, IsTrue, option_and_then}
use Rattle.std.specs.FinMap.{get, insert, empty}
use Rattle.account_machine.specs.declared.factor.Factor.{Factor}
use Rattle.account_machine.specs.declared.user.Durable.{Durable}
use Rattle.record_names.specs.Names.{is_account_name, is_factor_label, AreParts, File, stash_name, factor_name, file_name}
use Rattle.share_api.specs.Contents.{Bytes, Contents, Records, Leaves, leaves_left, settled}
use Rattle.share_api.specs.Steps.{done}
use Rattle.share_api.specs.declared.step.Write.TheVariants.{Put, Remove}
use Rattle.stash_format.specs.declared.block.Block.{Block}
use Rattle.stash_format.specs.declared.contents.Contents.{Contents as Stash}
use Rattle.stash_format.specs.Resets.{Resets}
use Rattle.stash_format.specs.Record.{stash_at}
use Rattle.factor_files.specs.Record.{factor_at}
use Rattle.stored_home.specs.Matching.{Matches}
use Rattle.stored_home.specs.Unnamed.{IsUnnamed}
use Rattle.stored_home.specs.Holds.{Keys, Factors, Files, record_at, IsBlockOf, IsSoundBlock, NamesLeaf, AreApart, IsFileOf, HoldsFiles, HoldsBy, HasStash, HoldsStash, HoldsUnder}
use Rattle.stored_home.proofs.MapLemmas.{matches_weaker, put_at, put_other, taken_other, some_not_None}
use Rattle.stored_home.proofs.NameLemmas.{factor_not_stash, file_not_stash}

-- one stash at a time
pub same_stash : (records : Records) (account : Bytes) (x y : Option Stash)
    → HasStash records account x → HasStash records account y → x ≡ y
same_stash records account None None p q = refl
same_stash records account None (Some t) p q = let e : None ≡ Some t = sym (ap (option_and_then stash_at) p) ∙ q in e
same_stash records account (Some s) None p q = let e : Some s ≡ None = sym p ∙ ap (option_and_then stash_at) q in e
same_stash records account (Some s) (Some t) p q = sym p ∙ q

-- the records of all factors are as before
abbrev pub SameRows : Bytes → ℕ → Durable → Records → Records → Type 0
SameRows account next durable old new = (label : Bytes) (factor : Factor) → get durable.factors label ≡ Some factor
    → IsTrue (is_factor_label label) → factor.edition < next
    → record_at new account label factor.edition ≡ record_at old account label factor.edition

-- all vault files are as before
abbrev pub SameFiles : Bytes → Records → Records → Type 0
SameFiles account old new = (name : Bytes) → AreParts (File account name)
    → get new (file_name account name) ≡ get old (file_name account name)

module _ (lost : Bool) (account : Bytes) (main : Bytes) (resets : Resets) where
  -- the block of a factor is sound
  pub factor_is_sound : (records : Records) (leaves : Leaves) (next : ℕ) (label : Bytes) (x : Option Block) (y : Option Factor)
      (factor : Factor) → IfSome x (IsSoundBlock next label)
      → Matches (IsBlockOf lost records leaves account main resets label) x y
      → y ≡ Some factor → IsTrue (is_factor_label label) × (factor.edition < next)
  factor_is_sound records leaves next label None None factor s m e = cc
  factor_is_sound records leaves next label None (Some f) factor s m e = absurd m
  factor_is_sound records leaves next label (Some b) None factor s m e = absurd m
  factor_is_sound records leaves next label (Some b) (Some f) factor s m e =
      let k : f.edition ≡ factor.edition =
      ap (λ (o : Option Factor). elim o as (λ _. ℕ) [ None ↦ 0 | Some g ↦ g.edition ]) e in
      let below = s.below in
      let edition = m.edition in
      (s.labelled, omega (arith, below, edition, k))

  -- a block whose factor's record stays
  pub block_stays : (old new : Records) (leaves : Leaves) (label : Bytes) (block : Block) (factor : Factor)
      → record_at new account label factor.edition ≡ record_at old account label factor.edition
      → IsBlockOf lost old leaves account main resets label block factor
      → IsBlockOf lost new leaves account main resets label block factor
  block_stays old new leaves label block factor same h = record {
    edition = h.edition;
    row = h.row;
    read = same ∙ h.read;
    label_is = h.label_is;
    edition_is = h.edition_is;
    kind_is = h.kind_is;
    opens = h.opens;
  }

-- leaves that are named stay named by the same labels
pub apart_stays : (old new : Records) (account : Bytes) (factors : Factors)
    → ((label : Bytes) (factor : Factor) → get factors label ≡ Some factor
    → record_at new account label factor.edition ≡ record_at old account label factor.edition)
    → AreApart old account factors → AreApart new account factors
apart_stays old new account factors same apart one two tree p q = apart one two tree (back one p) (back two q)
  where
    back : (label : Bytes) → NamesLeaf new account factors label tree → NamesLeaf old account factors label tree
    back label h = record {
      factor = h.factor;
      row = h.row;
      there = h.there;
      read = sym (same label h.factor h.there) ∙ h.read;
      names = h.names;
    }

-- vault files that stay are held as before
pub files_stay : (old new : Records) (vault account : Bytes) (files : Files)
    → SameFiles account old new → HoldsFiles old vault account files → HoldsFiles new vault account files
files_stay old new vault account files same h = record {
  named = h.named;
  bytes = λ name are. subst (λ o. Matches (IsFileOf vault account name) o (get files name))
      (sym (same name are)) (h.bytes name are);
}

module _ (lost : Bool) (account : Bytes) (keys : Keys) where
  -- what is held beside a stash stays with the records and leaves that it names
  pub held_stays : (old new : Contents) (durable : Durable) (stash : Stash)
      → new.leaves ≡ old.leaves
      → SameRows account stash.next durable old.records new.records
      → SameFiles account old.records new.records
      → HoldsBy lost old account durable keys stash
      → HoldsBy lost new account durable keys stash
  held_stays old new durable stash leaves rows files h = record {
    made = h.made;
    account_is = h.account_is;
    next = h.next;
    sound = h.sound;
    resets = h.resets;
    blocks = λ label. matches_weaker
        (IsBlockOf lost old.records old.leaves account keys.main h.resets label)
        (IsBlockOf lost new.records new.leaves account keys.main h.resets label)
        (get stash.blocks label) (get durable.factors label)
        (λ block factor x y b.
        subst (λ l. IsBlockOf lost new.records l account keys.main h.resets label block factor) (sym leaves)
        (block_stays lost account keys.main h.resets old.records new.records old.leaves label block factor
        (same label factor y) b))
        (h.blocks label);
    apart = apart_stays old.records new.records account durable.factors same h.apart;
    bare = h.bare;
    bounds = h.bounds;
    payload = h.payload;
    files = λ some. files_stay old.records new.records keys.vault account durable.files files (h.files some);
  }
    where
      same : (label : Bytes) (factor : Factor) → get durable.factors label ≡ Some factor
          → record_at new.records account label factor.edition ≡ record_at old.records account label factor.edition
      same label factor there =
          let sound = factor_is_sound lost account keys.main h.resets old.records old.leaves stash.next label
          (get stash.blocks label) (get durable.factors label) factor (h.sound.blocks label) (h.blocks label) there in
          rows label factor there sound.0 sound.1

  -- with the same payload's entries
  pub held_stays_resets : (old new : Contents) (durable : Durable) (stash : Stash) (leaves : new.leaves ≡ old.leaves)
      (rows : SameRows account stash.next durable old.records new.records)
      (files : SameFiles account old.records new.records) (h : HoldsBy lost old account durable keys stash)
      → (held_stays old new durable stash leaves rows files h).resets ≡ h.resets
  unfolding held_stays
  held_stays_resets old new durable stash leaves rows files h = refl

  -- the keys of a home without factors are free
  pub bare_keys : (other : Keys) (contents : Contents) (durable : Durable) (stash : Stash)
      → stash.payload ≡ None
      → HoldsBy lost contents account durable keys stash
      → HoldsBy lost contents account durable other stash
  bare_keys other contents durable stash none h = record {
    made = h.made;
    account_is = h.account_is;
    next = h.next;
    sound = h.sound;
    resets = h.resets;
    blocks = λ label. matches_weaker
        (IsBlockOf lost contents.records contents.leaves account keys.main h.resets label)
        (IsBlockOf lost contents.records contents.leaves account other.main h.resets label)
        (get stash.blocks label) (get durable.factors label)
        (λ block factor x y b. absurd (no_block label block x))
        (h.blocks label);
    apart = h.apart;
    bare = h.bare;
    bounds = λ some. absurd (some_not_None stash.payload some none);
    payload = λ some. absurd (some_not_None stash.payload some none);
    files = λ some. absurd (some_not_None stash.payload some none);
  }
    where
      no_block : (label : Bytes) (block : Block) → get stash.blocks label ≡ Some block → ⊥
      no_block label block x = Rattle.stored_home.proofs.MapLemmas.not_None block
          (sym x ∙ ap (λ (m : Rattle.stash_format.specs.Blocks.Blocks). get m label) (h.bare none).0
          ∙ Rattle.std.specs.FinMap.get-empty (Rattle.std.specs.Cmp.Lexicographic.slice_cmp Rattle.std.specs.Ordering.nat_cmp) label)

  -- what is held stays so when the next step begins
  pub held_settled : (contents : Contents) (durable : Durable) → HoldsUnder lost contents account durable keys
      → HoldsUnder lost (settled contents) account durable keys
  held_settled contents durable h = record { stash = h.stash; there = h.there; holds = h.holds }

  module _ (plain : IsTrue (is_account_name account)) where
    -- What is held beside a stash is held by the contents once the stash is put.
    pub stash_put : (contents : Contents) (durable : Durable) (stash : Stash) (bytes : Bytes)
        → stash_at bytes ≡ Some stash
        → HoldsBy lost (settled contents) account durable keys stash
        → HoldsUnder lost (done (Put (stash_name account) bytes) contents) account durable keys
    stash_put contents durable stash bytes read h = record {
      stash = Some stash;
      there = ap (option_and_then stash_at) (put_at contents.records (stash_name account) bytes) ∙ read;
      holds = held_stays (settled contents) (settled (done (Put (stash_name account) bytes) contents)) durable stash refl
          (λ label factor there labelled below. ap (option_and_then factor_at)
          (put_other contents.records (stash_name account) bytes (factor_name account label factor.edition)
          (factor_not_stash account plain label factor.edition labelled
          (let within = h.sound.within in omega (arith, below, within)))))
          (λ name are. put_other contents.records (stash_name account) bytes (file_name account name)
          (file_not_stash account plain name are)) h;
    }

    module _ (contents new : Contents) (durable : Durable) (name : Bytes) (other : IsUnnamed account contents durable name)
        (leaves : new.leaves ≡ contents.leaves) (doubt : new.doubt ≡ contents.doubt)
        (same : (q : Bytes) → q ≢ name → get new.records q ≡ get contents.records q) where
      -- what is held stays where no other record than such a one changes
      other_changed : (x : Option Stash) → HasStash contents.records account x
          → HoldsStash lost (settled contents) account durable keys x
          → HoldsUnder lost new account durable keys
      other_changed None there holds = record {
        stash = None;
        there = same (stash_name account) (λ e. other.not_stash (sym e)) ∙ there;
        holds = holds;
      }
      other_changed (Some stash) there holds = record {
        stash = Some stash;
        there = ap (option_and_then stash_at) (same (stash_name account) (λ e. other.not_stash (sym e))) ∙ there;
        holds = held_stays (settled contents) (settled new) durable stash
            (λ i. leaves_left (doubt i) (leaves i))
            (λ label factor is labelled below. ap (option_and_then factor_at)
            (same (factor_name account label factor.edition)
            (other.not_row stash there label factor is labelled below
            (let within = holds.sound.within in omega (arith, below, within)))))
            (λ file are. same (file_name account file) (other.not_file file are)) holds;
      }

    -- what is held stays where such a record is put
    pub other_put : (contents : Contents) (durable : Durable) (name bytes : Bytes) → IsUnnamed account contents durable name
        → HoldsUnder lost contents account durable keys
        → HoldsUnder lost (done (Put name bytes) contents) account durable keys
    other_put contents durable name bytes other h =
        other_changed contents (done (Put name bytes) contents) durable name other refl refl
        (λ q apart. put_other contents.records name bytes q apart) h.stash h.there h.holds

    -- and where such a record is removed
    pub other_removed : (contents : Contents) (durable : Durable) (name : Bytes) → IsUnnamed account contents durable name
        → HoldsUnder lost contents account durable keys
        → HoldsUnder lost (done (Remove name) contents) account durable keys
    other_removed contents durable name other h =
        other_changed contents (done (Remove name) contents) durable name other refl refl
        (λ q apart. taken_other contents.records name q apart) h.stash h.there h.holds
