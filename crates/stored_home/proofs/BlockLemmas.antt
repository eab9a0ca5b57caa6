-- What is held once a block was added to the stash, replaced, or taken away.
use Rattle.std.proofs.Common.{◌≡◌, ◌≢◌, ℕ, ◌+◌, ◌<◌, ◌≤◌, ◌^◌, Option, None, Some, Bool, true, false, refl, sym, ap, ◌∙◌, subst, ⊎_elim, arith}
use Rattle.std.specs.Prelude.{IfSome, IsSome, IsTrue}
use Rattle.std.specs.FinMap.{get, insert, remove}
use Rattle.account_machine.specs.declared.factor.Kind.{Kind}
use Rattle.account_machine.specs.declared.factor.Kind.TheVariants.{Password, Pin}
use Rattle.account_machine.specs.declared.factor.Factor.{Factor}
use Rattle.account_machine.specs.declared.user.Durable.{Durable}
use Rattle.record_names.specs.Names.{is_factor_label}
use Rattle.share_api.specs.Contents.{Bytes, Contents, Records, Leaves}
use Rattle.sealed_text.specs.declared.sealed.Sealed.{Sealed}
use Rattle.stash_format.specs.declared.block.Block.{Block}
use Rattle.stash_format.specs.declared.contents.Contents.{Contents as Stash}
use Rattle.stash_format.specs.Resets.{Resets}
use Rattle.factor_files.specs.declared.factor.FactorRecord.{FactorRecord}
use Rattle.stored_home.specs.Matching.{Matches}
use Rattle.stored_home.specs.Bounds.{HasBounds}
use Rattle.stored_home.specs.Adding.{KeepsEntries, IsOwnLeaf}
use Rattle.stored_home.specs.Changes.{durable_with, durable_without, stash_with}
use Rattle.secret_stash.specs.Edits.{with_block, without_block}
use Rattle.stored_home.specs.Holds.{Keys, record_at, OpensPin, OpensBy, IsBlockOf, IsSoundBlock, NamesLeaf, AreApart, HoldsFiles, HoldsPayload, HoldsBy}
use Rattle.stored_home.proofs.MapLemmas.{same_or_apart, put_at, put_other, put_same, taken_at, taken_other, matches_weaker, from_some, not_None, some_not_None}

-- an option's fact, with what is known of it
if_some_weaker : {X : Type 0} (P Q : X → Type 0) (o : Option X) → ((x : X) → P x → Q x) → IfSome o P → IfSome o Q
if_some_weaker P Q None w h = tt
if_some_weaker P Q (Some x) w h = w x h

module _ (lost : Bool) (leaves : Leaves) (old new : Resets) (account main label : Bytes) (block : Block)
    (row : FactorRecord) (factor : Factor) where
  -- a block's opening needs of the payload the entry of its own label alone
  opens_pin_moves : (b : Bool) → get new label ≡ get old label
      → OpensPin b leaves old account main label block row factor → OpensPin b leaves new account main label block row factor
  opens_pin_moves true same h = h
  opens_pin_moves false same h = record {
    tree = h.tree;
    names = h.names;
    leaf = h.leaf;
    found = h.found;
    own = record {
      les = h.own.les;
      wrong = h.own.wrong;
      last = h.own.last;
      schedule = h.own.schedule;
      reset = same ∙ h.own.reset;
    };
    opens = h.opens;
  }

  opens_moves : (kind : Kind) → (kind ≡ Pin → get new label ≡ get old label)
      → OpensBy lost kind leaves old account main label block row factor
      → OpensBy lost kind leaves new account main label block row factor
  opens_moves Password same h = h
  opens_moves Pin same h = opens_pin_moves lost (same refl) h

module _ (lost : Bool) (records : Records) (leaves : Leaves) (account main : Bytes) (old new : Resets) where
  -- a block of another label stays, where the payload keeps its entry
  pub block_moves : (label : Bytes) (block : Block) (factor : Factor) → (factor.kind ≡ Pin → get new label ≡ get old label)
      → IsBlockOf lost records leaves account main old label block factor
      → IsBlockOf lost records leaves account main new label block factor
  block_moves label block factor same h = record {
    edition = h.edition;
    row = h.row;
    read = h.read;
    label_is = h.label_is;
    edition_is = h.edition_is;
    kind_is = h.kind_is;
    opens = opens_moves lost leaves old new account main label block h.row factor factor.kind same h.opens;
  }

module _ (lost : Bool) (account : Bytes) (keys : Keys) (contents : Contents) (label : Bytes) (durable : Durable)
    (stash : Stash) (h : HoldsBy lost contents account durable keys stash) (resets : Resets) (block : Block)
    (factor : Factor) (is : IsBlockOf lost contents.records contents.leaves account keys.main resets label block factor)
    (entries : KeepsEntries durable label h.resets resets) where
  abbrev R : Bytes → Block → Factor → Type 0
  R q = IsBlockOf lost contents.records contents.leaves account keys.main resets q

  -- at each label the block is the factor's once this label's was set
  blocks_set : (q : Bytes) → Matches (R q) (get (insert stash.blocks label block) q) (get (insert durable.factors label factor) q)
  blocks_set q = ⊎_elim here away (same_or_apart q label)
    where
      here : q ≡ label → Matches (R q) (get (insert stash.blocks label block) q) (get (insert durable.factors label factor) q)
      here e = subst (λ (l : Bytes). Matches (R l) (get (insert stash.blocks label block) l) (get (insert durable.factors label factor) l)) (sym e)
          (subst (λ x. Matches (R label) x (get (insert durable.factors label factor) label)) (sym (put_at stash.blocks label block))
          (subst (λ y. Matches (R label) (Some block) y) (sym (put_at durable.factors label factor)) is))

      away : q ≢ label → Matches (R q) (get (insert stash.blocks label block) q) (get (insert durable.factors label factor) q)
      away e = subst (λ x. Matches (R q) x (get (insert durable.factors label factor) q)) (sym (put_other stash.blocks label block q e))
          (subst (λ y. Matches (R q) (get stash.blocks q) y) (sym (put_other durable.factors label factor q e))
          (matches_weaker (IsBlockOf lost contents.records contents.leaves account keys.main h.resets q) (R q)
          (get stash.blocks q) (get durable.factors q)
          (λ b f x y m. block_moves lost contents.records contents.leaves account keys.main h.resets resets q b f
          (λ pin. entries q f e y pin) m)
          (h.blocks q)))

  -- no two PINs have one leaf, where the new one's is its own
  apart_set : IsOwnLeaf contents.records account durable.factors label is.row → AreApart contents.records account durable.factors
      → AreApart contents.records account (insert durable.factors label factor)
  apart_set own apart one two tree p q = ⊎_elim
      (λ e. e ∙ sym (at_label two q (of_label (subst (λ (l : Bytes). NamesLeaf contents.records account (insert durable.factors label factor) l tree) e p))))
      (λ away. ⊎_elim
      (λ e. at_label one p (of_label (subst (λ (l : Bytes). NamesLeaf contents.records account (insert durable.factors label factor) l tree) e q)) ∙ sym e)
      (λ apart_too. apart one two tree (back one away p) (back two apart_too q))
      (same_or_apart two label))
      (same_or_apart one label)
    where
      After : Bytes → Type 0
      After l = NamesLeaf contents.records account (insert durable.factors label factor) l tree

      -- the record of another label is as before
      back : (l : Bytes) → l ≢ label → NamesLeaf contents.records account (insert durable.factors label factor) l tree
          → NamesLeaf contents.records account durable.factors l tree
      back l away n = record {
        factor = n.factor;
        row = n.row;
        there = sym (put_other durable.factors label factor l away) ∙ n.there;
        read = n.read;
        names = n.names;
      }

      -- the label's own record is the new one
      of_label : NamesLeaf contents.records account (insert durable.factors label factor) label tree → is.row.leaf ≡ Some tree
      of_label n =
          let same : factor ≡ n.factor = from_some factor n.factor (sym (put_at durable.factors label factor) ∙ n.there) in
          let row : is.row ≡ n.row = from_some is.row n.row
          (sym is.read ∙ ap (λ (f : Factor). record_at contents.records account label f.edition) same ∙ n.read) in
          ap (λ (r : FactorRecord). r.leaf) row ∙ n.names

      at_label : (l : Bytes) → NamesLeaf contents.records account (insert durable.factors label factor) l tree
          → is.row.leaf ≡ Some tree → l ≡ label
      at_label l n names = ⊎_elim (λ e. e) (λ away. own l tree names (back l away n)) (same_or_apart l label)

  -- all blocks are sound with one more
  sound_set : (next : ℕ) → stash.next ≤ next → next < 2 ^ 64 → IsSoundBlock next label block → (q : Bytes)
      → IfSome (get (insert stash.blocks label block) q) (IsSoundBlock next q)
  sound_set next grown within sound q = ⊎_elim
      (λ e. subst (λ (l : Bytes). IfSome (get (insert stash.blocks label block) l) (IsSoundBlock next l)) (sym e)
      (subst (λ o. IfSome o (IsSoundBlock next label)) (sym (put_at stash.blocks label block)) sound))
      (λ away. subst (λ o. IfSome o (IsSoundBlock next q)) (sym (put_other stash.blocks label block q away))
      (if_some_weaker (IsSoundBlock stash.next q) (IsSoundBlock next q) (get stash.blocks q)
      (λ b s. record { labelled = s.labelled; below = (let below = s.below in omega (arith, below, grown)) })
      (h.sound.blocks q)))
      (same_or_apart q label)

  -- A block of the next edition was added, for a new factor or for one that was there: the contents beside the
  -- longer stash hold the durable part with the factor.
  pub block_added : (payload : Option Sealed) → IsSome payload
      → IsTrue (is_factor_label label) → factor.edition ≡ stash.next → stash.next + 1 < 2 ^ 64
      → IsOwnLeaf contents.records account durable.factors label is.row
      → HasBounds (durable_with durable label factor)
      → HoldsPayload account keys resets payload
      → HoldsFiles contents.records keys.vault account durable.files
      → HoldsBy lost contents account (durable_with durable label factor) keys (stash_with stash payload label block)
  block_added payload some labelled edition room own bounds opened files = record {
    made = h.made;
    account_is = h.account_is;
    next = ap (λ (n : ℕ). n + 1) h.next;
    sound = record {
      within = room;
      blocks = sound_set (stash.next + 1) (omega arith) room
          (record { labelled = labelled; below = (let same = is.edition in omega (arith, same, edition)) });
    };
    resets = resets;
    blocks = blocks_set;
    apart = apart_set own h.apart;
    bare = λ none. absurd (some_not_None payload some none);
    bounds = λ _. bounds;
    payload = λ _. opened;
    files = λ _. files;
  }

  -- A block was replaced by one of the same edition, for the same factor, as where it is sealed anew.
  pub block_set : get durable.factors label ≡ Some factor
      → IsTrue (is_factor_label label) → block.edition < stash.next → IsSome stash.payload
      → HoldsPayload account keys resets stash.payload
      → HoldsBy lost contents account durable keys (with_block stash label block)
  block_set there labelled below some opened =
      let same : insert durable.factors label factor ≡ durable.factors = put_same durable.factors label factor there in
      record {
        made = h.made;
        account_is = h.account_is;
        next = h.next;
        sound = record {
          within = h.sound.within;
          blocks = sound_set stash.next (omega arith) h.sound.within (record { labelled = labelled; below = below });
        };
        resets = resets;
        blocks = λ q. subst (λ m. Matches (R q) (get (insert stash.blocks label block) q) (get m q)) same (blocks_set q);
        apart = h.apart;
        bare = λ none. absurd (some_not_None stash.payload some none);
        bounds = h.bounds;
        payload = λ _. opened;
        files = h.files;
      }

-- The block of a label was taken away, with the factor.
module _ (lost : Bool) (account : Bytes) (keys : Keys) (contents : Contents) (label : Bytes) (durable : Durable)
    (stash : Stash) (h : HoldsBy lost contents account durable keys stash) where
  -- at each other label the block stays the factor's
  blocks_without : (q : Bytes)
      → Matches (IsBlockOf lost contents.records contents.leaves account keys.main h.resets q)
      (get (remove stash.blocks label) q) (get (remove durable.factors label) q)
  blocks_without q = ⊎_elim
      (λ e. subst (λ (l : Bytes). Matches (S l) (get (remove stash.blocks label) l) (get (remove durable.factors label) l)) (sym e)
      (subst (λ x. Matches (S label) x (get (remove durable.factors label) label)) (sym (taken_at stash.blocks label))
      (subst (λ y. Matches (S label) None y) (sym (taken_at durable.factors label)) tt)))
      (λ away. subst (λ x. Matches (S q) x (get (remove durable.factors label) q)) (sym (taken_other stash.blocks label q away))
      (subst (λ y. Matches (S q) (get stash.blocks q) y) (sym (taken_other durable.factors label q away)) (h.blocks q)))
      (same_or_apart q label)
    where
      S : Bytes → Block → Factor → Type 0
      S l = IsBlockOf lost contents.records contents.leaves account keys.main h.resets l

  -- all other blocks are sound
  sound_without : (q : Bytes) → IfSome (get (remove stash.blocks label) q) (IsSoundBlock stash.next q)
  sound_without q = ⊎_elim
      (λ e. subst (λ (l : Bytes). IfSome (get (remove stash.blocks label) l) (IsSoundBlock stash.next l)) (sym e)
      (subst (λ o. IfSome o (IsSoundBlock stash.next label)) (sym (taken_at stash.blocks label)) tt))
      (λ away. subst (λ o. IfSome o (IsSoundBlock stash.next q)) (sym (taken_other stash.blocks label q away))
      (h.sound.blocks q))
      (same_or_apart q label)

  -- a label that is left names its leaf as before
  named_before : (q : Bytes) (tree : ℕ) → NamesLeaf contents.records account (remove durable.factors label) q tree
      → NamesLeaf contents.records account durable.factors q tree
  named_before q tree n = ⊎_elim
      (λ e. absurd (not_None n.factor (sym n.there ∙ ap (get (remove durable.factors label)) e ∙ taken_at durable.factors label)))
      (λ away. record {
        factor = n.factor;
        row = n.row;
        there = sym (taken_other durable.factors label q away) ∙ n.there;
        read = n.read;
        names = n.names;
      })
      (same_or_apart q label)

  pub block_taken : IsSome stash.payload → HasBounds (durable_without durable label)
      → HoldsBy lost contents account (durable_without durable label) keys (without_block stash label)
  block_taken some bounds = record {
    made = h.made;
    account_is = h.account_is;
    next = h.next;
    sound = record { within = h.sound.within; blocks = sound_without };
    resets = h.resets;
    blocks = blocks_without;
    apart = λ one two tree p q. h.apart one two tree (named_before one tree p) (named_before two tree q);
    bare = λ none. absurd (some_not_None stash.payload some none);
    bounds = λ _. bounds;
    payload = h.payload;
    files = h.files;
  }
