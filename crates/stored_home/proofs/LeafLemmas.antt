-- What is held stays where a leaf that no factor names comes or goes, and a PIN's count changes with its leaf's.
use Rattle.std.proofs.Common.{◌≡◌, ◌≢◌, ℕ, Option, None, Some, Bool, true, false, refl, sym, ap, ◌∙◌, subst, ⊎_elim, ◌⊎◌, inl, inr, cond}
use Rattle.std.specs.Prelude.{IsSome}
use mathlib.Core.Logic.{dite}
use native.Mathlib.Decide.{ℕ_discrete}
use Rattle.std.specs.Prelude.{◌≤◌, option_map}
use Rattle.std.specs.Ordering.{nat_cmp, eq_by_cmp, is_eq}
use Rattle.std.specs.declared.cmp.Ordering.{Ordering}
use Rattle.std.specs.declared.cmp.Ordering.TheVariants.{Less, Equal, Greater}
use Rattle.std.specs.Cmp.{eq_by_cmp_equiv}
use Rattle.std.specs.Cmp.Lexicographic.{nat_list_cmp_total}
use Rattle.std.proofs.lemmas.Cmp.{nat_cmp_total}
use Rattle.std.specs.FinMap.{get, insert, remove, len, get-insert, get-remove, same_map, slice_cmp-IsAntisymmetric, nat_cmp-IsAntisymmetric}
use Rattle.name_map.specs.Mapped.{map_values}
use Rattle.name_map.proofs.MappedLemmas.{get-map_values}
use Rattle.pw_types.specs.declared.stamp.Stamp.{Stamp}
use Rattle.account_machine.specs.declared.factor.Mark.{Mark}
use Rattle.account_machine.specs.Outline.{pins}
use Rattle.account_machine.specs.User.{mark_of, home_of}
use Rattle.sealed_text.specs.OpeningSealed.{Opens}
use Rattle.stash_format.specs.Forms.{block_extra, main_of}
use Rattle.scrypt_kdf.specs.Derive.{derive}
use Rattle.stored_home.specs.Unnamed.{NamesNot}
use Rattle.stored_home.specs.Bounds.{HasBounds}
use Rattle.stored_home.specs.Changes.{durable_set, leaf_counted, factor_counted}
use Rattle.account_machine.specs.declared.factor.Kind.{Kind}
use Rattle.account_machine.specs.declared.factor.Kind.TheVariants.{Password, Pin}
use Rattle.account_machine.specs.declared.factor.Factor.{Factor}
use Rattle.account_machine.specs.declared.user.Durable.{Durable}
use Rattle.share_api.specs.Contents.{Bytes, Contents, Records, Leaves}
use Rattle.share_api.specs.declared.leaf.Leaf.{Leaf}
use Rattle.stash_format.specs.declared.block.Block.{Block}
use Rattle.stash_format.specs.declared.contents.Contents.{Contents as Stash}
use Rattle.stash_format.specs.Resets.{Resets}
use Rattle.secret_stash.specs.Keys.{pin_wrap}
use Rattle.factor_files.specs.declared.factor.FactorRecord.{FactorRecord}
use Rattle.stored_home.specs.Matching.{Matches}
use Rattle.stored_home.specs.Holds.{Keys, record_at, OpensByLeaf, OpensPin, OpensBy, IsBlockOf, NamesLeaf, HoldsBy}
use Rattle.stored_home.proofs.MapLemmas.{either, same_or_apart, put_at, put_other, not_None, some_not_None, from_some, matches_weaker, matched_right}

module _ (lost : Bool) (old new : Leaves) (resets : Resets) (account main label : Bytes) (block : Block)
    (row : FactorRecord) (factor : Factor) where
  -- a block's opening needs of the leaves its own one alone
  opens_pin_stays : (b : Bool) → (b ≡ false → (tree : ℕ) → row.leaf ≡ Some tree → get new tree ≡ get old tree)
      → OpensPin b old resets account main label block row factor → OpensPin b new resets account main label block row factor
  opens_pin_stays true same h = h
  opens_pin_stays false same h = record {
    tree = h.tree;
    names = h.names;
    leaf = h.leaf;
    found = same refl h.tree h.names ∙ h.found;
    own = h.own;
    opens = h.opens;
  }

  opens_stays : (kind : Kind) → (lost ≡ false → (tree : ℕ) → row.leaf ≡ Some tree → get new tree ≡ get old tree)
      → OpensBy lost kind old resets account main label block row factor
      → OpensBy lost kind new resets account main label block row factor
  opens_stays Password same h = h
  opens_stays Pin same h = opens_pin_stays lost same h

-- a block whose leaf stays
pub block_with_leaf : (lost : Bool) (records : Records) (old new : Leaves) (account main : Bytes) (resets : Resets)
    (label : Bytes) (block : Block) (factor : Factor)
    → ((row : FactorRecord) → record_at records account label factor.edition ≡ Some row → lost ≡ false → (tree : ℕ)
    → row.leaf ≡ Some tree → get new tree ≡ get old tree)
    → IsBlockOf lost records old account main resets label block factor
    → IsBlockOf lost records new account main resets label block factor
block_with_leaf lost records old new account main resets label block factor same h = record {
  edition = h.edition;
  row = h.row;
  read = h.read;
  label_is = h.label_is;
  edition_is = h.edition_is;
  kind_is = h.kind_is;
  opens = opens_stays lost old new resets account main label block h.row factor factor.kind (same h.row h.read) h.opens;
}

module _ (lost : Bool) (account : Bytes) (keys : Keys) (durable : Durable) (stash : Stash) where
  -- what is held stays where all leaves that factors name stay
  pub held_with_leaves : (contents : Contents) (leaves : Leaves)
      → (lost ≡ false → (label : Bytes) (tree : ℕ) → NamesLeaf contents.records account durable.factors label tree
      → get leaves tree ≡ get contents.leaves tree)
      → HoldsBy lost contents account durable keys stash
      → HoldsBy lost (record contents { leaves = leaves }) account durable keys stash
  held_with_leaves contents leaves same h = record {
    made = h.made;
    account_is = h.account_is;
    next = h.next;
    sound = h.sound;
    resets = h.resets;
    blocks = λ label. matches_weaker
        (IsBlockOf lost contents.records contents.leaves account keys.main h.resets label)
        (IsBlockOf lost contents.records leaves account keys.main h.resets label)
        (get stash.blocks label) (get durable.factors label)
        (λ block factor x y b. block_with_leaf lost contents.records contents.leaves leaves account keys.main h.resets
        label block factor
        (λ row read found tree names. same found label tree
        (record { factor = factor; row = row; there = y; read = read; names = names })) b)
        (h.blocks label);
    apart = h.apart;
    bare = h.bare;
    bounds = h.bounds;
    payload = h.payload;
    files = h.files;
  }

-- an order of numbers that counts as equal is Equal
number_tie : (o : Ordering) → is_eq o ≡ true → o ≡ Equal
number_tie Less e = cc
number_tie Equal e = refl
number_tie Greater e = cc

-- two labels that differ are told apart
numbers_apart : (q n : ℕ) → q ≢ n → eq_by_cmp nat_cmp q n ≡ false
numbers_apart q n apart = ⊎_elim
    (λ e. absurd (apart (nat_cmp-IsAntisymmetric q n (number_tie (nat_cmp q n) e)))) (λ e. e)
    (either (eq_by_cmp nat_cmp q n))

module _ (leaves : Leaves) (tree : ℕ) where
  -- the leaf at a label where one was put, and at another label
  pub leaf_put : (leaf : Leaf) → get (insert leaves tree leaf) tree ≡ Some leaf
  leaf_put leaf = get-insert nat_cmp_total leaves tree leaf tree
      ∙ ap (λ b. cond b (Some leaf) (get leaves tree)) ((eq_by_cmp_equiv nat_cmp_total).refl tree)

  pub leaf_other : (leaf : Leaf) (q : ℕ) → q ≢ tree → get (insert leaves tree leaf) q ≡ get leaves q
  leaf_other leaf q apart = get-insert nat_cmp_total leaves tree leaf q
      ∙ ap (λ b. cond b (Some leaf) (get leaves q)) (numbers_apart q tree apart)

  -- and where one was taken away
  pub leaf_gone : get (remove leaves tree) tree ≡ None
  leaf_gone = get-remove nat_cmp_total leaves tree tree
      ∙ ap (λ b. cond b None (get leaves tree)) ((eq_by_cmp_equiv nat_cmp_total).refl tree)

  pub leaf_left : (q : ℕ) → q ≢ tree → get (remove leaves tree) q ≡ get leaves q
  leaf_left q apart = get-remove nat_cmp_total leaves tree q
      ∙ ap (λ b. cond b None (get leaves q)) (numbers_apart q tree apart)

-- a leaf that is put at a free label and taken away changes nothing
pub leaf_undone : (leaves : Leaves) (tree : ℕ) (leaf : Leaf) → get leaves tree ≡ None
    → remove (insert leaves tree leaf) tree ≡ leaves
leaf_undone leaves tree leaf free = same_map nat_cmp_total nat_cmp-IsAntisymmetric (remove (insert leaves tree leaf) tree) leaves
    (λ q. dite (ℕ_discrete q tree)
    (λ same. ap (get (remove (insert leaves tree leaf) tree)) same ∙ leaf_gone (insert leaves tree leaf) tree ∙ sym free
    ∙ ap (get leaves) (sym same))
    (λ apart. leaf_left (insert leaves tree leaf) tree q apart ∙ leaf_other leaves tree leaf q apart))

module _ (lost : Bool) (account : Bytes) (keys : Keys) (durable : Durable) (stash : Stash) (contents : Contents)
    (tree : ℕ) (h : HoldsBy lost contents account durable keys stash) where
  -- a label that a factor's record names has a leaf, where the tree isn't lost
  pub named_leaf : lost ≡ false → (label : Bytes) → NamesLeaf contents.records account durable.factors label tree
      → (leaf : Leaf) × (get contents.leaves tree ≡ Some leaf)
  named_leaf found label n =
      let at = matched_right (IsBlockOf lost contents.records contents.leaves account keys.main h.resets label)
      (get stash.blocks label) (get durable.factors label) n.factor n.there (h.blocks label) in
      let same : at.2.row ≡ n.row = from_some at.2.row n.row (sym at.2.read ∙ n.read) in
      by_kind at.0 n.factor.kind at.2.row (ap (λ (r : FactorRecord). r.leaf) same ∙ n.names) n.factor
      (subst (λ b. OpensBy b n.factor.kind contents.leaves h.resets account keys.main label at.0 at.2.row n.factor) found at.2.opens)
    where
      by_kind : (block : Block) (kind : Kind) (row : FactorRecord) → row.leaf ≡ Some tree → (factor : Factor)
          → OpensBy false kind contents.leaves h.resets account keys.main label block row factor
          → (leaf : Leaf) × (get contents.leaves tree ≡ Some leaf)
      by_kind block Password row names factor o = absurd (not_None tree (sym names ∙ o.none))
      by_kind block Pin row names factor o =
          (o.leaf, ap (get contents.leaves) (from_some tree o.tree (sym names ∙ o.names)) ∙ o.found)

  -- no factor names a label without a leaf, where the tree isn't lost
  pub free_is_unnamed : lost ≡ false → get contents.leaves tree ≡ None
      → NamesNot contents.records account durable.factors tree
  free_is_unnamed found free label n =
      let there = named_leaf found label n in not_None there.0 (sym there.1 ∙ free)

  -- a leaf at a free label changes nothing that is held
  pub leaf_added : (leaf : Leaf) → get contents.leaves tree ≡ None
      → HoldsBy lost (record contents { leaves = insert contents.leaves tree leaf }) account durable keys stash
  leaf_added leaf free = held_with_leaves lost account keys durable stash contents (insert contents.leaves tree leaf)
      (λ found label q n. leaf_other contents.leaves tree leaf q
      (λ same. free_is_unnamed found free label (subst (λ (t : ℕ). NamesLeaf contents.records account durable.factors label t) same n)))
      h

  -- and neither does the removal of a leaf that no factor names
  pub leaf_taken : NamesNot contents.records account durable.factors tree
      → HoldsBy lost (record contents { leaves = remove contents.leaves tree }) account durable keys stash
  leaf_taken unnamed = held_with_leaves lost account keys durable stash contents (remove contents.leaves tree)
      (λ found label q n. leaf_left contents.leaves tree q
      (λ same. unnamed label (subst (λ (t : ℕ). NamesLeaf contents.records account durable.factors label t) same n)))
      h

-- ---- the count of a PIN

-- the marks of factors stay where a factor is replaced by one of its kind and edition
marks_same : (durable : Durable) (label : Bytes) (old new : Factor) → get durable.factors label ≡ Some old
    → mark_of new ≡ mark_of old → (home_of (durable_set durable label new)).marks ≡ (home_of durable).marks
marks_same durable label old new there same = same_map nat_list_cmp_total (slice_cmp-IsAntisymmetric nat_cmp-IsAntisymmetric)
    (map_values mark_of (insert durable.factors label new)) (map_values mark_of durable.factors)
    (λ q. get-map_values mark_of (insert durable.factors label new) q
    ∙ ⊎_elim
    (λ e. ap (λ (l : Bytes). option_map mark_of (get (insert durable.factors label new) l)) e
    ∙ ap (option_map mark_of) (put_at durable.factors label new)
    ∙ ap Some same
    ∙ ap (option_map mark_of) (sym there)
    ∙ ap (λ (l : Bytes). option_map mark_of (get durable.factors l)) (sym e))
    (λ away. ap (option_map mark_of) (put_other durable.factors label new q away))
    (same_or_apart q label)
    ∙ sym (get-map_values mark_of durable.factors q))

-- so the bounds of a home stay
bounds_same : (durable : Durable) (label : Bytes) (old new : Factor) → get durable.factors label ≡ Some old
    → mark_of new ≡ mark_of old → HasBounds durable → HasBounds (durable_set durable label new)
bounds_same durable label old new there same bounds = by (same_or_apart bounds.label label)
  where
    marks : (home_of (durable_set durable label new)).marks ≡ (home_of durable).marks
    marks = marks_same durable label old new there same

    by : (bounds.label ≡ label) ⊎ (bounds.label ≢ label) → HasBounds (durable_set durable label new)
    by (inl e) = record {
      factors = subst (λ m. len m ≤ 32) (sym marks) bounds.factors;
      pins = subst (λ m. pins m ≤ 8) (sym marks) bounds.pins;
      label = label;
      factor = new;
      there = put_at durable.factors label new;
      is_password = ap (λ (m : Mark). m.kind) same
          ∙ ap (λ (f : Factor). f.kind) (from_some old bounds.factor (sym there ∙ ap (get durable.factors) (sym e) ∙ bounds.there))
          ∙ bounds.is_password;
      files = bounds.files;
    }
    by (inr away) = record {
      factors = subst (λ m. len m ≤ 32) (sym marks) bounds.factors;
      pins = subst (λ m. pins m ≤ 8) (sym marks) bounds.pins;
      label = bounds.label;
      factor = bounds.factor;
      there = put_other durable.factors label new bounds.label away ∙ bounds.there;
      is_password = bounds.is_password;
      files = bounds.files;
    }

-- A PIN's count and stamp change together with those of its leaf, as by a try, a reset or a clearing.
module _ (account : Bytes) (keys : Keys) (contents : Contents) (durable : Durable) (stash : Stash) (label : Bytes)
    (factor : Factor) (row : FactorRecord) (tree : ℕ) (leaf : Leaf) (wrong : ℕ) (last : Stamp)
    (h : HoldsBy false contents account durable keys stash)
    (there : get durable.factors label ≡ Some factor) (is_pin : factor.kind ≡ Pin)
    (read : record_at contents.records account label factor.edition ≡ Some row) (names : row.leaf ≡ Some tree)
    (found : get contents.leaves tree ≡ Some leaf) where
  abbrev leaves_after : Leaves
  leaves_after = insert contents.leaves tree (leaf_counted leaf wrong last)

  abbrev factor_after : Factor
  factor_after = factor_counted factor wrong last

  -- the PIN's own block
  own_opens : (block : Block) (r : FactorRecord) → r ≡ row
      → OpensByLeaf contents.leaves h.resets account keys.main label block r factor
      → OpensByLeaf leaves_after h.resets account keys.main label block r factor_after
  own_opens block r is o =
      let same_tree : o.tree ≡ tree = from_some o.tree tree (sym o.names ∙ ap (λ (x : FactorRecord). x.leaf) is ∙ names) in
      let same_leaf : o.leaf ≡ leaf = from_some o.leaf leaf (sym o.found ∙ ap (get contents.leaves) same_tree ∙ found) in
      record {
        tree = tree;
        names = o.names ∙ ap (λ (t : ℕ). Some t) same_tree;
        leaf = leaf_counted leaf wrong last;
        found = leaf_put contents.leaves tree (leaf_counted leaf wrong last);
        own = record {
          les = ap (λ (l : Leaf). l.les) (sym same_leaf) ∙ o.own.les;
          wrong = refl;
          last = refl;
          schedule = ap (λ (l : Leaf). l.schedule) (sym same_leaf) ∙ o.own.schedule;
          reset = o.own.reset ∙ ap (λ (l : Leaf). Some (record { edition = factor.edition; secret = l.reset })) same_leaf;
        };
        opens = subst (λ (l : Leaf). Opens (pin_wrap l.hes (derive factor.secret r.salt r.cost)) (block_extra account label block) (main_of block) keys.main) same_leaf o.opens;
      }

  own_block : (block : Block) → IsBlockOf false contents.records contents.leaves account keys.main h.resets label block factor
      → IsBlockOf false contents.records leaves_after account keys.main h.resets label block factor_after
  own_block block b = record {
    edition = b.edition;
    row = b.row;
    read = b.read;
    label_is = b.label_is;
    edition_is = b.edition_is;
    kind_is = b.kind_is;
    opens = subst (λ k. OpensBy false k leaves_after h.resets account keys.main label block b.row factor_after) (sym is_pin)
        (own_opens block b.row (from_some b.row row (sym b.read ∙ read))
        (subst (λ k. OpensBy false k contents.leaves h.resets account keys.main label block b.row factor) is_pin b.opens));
  }

  -- another factor's block
  other_block : (q : Bytes) (block : Block) (f : Factor) → q ≢ label → get durable.factors q ≡ Some f
      → IsBlockOf false contents.records contents.leaves account keys.main h.resets q block f
      → IsBlockOf false contents.records leaves_after account keys.main h.resets q block f
  other_block q block f away at b = block_with_leaf false contents.records contents.leaves leaves_after account keys.main
      h.resets q block f
      (λ r r_read _ t t_names. leaf_other contents.leaves tree (leaf_counted leaf wrong last) t
      (λ same. away (h.apart q label tree
      (record { factor = f; row = r; there = at; read = r_read; names = t_names ∙ ap (λ (x : ℕ). Some x) same })
      (record { factor = factor; row = row; there = there; read = read; names = names })))) b

  blocks_after : (q : Bytes) → Matches (IsBlockOf false contents.records leaves_after account keys.main h.resets q)
      (get stash.blocks q) (get (insert durable.factors label factor_after) q)
  blocks_after q = ⊎_elim
      (λ e. subst (λ (l : Bytes). Matches (S l) (get stash.blocks l) (get (insert durable.factors label factor_after) l)) (sym e)
      (subst (λ y. Matches (S label) (get stash.blocks label) y) (sym (put_at durable.factors label factor_after))
      (at_label (get stash.blocks label)
      (subst (λ y. Matches (IsBlockOf false contents.records contents.leaves account keys.main h.resets label) (get stash.blocks label) y)
      there (h.blocks label)))))
      (λ away. subst (λ y. Matches (S q) (get stash.blocks q) y) (sym (put_other durable.factors label factor_after q away))
      (matches_weaker (IsBlockOf false contents.records contents.leaves account keys.main h.resets q) (S q)
      (get stash.blocks q) (get durable.factors q)
      (λ block f x y b. other_block q block f away y b) (h.blocks q)))
      (same_or_apart q label)
    where
      S : Bytes → Block → Factor → Type 0
      S l = IsBlockOf false contents.records leaves_after account keys.main h.resets l

      at_label : (x : Option Block)
          → Matches (IsBlockOf false contents.records contents.leaves account keys.main h.resets label) x (Some factor)
          → Matches (S label) x (Some factor_after)
      at_label None m = absurd m
      at_label (Some block) m = own_block block m

  -- a label that names a leaf named it before
  named_before : (q : Bytes) (t : ℕ) → NamesLeaf contents.records account (insert durable.factors label factor_after) q t
      → NamesLeaf contents.records account durable.factors q t
  named_before q t n = ⊎_elim
      (λ e. subst (λ (l : Bytes). NamesLeaf contents.records account durable.factors l t) (sym e)
      (own (subst (λ (l : Bytes). NamesLeaf contents.records account (insert durable.factors label factor_after) l t) e n)))
      (λ away. record {
        factor = n.factor;
        row = n.row;
        there = sym (put_other durable.factors label factor_after q away) ∙ n.there;
        read = n.read;
        names = n.names;
      })
      (same_or_apart q label)
    where
      own : NamesLeaf contents.records account (insert durable.factors label factor_after) label t
          → NamesLeaf contents.records account durable.factors label t
      own m =
          let same : factor_after ≡ m.factor = from_some factor_after m.factor (sym (put_at durable.factors label factor_after) ∙ m.there) in
          record {
            factor = factor;
            row = m.row;
            there = there;
            read = ap (λ (f : Factor). record_at contents.records account label f.edition) same ∙ m.read;
            names = m.names;
          }

  -- the contents after the change hold the durable part after it
  pub pin_counted : IsSome stash.payload
      → HoldsBy false (record contents { leaves = leaves_after }) account (durable_set durable label factor_after) keys stash
  pin_counted some = record {
    made = h.made;
    account_is = h.account_is;
    next = h.next;
    sound = h.sound;
    resets = h.resets;
    blocks = blocks_after;
    apart = λ one two t p q. h.apart one two t (named_before one t p) (named_before two t q);
    bare = λ none. absurd (some_not_None stash.payload some none);
    bounds = λ _. bounds_same durable label factor factor_after there refl (h.bounds some);
    payload = h.payload;
    files = h.files;
  }
