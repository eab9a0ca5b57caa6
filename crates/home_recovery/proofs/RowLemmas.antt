-- Factor records that are read one after another.
use Rattle.std.proofs.Common.{◌≡◌, ◌≢◌, ℕ, zero, suc, ◌+◌, ◌<◌, ◌≤◌, List, [], ◌∷◌, Option, None, Some, Ok, Err, Bool, true, false, cond, length, refl, sym, ap, ◌∙◌, subst, inl, inr, ⊎_elim, ◌⊎◌, arith}
use Rattle.std.specs.Prelude.{IsSome, IfSome, IsTrue, slice_get}
use Rattle.std.specs.Ordering.{nat_cmp, eq_by_cmp}
use Rattle.std.specs.declared.cmp.Ordering.{Ordering}
use Rattle.std.specs.List.{AllByRecursion}
use Rattle.std.proofs.lemmas.List.Elements.{recursion_from_All}
use Rattle.std.proofs.lemmas.Bool.{cases_lt}
use Rattle.stash_format.proofs.Rows.{Everywhere-entries}
use Rattle.std.specs.Cmp.Lexicographic.{slice_cmp}
use Rattle.std.specs.FinMap.{FinMap, get, insert, empty, entries, len, find, get-entries, get-empty, len-entries}
use Rattle.home_names.specs.Names.{is_factor_label}
use Rattle.record_names.specs.Names.{factor_name}
use Rattle.share_api.specs.Contents.{Bytes, Contents}
use Rattle.stash_format.specs.declared.block.Block.{Block}
use Rattle.stash_format.specs.declared.contents.Contents.{Contents as Stash}
use Rattle.stash_format.specs.Kept.{HasRows}
use Rattle.factor_files.specs.declared.factor.FactorRecord.{FactorRecord}
use Rattle.stored_home.specs.Holds.{record_at}
use Rattle.stored_home.specs.Loaded.{Rows, IsRowOf}
use Rattle.stored_home.specs.Matching.{Matches}
use Rattle.stored_home.specs.declared.fault.StoreFault.{StoreFault}
use Rattle.stored_home.specs.declared.fault.StoreFault.TheVariants.{Failed, Damaged, NoMemory, TreeLost}
use Rattle.stored_home.proofs.MapLemmas.{same_or_apart, put_at, put_other, from_some, not_None, some_is, at_same, either}
use Rattle.stored_home.specs.Coherent.{RowNames, FitsBlock}
use Rattle.factor_files.specs.Record.{IsFactor}
use Rattle.home_recovery.specs.Parts.{AreFitting, FitsRow, TellsRow, TellsItsLeaf, TellsFactor, TellsRows, HasItsLeaf, HasRowsOf}

-- ---- one factor

-- what its record's fault tells
pub row_fault : (account label : Bytes) (lost : Bool) (edition : ℕ) (fault : StoreFault) (c : Contents)
    → TellsRow account label edition (Err fault) c → TellsFactor account lost label edition (Err fault) c
row_fault account label lost edition Failed c h = tt
row_fault account label lost edition (Damaged name) c h = inl h
row_fault account label lost edition NoMemory c h = tt
row_fault account label lost edition (TreeLost host chip) c h = tt

-- and its leaf's
pub leaf_fault : (account label : Bytes) (lost : Bool) (edition : ℕ) (row : FactorRecord) (fault : StoreFault) (c : Contents)
    → TellsRow account label edition (Ok row) c → TellsItsLeaf account lost row (Err fault) c
    → TellsFactor account lost label edition (Err fault) c
leaf_fault account label lost edition row Failed c h l = tt
leaf_fault account label lost edition row (Damaged name) c h l = inr (row, h.0, h.1, l)
leaf_fault account label lost edition row NoMemory c h l = tt
leaf_fault account label lost edition row (TreeLost host chip) c h l = tt

-- ---- entries of a map

abbrev order : Bytes → Bytes → Ordering
order = slice_cmp nat_cmp

module _ {X : Type 0} where
  -- what a look-up among entries finds stands at a place
  find_place : (q : Bytes) (es : List (Bytes × X)) (x : X) → find order q es ≡ Some x
      → (i : ℕ) × (i < length es) × (slice_get es i ≡ Some (q, x))
  find_place q [] x e = absurd (not_None x (sym e))
  find_place q (e ∷ es) x found = ⊎_elim
      (λ tie. (zero, omega arith, here tie))
      (λ apart. later (find_place q es x (sym (ap (λ b. cond b (Some e.1) (find order q es)) apart) ∙ found)))
      (either (eq_by_cmp order q e.0))
    where
      here : eq_by_cmp order q e.0 ≡ true → slice_get (e ∷ es) zero ≡ Some (q, x)
      here tie =
          let key : q ≡ e.0 = at_same q e.0 tie in
          let value : e.1 ≡ x = from_some e.1 x (sym (ap (λ b. cond b (Some e.1) (find order q es)) tie) ∙ found) in
          λ i. Some (sym key i, value i)

      later : (i : ℕ) × (i < length es) × (slice_get es i ≡ Some (q, x))
          → (i : ℕ) × (i < length (e ∷ es)) × (slice_get (e ∷ es) i ≡ Some (q, x))
      later h = let within = h.1 in (suc h.0, omega (arith, within), h.2)

  pub get_place : (m : FinMap order X) (q : Bytes) (x : X) → get m q ≡ Some x
      → (i : ℕ) × (i < len m) × (slice_get (entries m) i ≡ Some (q, x))
  get_place m q x e =
      let h = find_place q (entries m) x (sym (get-entries m q) ∙ e) in
      let within = h.1 in
      (h.0, omega (arith, within, len-entries m), h.2)

  -- and what stands at a place is found
  place_get : (m : FinMap order X) (es : List (Bytes × X)) (i : ℕ) (q : Bytes) (x : X)
      → AllByRecursion (λ (e : Bytes × X). get m e.0 ≡ Some e.1) es → slice_get es i ≡ Some (q, x) → get m q ≡ Some x
  place_get m [] i q x all e = absurd (not_None (q, x) (sym e))
  place_get m (e ∷ es) zero q x all at =
      let same : e ≡ (q, x) = from_some e (q, x) at in
      subst (λ (f : Bytes × X). get m f.0 ≡ Some f.1) same all.0
  place_get m (e ∷ es) (suc i) q x all at = place_get m es i q x all.1 at

  found_itself : (o : Option X) → IfSome o (λ x. o ≡ Some x)
  found_itself None = tt
  found_itself (Some x) = refl

  pub get_of_place : (m : FinMap order X) (i : ℕ) (q : Bytes) (x : X) → slice_get (entries m) i ≡ Some (q, x) → get m q ≡ Some x
  get_of_place m i q x at =
      place_get m (entries m) i q x
      (recursion_from_All (λ (e : Bytes × X). get m e.0 ≡ Some e.1) (entries m)
      (Everywhere-entries (λ label x. get m label ≡ Some x) m (λ label. found_itself (get m label)))) at

-- ---- all of them

-- the label's block stands before this place
pub record IsBefore (stash : Stash) (at : ℕ) (label : Bytes) : Type 0 where
  pub place : ℕ
  pub before : place < at
  pub block : Block
  pub stands : slice_get (entries stash.blocks) place ≡ Some (label, block)

-- each record so far is that of a block, and its leaf is there
abbrev pub AreSoundRows : Bool → Contents → Bytes → Stash → Rows → Type 0
AreSoundRows lost c account stash rows = (label : Bytes) (row : FactorRecord) → get rows label ≡ Some row
    → (block : Block) × (get stash.blocks label ≡ Some block) × IsRowOf c.records account label block row × HasItsLeaf lost c row

-- no record so far
pub no_rows : (lost : Bool) (c : Contents) (account : Bytes) (stash : Stash) → AreSoundRows lost c account stash empty
no_rows lost c account stash label row there = absurd (not_None row (sym there ∙ get-empty order label))

-- the label of a block is one of a factor
pub label_of_block : (stash : Stash) (i : ℕ) (label : Bytes) (block : Block) → HasRows stash.next stash.blocks
    → slice_get (entries stash.blocks) i ≡ Some (label, block) → IsTrue (is_factor_label label)
label_of_block stash i label block rows at =
    let h : IsTrue (is_factor_label label) × (block.edition < stash.next) =
    subst (λ (o : Option Block). IfSome o (λ b. IsTrue (is_factor_label label) × (b.edition < stash.next)))
    (get_of_place stash.blocks i label block at) (rows label) in
    h.0

module _ (account : Bytes) (lost : Bool) (stash : Stash) (c : Contents) where
  -- a record that was read is its block's
  is_row_of : (label : Bytes) (block : Block) (edition : ℕ) (row : FactorRecord) → edition ≡ block.edition
      → record_at c.records account label edition ≡ Some row → FitsRow label edition row
      → IsRowOf c.records account label block row
  is_row_of label block edition row same read fits = record {
    label_is = fits.0;
    edition_is = fits.1 ∙ same;
    read = subst (λ (n : ℕ). record_at c.records account label n ≡ Some row) same read;
  }

  -- with one record more
  pub row_added : (rows : Rows) (label : Bytes) (i : ℕ) (block : Block) (edition : ℕ) (row : FactorRecord)
      → slice_get (entries stash.blocks) i ≡ Some (label, block) → edition ≡ block.edition
      → AreSoundRows lost c account stash rows → TellsFactor account lost label edition (Ok row) c
      → AreSoundRows lost c account stash (insert rows label row)
  row_added rows label i block edition row at same sound h q other there = ⊎_elim
      (λ e. subst (λ (l : Bytes). (b : Block) × (get stash.blocks l ≡ Some b) × IsRowOf c.records account l b other × HasItsLeaf lost c other) (sym e)
      (subst (λ (r : FactorRecord). (b : Block) × (get stash.blocks label ≡ Some b) × IsRowOf c.records account label b r × HasItsLeaf lost c r)
      (from_some row other (sym (put_at rows label row) ∙ ap (get (insert rows label row)) (sym e) ∙ there))
      (block, get_of_place stash.blocks i label block at, is_row_of label block edition row same h.0 h.1, h.2)))
      (λ away. sound q other (sym (put_other rows label row q away) ∙ there))
      (same_or_apart q label)

  -- the fault of one
  pub factor_fault : (label : Bytes) (i : ℕ) (block : Block) (edition : ℕ) (fault : StoreFault)
      → slice_get (entries stash.blocks) i ≡ Some (label, block) → edition ≡ block.edition
      → TellsFactor account lost label edition (Err fault) c → TellsRows account lost stash (Err fault) c
  factor_fault label i block edition Failed at same h = tt
  factor_fault label i block edition NoMemory at same h = tt
  factor_fault label i block edition (TreeLost host chip) at same h = tt
  factor_fault label i block edition (Damaged name) at same h = ⊎_elim
      (λ lacks. inl (record {
        label = label;
        block = block;
        found = get_of_place stash.blocks i label block at;
        lacks = λ row is. lacks.1 row (subst (λ (n : ℕ). record_at c.records account label n ≡ Some row) (sym same) is.read)
            (is.label_is, is.edition_is ∙ sym same);
        name_is = lacks.0 ∙ ap (factor_name account label) same;
      }))
      (λ gone. inr (
        gone.3.0,
        record {
          label = label;
          block = block;
          found = get_of_place stash.blocks i label block at;
          row = gone.0;
          is_row = is_row_of label block edition gone.0 same gone.1 gone.2;
          tree = gone.3.1.0;
          names = gone.3.1.1;
          gone = gone.3.1.2;
          name_is = gone.3.1.3;
        },
      ))
      h

  -- each block has its record
  pub rows_whole : (rows : Rows) → AreSoundRows lost c account stash rows
      → ((label : Bytes) → IsBefore stash (len stash.blocks) label → IsSome (get rows label))
      → HasRowsOf lost c account stash rows
  rows_whole rows sound all = record { matches = λ label. at label (get stash.blocks label) (get rows label) refl refl; leaves = leaves }
    where
      at : (label : Bytes) (x : Option Block) (y : Option FactorRecord) → get stash.blocks label ≡ x → get rows label ≡ y
          → Matches (IsRowOf c.records account label) x y
      at label None None p q = tt
      at label None (Some row) p q = let h = sound label row q in absurd (not_None h.0 (sym h.1 ∙ p))
      at label (Some block) None p q =
          let place = get_place stash.blocks label block p in
          let there = some_is (get rows label) (all label (record { place = place.0; before = place.1; block = block; stands = place.2 })) in
          absurd (not_None there.0 (sym there.1 ∙ q))
      at label (Some block) (Some row) p q =
          let h = sound label row q in
          let same : h.0 ≡ block = from_some h.0 block (sym h.1 ∙ p) in
          subst (λ (b : Block). IsRowOf c.records account label b row) same h.2

      leaves : lost ≡ false → (label : Bytes) (tree : ℕ) → RowNames rows label tree → IsSome (get c.leaves tree)
      leaves whole label tree names = (sound label names.row names.there).3 whole tree names.names

-- each record so far is one of its block, whatever the contents are
abbrev pub AreFittingRows : Stash → Rows → Type 0
AreFittingRows stash rows = (label : Bytes) (row : FactorRecord) → get rows label ≡ Some row
    → (block : Block) × (get stash.blocks label ≡ Some block) × FitsBlock label block row

pub no_fitting : (stash : Stash) → AreFittingRows stash empty
no_fitting stash label row there = absurd (not_None row (sym there ∙ get-empty order label))

module _ (stash : Stash) (rows : Rows) (fitting : AreFittingRows stash rows) where
  pub fitting_added : (label : Bytes) (i : ℕ) (block : Block) (edition : ℕ) (row : FactorRecord)
      → slice_get (entries stash.blocks) i ≡ Some (label, block) → edition ≡ block.edition
      → IsFactor row → FitsRow label edition row → AreFittingRows stash (insert rows label row)
  fitting_added label i block edition row at same plain fits q other there = ⊎_elim
      (λ e. subst (λ (l : Bytes). (b : Block) × (get stash.blocks l ≡ Some b) × FitsBlock l b other) (sym e)
      (subst (λ (r : FactorRecord). (b : Block) × (get stash.blocks label ≡ Some b) × FitsBlock label b r)
      (from_some row other (sym (put_at rows label row) ∙ ap (get (insert rows label row)) (sym e) ∙ there)) (
        block,
        get_of_place stash.blocks i label block at,
        record { plain = plain; label_is = fits.0; edition_is = fits.1 ∙ same },
      )))
      (λ away. fitting q other (sym (put_other rows label row q away) ∙ there))
      (same_or_apart q label)

  -- each block has its record
  pub rows_fitting : ((label : Bytes) → IsBefore stash (len stash.blocks) label → IsSome (get rows label)) → AreFitting (Some stash) rows
  rows_fitting all label = at (get stash.blocks label) (get rows label) refl refl
    where
      at : (x : Option Block) (y : Option FactorRecord) → get stash.blocks label ≡ x → get rows label ≡ y → Matches (FitsBlock label) x y
      at None None p q = tt
      at None (Some row) p q = let h = fitting label row q in absurd (not_None h.0 (sym h.1 ∙ p))
      at (Some block) None p q =
          let place = get_place stash.blocks label block p in
          let there = some_is (get rows label) (all label (record { place = place.0; before = place.1; block = block; stands = place.2 })) in
          absurd (not_None there.0 (sym there.1 ∙ q))
      at (Some block) (Some row) p q =
          let h = fitting label row q in
          subst (λ (b : Block). FitsBlock label b row) (from_some h.0 block (sym h.1 ∙ p)) h.2

-- the labels before the next place
pub one_more : (stash : Stash) (rows : Rows) (at : ℕ) (label : Bytes) (block : Block) (row : FactorRecord)
    → slice_get (entries stash.blocks) at ≡ Some (label, block)
    → ((q : Bytes) → IsBefore stash at q → IsSome (get rows q))
    → (q : Bytes) → IsBefore stash (at + 1) q → IsSome (get (insert rows label row) q)
one_more stash rows at label block row stands all q before = ⊎_elim
    (λ e. subst (λ (l : Bytes). IsSome (get (insert rows label row) l)) (sym e)
    (subst IsSome (sym (put_at rows label row)) refl))
    (λ away. subst IsSome (sym (put_other rows label row q away)) (all q (earlier away)))
    (same_or_apart q label)
  where
    key_of : Option (Bytes × Block) → Bytes
    key_of None = []
    key_of (Some e) = e.0

    earlier : q ≢ label → IsBefore stash at q
    earlier away = record {
      place = before.place;
      before = less (cases_lt before.place at);
      block = before.block;
      stands = before.stands;
    }
      where
        less : (before.place < at) ⊎ (at ≤ before.place) → before.place < at
        less (inl h) = h
        less (inr h) =
            let bound = before.before in
            let same : before.place ≡ at = omega (arith, bound, h) in
            absurd (away (ap key_of (sym before.stands ∙ ap (slice_get (entries stash.blocks)) same ∙ stands)))

-- no label stands before the first place
pub none_before : (stash : Stash) (label : Bytes) → IsBefore stash 0 label → ⊥
none_before stash label before = let h = before.before in omega (arith, h)
