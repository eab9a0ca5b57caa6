-- What is loaded fits together once a PIN is set.
use Rattle.std.proofs.Common.{◌≡◌, ◌≢◌, ℕ, ◌+◌, ◌≤◌, true, Option, None, Some, Result, Ok, Err, IsOk, OnOk, refl, sym, ap, ◌∙◌, subst, ⊎_elim, true≢false, arith}
use Rattle.std.specs.Prelude.{IsSome, IsTrue, IfSome, IsSomeAnd, OnErr}
use Rattle.std.specs.FinMap.{get, insert}
use Rattle.account_machine.specs.Outline.{is_pin_kind}
use Rattle.account_machine.specs.declared.factor.Kind.{Kind}
use Rattle.account_machine.specs.declared.factor.Kind.TheVariants.{Password, Pin}
use Rattle.factor_files.specs.Record.{LeafFits}
use Rattle.factor_files.specs.declared.factor.FactorRecord.{FactorRecord}
use Rattle.record_names.specs.Names.{is_factor_label}
use Rattle.share_api.specs.Contents.{Bytes}
use Rattle.share_api.specs.declared.step.Write.{Write}
use Rattle.stash_format.specs.Blocks.{Blocks}
use Rattle.stash_format.specs.Kept.{HasBoth}
use Rattle.stash_format.specs.Sizes.{payload_size, most_payload}
use Rattle.stash_format.specs.declared.block.Block.{Block}
use Rattle.stash_format.specs.declared.contents.Contents.{Contents as Stash}
use Rattle.stored_home.specs.Matching.{Matches}
use Rattle.stored_home.specs.Loaded.{block_in}
use Rattle.stored_home.specs.Coherent.{IsCoherent, IsOwnStash, FitsBlock, KeepsBounds, RowNames, HaveOwnLeaves, pin_rows}
use Rattle.stored_home.specs.declared.fault.StoreFault.{StoreFault}
use Rattle.stored_home.specs.declared.stored.Stored.{Stored}
use Rattle.stored_home.proofs.MapLemmas.{same_or_apart, put_at, put_other, not_None, from_some, matched_right}
use Rattle.home_edits.specs.Passwords.{TakesFactor}
use Rattle.home_edits.specs.Removals.{KeepsPassword}
use Rattle.home_edits.proofs.StashLemmas.{both_with}
use Rattle.pin_edits.specs.Pins.{pin_row, pin_block, IsFreeLeaf, IsOldPin, IsPinStash, HasRoom}
use Rattle.pin_edits.specs.declared.pin_stash.NewPin.{NewPin}
use Rattle.pin_edits.proofs.PinCounts.{count_added, count_replaced}
use Rattle.pin_edits.proofs.PinRemoved.{keeps_password}
use Rattle.pin_edits.proofs.PinStashes.{pin_stash_short}

-- whichever way an edit ended, where what it leaves once it is done fits together
pub coherent_by : {A : Type 0} (account : Bytes) (r : Result A StoreFault) (old new later : Stored)
    → OnOk r (new ≡ later) → OnErr r (new ≡ old)
    → (IsOk r → IsCoherent account later) → IsCoherent account old → IsCoherent account new
coherent_by account (Ok x) old new later ok err made h = subst (IsCoherent account) (sym ok) (made refl)
coherent_by account (Err x) old new later ok err made h = subst (IsCoherent account) (sym err) h

module _ (account : Bytes) (stored : Stored) (was : IsCoherent account stored) (stash : Stash)
    (is : stored.stash ≡ Some stash) (some : IsSome stash.payload) (label : Bytes) (row : FactorRecord) (tree : ℕ)
    (names : row.leaf ≡ Some tree) where
  own : IsOwnStash account stash
  own = subst (λ x. IfSome x (IsOwnStash account)) is was.stash

  rows_by : (q : Bytes) → Matches (FitsBlock q) (get stash.blocks q) (get stored.factors q)
  rows_by q = subst (λ x. Matches (FitsBlock q) (block_in x q) (get stored.factors q)) is (was.rows q)

  bounds_by : KeepsBounds stored
  bounds_by = was.bounds (subst (λ x. IsSomeAnd x (λ (s : Stash). IsSome s.payload)) (sym is) some)

  plain : (q : Bytes) (r : FactorRecord) → get stored.factors q ≡ Some r → LeafFits r.kind r.leaf
  plain q r there = (matched_right (FitsBlock q) (get stash.blocks q) (get stored.factors q) r there
      (rows_by q)).2.plain.leaf

  -- a record that names a leaf is a PIN's
  is_pin : (r : FactorRecord) → LeafFits r.kind r.leaf → IsSome r.leaf → is_pin_kind r.kind ≡ true
  is_pin r fits there = by r.kind r.leaf fits there
    where
      by : (kind : Kind) (leaf : Option ℕ) → LeafFits kind leaf → IsSome leaf
          → is_pin_kind kind ≡ true
      by Password None fits there = absurd (true≢false (sym there))
      by Password (Some t) fits there = absurd fits
      by Pin leaf fits there = refl

  -- the new leaf is named by no other record
  own_leaves : IsFreeLeaf stored.factors tree → HaveOwnLeaves (insert stored.factors label row)
  own_leaves free one two t a b = ⊎_elim
      (λ first. ⊎_elim (λ second. first ∙ sym second)
      (λ away. absurd (free two (at_new t (at_label one t first a) (other two t away b)))) (same_or_apart two label))
      (λ apart. ⊎_elim
      (λ second. absurd (free one (at_new t (at_label two t second b) (other one t apart a))))
      (λ away. bounds_by.own one two t (other one t apart a) (other two t away b)) (same_or_apart two label))
      (same_or_apart one label)
    where
      -- the label's own record names the new leaf
      at_label : (q : Bytes) (t : ℕ) → q ≡ label → RowNames (insert stored.factors label row) q t → t ≡ tree
      at_label q t same n =
          let its : n.row ≡ row = from_some n.row row (sym n.there ∙ ap (get (insert stored.factors label row)) same
          ∙ put_at stored.factors label row) in
          from_some t tree (sym n.names ∙ ap (λ (r : FactorRecord). r.leaf) its ∙ names)

      -- another label's is as it was
      other : (q : Bytes) (t : ℕ) → q ≢ label → RowNames (insert stored.factors label row) q t
          → RowNames stored.factors q t
      other q t away n = record {
        row = n.row;
        there = sym (put_other stored.factors label row q away) ∙ n.there;
        names = n.names;
      }

      at_new : {q : Bytes} (t : ℕ) → t ≡ tree → RowNames stored.factors q t → RowNames stored.factors q tree
      at_new {q} t same n = subst (RowNames stored.factors q) same n

  -- another factor is a password
  password : (had : Option (Write × Write)) → IsOldPin account stored.factors label had
      → KeepsPassword label stored.factors
  password None absent = record {
    other = bounds_by.label;
    row = bounds_by.row;
    apart = λ same. not_None bounds_by.row (sym bounds_by.there ∙ ap (get stored.factors) same ∙ absent);
    there = bounds_by.there;
    is_password = bounds_by.is_password;
  }
  password (Some gone) o =
      keeps_password account stored was stash is some label o.0 o.2 (subst IsSome (sym o.3) refl)

  -- there are at most 8 PINs
  few : (had : Option (Write × Write)) → IsOldPin account stored.factors label had → HasRoom stored.factors had
      → pin_rows (insert stored.factors label row) ≤ 8
  few None absent room =
      let step : pin_rows (insert stored.factors label row) ≤ pin_rows stored.factors + 1 =
      count_added (λ (r : FactorRecord). is_pin_kind r.kind) stored.factors label row in
      omega (arith, step, room)
  few (Some gone) o room =
      let step : pin_rows (insert stored.factors label row) ≤ pin_rows stored.factors =
      count_replaced (λ (r : FactorRecord). is_pin_kind r.kind) stored.factors label o.0 row o.2
      (is_pin o.0 (plain label o.0 o.2) (subst IsSome (sym o.3) refl)) in
      let most = bounds_by.pins in
      omega (arith, step, most)

  module _ (later : Stash) (block : Block) (same_account : later.account ≡ stash.account)
      (blocks_are : later.blocks ≡ insert stash.blocks label block)
      (whole : HasBoth later) (short : payload_size later ≤ most_payload) (fits : FitsBlock label block row) where
    abbrev set : Stored
    set = record stored { stash = Some later; factors = insert stored.factors label row }

    rows_set : (q : Bytes) → Matches (FitsBlock q) (get later.blocks q) (get (insert stored.factors label row) q)
    rows_set q = subst (λ (m : Blocks). Matches (FitsBlock q) (get m q) (get (insert stored.factors label row) q))
        (sym blocks_are)
        (⊎_elim
        (λ e. subst (λ (n : Bytes). Matches (FitsBlock n) (get (insert stash.blocks label block) n)
        (get (insert stored.factors label row) n)) (sym e)
        (subst (λ x. Matches (FitsBlock label) x (get (insert stored.factors label row) label))
        (sym (put_at stash.blocks label block))
        (subst (λ y. Matches (FitsBlock label) (Some block) y) (sym (put_at stored.factors label row)) fits)))
        (λ away. subst (λ x. Matches (FitsBlock q) x (get (insert stored.factors label row) q))
        (sym (put_other stash.blocks label block q away))
        (subst (λ y. Matches (FitsBlock q) (get stash.blocks q) y) (sym (put_other stored.factors label row q away))
        (rows_by q)))
        (same_or_apart q label))

    -- a PIN is set, at a leaf that no loaded record names
    pub pin_coherent : (had : Option (Write × Write)) → IsOldPin account stored.factors label had
        → HasRoom stored.factors had → IsFreeLeaf stored.factors tree → IsCoherent account set
    pin_coherent had o room free = record {
      stash = record { account_is = same_account ∙ own.account_is; short = short };
      both = whole;
      rows = rows_set;
      bounds = λ there.
          let left = password had o in
          record {
            label = left.other;
            row = left.row;
            there = put_other stored.factors label row left.other left.apart ∙ left.there;
            is_password = left.is_password;
            pins = few had o room;
            own = own_leaves free;
            files = bounds_by.files;
          };
      files = was.files;
    }

-- what an edit that sets a PIN leaves fits together
pub set_coherent : (account : Bytes) (stored : Stored) (stash : Stash) (label : Bytes) (pin : NewPin) (main iv : Bytes)
    (later : Stash) (tree : ℕ) (had : Option (Write × Write))
    → IsTrue (is_factor_label label) → stored.stash ≡ Some stash → TakesFactor label stash
    → IsPinStash stash label pin main iv later → 1 ≤ pin.derived.cost → pin.derived.cost ≤ 16
    → IsOldPin account stored.factors label had → HasRoom stored.factors had → IsFreeLeaf stored.factors tree
    → IsCoherent account stored
    → IsCoherent account (record stored {
      stash = Some later;
      factors = insert stored.factors label (pin_row label stash.next pin.derived tree);
    })
set_coherent account stored stash label pin main iv later tree had labelled is takes made least most o room free was =
    pin_coherent account stored was stash is takes.there label (pin_row label stash.next pin.derived tree) tree refl
    later (pin_block stash label pin main iv) (ap (λ (s : Stash). s.account) made.made_is)
    (ap (λ (s : Stash). s.blocks) made.made_is)
    (subst HasBoth (sym made.made_is)
    (both_with stash (Some made.payload) label (pin_block stash label pin main iv) refl))
    (pin_stash_short stash label pin main iv later made)
    (record {
      plain = record { label = labelled; edition = takes.from; cost = least; most = most; leaf = tt };
      label_is = refl;
      edition_is = refl;
    }) had o room free
