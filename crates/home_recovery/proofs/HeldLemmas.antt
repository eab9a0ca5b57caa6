-- What is held isn't damaged.
use Rattle.std.proofs.Common.{◌≡◌, ◌≢◌, ℕ, ◌<◌, ◌≤◌, Option, None, Some, Bool, true, false, map, refl, sym, ap, ◌∙◌, subst, inl, inr, ⊎_elim, true≢false, arith}
use Rattle.std.specs.Prelude.{IsSome, IfSome, IsSomeAnd, option_map, option_and_then, count_by}
use Rattle.std.specs.Ordering.{nat_cmp}
use Rattle.std.specs.Cmp.Lexicographic.{slice_cmp, nat_list_cmp_total}
use Rattle.std.specs.FinMap.{FinMap, get, entries, values, len, empty, get-empty, same_map, slice_cmp-IsAntisymmetric, nat_cmp-IsAntisymmetric}
use Rattle.name_map.specs.Mapped.{map_values}
use Rattle.name_map.proofs.MappedLemmas.{entries-map_values, get-map_values, len-map_values}
use Rattle.account_machine.specs.declared.factor.Factor.{Factor}
use Rattle.account_machine.specs.declared.factor.Kind.{Kind}
use Rattle.account_machine.specs.declared.factor.Kind.TheVariants.{Password, Pin}
use Rattle.account_machine.specs.declared.factor.Mark.{Mark}
use Rattle.account_machine.specs.declared.user.Durable.{Durable}
use Rattle.account_machine.specs.Outline.{is_pin_kind, pins}
use Rattle.account_machine.specs.User.{mark_of, home_of}
use Rattle.record_names.specs.Names.{file_name}
use Rattle.sealed_text.specs.declared.sealed.Sealed.{Sealed}
use Rattle.secret_stash.specs.Keys.{payload_extra}
use Rattle.share_api.specs.Contents.{Bytes, Contents, Leaves, settled, leaves_left}
use Rattle.stash_format.specs.declared.block.Block.{Block}
use Rattle.stash_format.specs.declared.contents.Contents.{Contents as Stash}
use Rattle.stash_format.specs.Record.{stash_at}
use Rattle.stash_format.specs.Resets.{Resets}
use Rattle.stash_format.specs.Sizes.{text_size}
use Rattle.factor_files.specs.declared.factor.FactorRecord.{FactorRecord}
use Rattle.stored_home.specs.Coherent.{pin_rows, RowNames}
use Rattle.stored_home.specs.Holds.{Keys, HasStash, HoldsStash, HoldsBy, HoldsUnder, HoldsPayload, HoldsFiles, IsBlockOf, IsFileOf, NamesLeaf, OpensBy, record_at}
use Rattle.stored_home.specs.Loaded.{IsRowOf, block_in}
use Rattle.stored_home.specs.Matching.{Matches}
use Rattle.stored_home.specs.declared.stored.Stored.{Stored}
use Rattle.stored_home.proofs.MapLemmas.{from_some, not_None, some_not_None, matched_right}
use Rattle.stored_home.proofs.FrameLemmas.{same_stash}
use Rattle.home_recovery.specs.Bounds.{BreaksBounds}
use Rattle.home_recovery.specs.Damage.{IsBadStash, HasBadStash, LacksRow, LacksLeaf, IsWhole, IsUnsound, IsDamaged}
use Rattle.home_recovery.proofs.BoundLemmas.{count_by-map}
use Rattle.home_recovery.proofs.RemovalLemmas.{matched_left}
use Rattle.home_recovery.proofs.StashLemmas.{payload_short, opened_length}

-- ---- maps of what is loaded beside maps of what is held

abbrev mark_in : FactorRecord → Mark
mark_in row = record { kind = row.kind; edition = row.edition }

-- how many of what is marked are PINs
module _ {V : Type 0} (mark : V → Mark) (m : FinMap (slice_cmp nat_cmp) V) where
  pins_of : pins (map_values mark m) ≡ count_by (λ (v : V). is_pin_kind (mark v).kind) (values m)
  pins_of =
      ap (λ (rows : Rattle.std.specs.Prelude.List (Bytes × Mark)). count_by (λ (x : Mark). is_pin_kind x.kind) (map (λ (e : Bytes × Mark). e.1) rows))
      (entries-map_values mark m)
      ∙ count_by-map (λ (x : Mark). is_pin_kind x.kind) (λ (e : Bytes × Mark). e.1) (map (λ (e : Bytes × V). (e.0, mark e.1)) (entries m))
      ∙ count_by-map (λ (e : Bytes × Mark). is_pin_kind e.1.kind) (λ (e : Bytes × V). (e.0, mark e.1)) (entries m)
      ∙ sym (count_by-map (λ (v : V). is_pin_kind (mark v).kind) (λ (e : Bytes × V). e.1) (entries m))

abbrev there : {X : Type 0} → X → Unit {0}
there x = tt

module _ {A B : Type 0} where
  both_there : (x : Option A) (y : Option B) → (IsSome x → IsSome y) → (IsSome y → IsSome x) → option_map there x ≡ option_map there y
  both_there None None to from = refl
  both_there None (Some y) to from = absurd (true≢false (sym (from refl)))
  both_there (Some x) None to from = absurd (true≢false (sym (to refl)))
  both_there (Some x) (Some y) to from = refl

  -- maps in which something stands at the same names are of one size
  same_size : (m : FinMap (slice_cmp nat_cmp) A) (n : FinMap (slice_cmp nat_cmp) B)
      → ((q : Bytes) → IsSome (get m q) → IsSome (get n q)) → ((q : Bytes) → IsSome (get n q) → IsSome (get m q)) → len m ≡ len n
  same_size m n to from =
      let one : map_values there m ≡ map_values there n =
      same_map nat_list_cmp_total (slice_cmp-IsAntisymmetric nat_cmp-IsAntisymmetric) (map_values there m) (map_values there n)
      (λ q. get-map_values there m q ∙ both_there (get m q) (get n q) (to q) (from q) ∙ sym (get-map_values there n q)) in
      sym (len-map_values there m) ∙ ap len one ∙ len-map_values there n

module _ {A B : Type 0} (R : A → B → Type 0) where
  there_right : (x : Option A) (y : Option B) → Matches R x y → IsSome x → IsSome y
  there_right None None h some = some
  there_right None (Some y) h some = absurd h
  there_right (Some x) None h some = absurd h
  there_right (Some x) (Some y) h some = refl

  there_left : (x : Option A) (y : Option B) → Matches R x y → IsSome y → IsSome x
  there_left None None h some = some
  there_left None (Some y) h some = absurd h
  there_left (Some x) None h some = absurd h
  there_left (Some x) (Some y) h some = refl

-- ---- leaves

-- the leaf that a PIN's record names is there
opened_leaf : (lost : Bool) (kind : Kind) (leaves : Leaves) (resets : Resets) (account main label : Bytes) (block : Block) (row : FactorRecord)
    (factor : Factor) (tree : ℕ) → lost ≡ false → OpensBy lost kind leaves resets account main label block row factor
    → row.leaf ≡ Some tree → IsSome (get leaves tree)
opened_leaf lost Password leaves resets account main label block row factor tree whole opens names =
    absurd (not_None tree (sym names ∙ opens.none))
opened_leaf true Pin leaves resets account main label block row factor tree whole opens names = absurd (true≢false whole)
opened_leaf false Pin leaves resets account main label block row factor tree whole opens names =
    let same : opens.tree ≡ tree = from_some opens.tree tree (sym opens.names ∙ names) in
    subst IsSome (sym (ap (get leaves) (sym same) ∙ opens.found)) refl

too_long : (account : Bytes) (keys : Keys) (resets : Resets) (payload : Option Sealed)
    → (IsSome payload → HoldsPayload account keys resets payload) → 945 < text_size payload → ⊥
too_long account keys resets None held long = omega (arith, long)
too_long account keys resets (Some sealed) held long =
    let p = held refl in
    let same = opened_length keys.main (payload_extra account) sealed p.text p.opens in
    let short = payload_short p.text (record { vault = keys.vault; resets = resets }) p.read in
    omega (arith, same, short, long)

module _ (lost : Bool) (c : Contents) (account : Bytes) (durable : Durable) (keys : Keys) (clear : c.doubt ≡ None)
    (h : HoldsUnder lost c account durable keys) where
  -- what stands beside the stash that is there
  held_by : (stash : Option Stash) → HasStash c.records account stash → HoldsStash lost (settled c) account durable keys stash
  held_by stash there =
      subst (λ x. HoldsStash lost (settled c) account durable keys x) (same_stash c.records account h.stash stash h.there there) h.holds

  not_bad : HasBadStash c.records account → ⊥
  not_bad bad = by h.stash h.there h.holds
    where
      by : (x : Option Stash) → HasStash c.records account x → HoldsStash lost (settled c) account durable keys x → ⊥
      by None there holds = not_None bad.bytes (sym bad.there ∙ there)
      by (Some stash) there holds =
          let read : stash_at bad.bytes ≡ Some stash = ap (option_and_then stash_at) (sym bad.there) ∙ there in
          ⊎_elim (λ apart. apart holds.account_is) (λ long. too_long account keys holds.resets stash.payload holds.payload long)
          (subst (IsBadStash account) read bad.bad)

  module _ (stash : Stash) (holds : HoldsBy lost (settled c) account durable keys stash) where
    abbrev IsBlock : Bytes → Block → Factor → Type 0
    IsBlock label block factor = IsBlockOf lost c.records (settled c).leaves account keys.main holds.resets label block factor

    -- a factor's block has its record
    row_of : (label : Bytes) (block : Block) (factor : Factor) (b : IsBlock label block factor) → IsRowOf c.records account label block b.row
    row_of label block factor b = record {
      label_is = b.label_is;
      edition_is = b.edition_is ∙ sym b.edition;
      read = subst (λ (n : ℕ). record_at c.records account label n ≡ Some b.row) (sym b.edition) b.read;
    }

    block_of : (label : Bytes) (block : Block) → get stash.blocks label ≡ Some block
        → (factor : Factor) × (get durable.factors label ≡ Some factor) × IsBlock label block factor
    block_of label block found = matched_left (IsBlock label) (get stash.blocks label) (get durable.factors label) block found (holds.blocks label)

    has_row : (name : Bytes) → LacksRow c.records account stash name → ⊥
    has_row name lacks =
        let b = block_of lacks.label lacks.block lacks.found in
        lacks.lacks b.2.row (row_of lacks.label lacks.block b.0 b.2)

    has_leaf : (name : Bytes) → lost ≡ false → LacksLeaf c account stash name → ⊥
    has_leaf name whole lacks =
        let b = block_of lacks.label lacks.block lacks.found in
        let row : b.2.row ≡ lacks.row = from_some b.2.row lacks.row
        (sym b.2.read ∙ ap (record_at c.records account lacks.label) (sym b.2.edition) ∙ lacks.is_row.read) in
        let there = opened_leaf lost b.0.kind (settled c).leaves holds.resets account keys.main lacks.label lacks.block b.2.row b.0 lacks.tree whole
        b.2.opens (ap (λ (r : FactorRecord). r.leaf) row ∙ lacks.names) in
        some_not_None (get (settled c).leaves lacks.tree) there
        (ap (λ (leaves : Leaves). get leaves lacks.tree) (ap (λ (d : Option ℕ). leaves_left d c.leaves) clear) ∙ lacks.gone)

    module _ (loaded : Stored) (whole : IsWhole c account loaded) (is : loaded.stash ≡ Some stash) (some : IsSome stash.payload) where
      rows_at : (label : Bytes) → Matches (IsRowOf c.records account label) (get stash.blocks label) (get loaded.factors label)
      rows_at label = subst (λ o. Matches (IsRowOf c.records account label) (block_in o label) (get loaded.factors label)) is (whole.is_loaded.rows label)

      same_mark : (label : Bytes) (x : Option Block) (row : Option FactorRecord) (factor : Option Factor)
          → Matches (IsRowOf c.records account label) x row → Matches (IsBlock label) x factor → option_map mark_in row ≡ option_map mark_of factor
      same_mark label None None None k b = refl
      same_mark label None None (Some f) k b = absurd b
      same_mark label None (Some r) f k b = absurd k
      same_mark label (Some x) None f k b = absurd k
      same_mark label (Some x) (Some r) None k b = absurd b
      same_mark label (Some x) (Some r) (Some f) k b =
          let row : b.row ≡ r = from_some b.row r (sym b.read ∙ ap (record_at c.records account label) (sym b.edition) ∙ k.read) in
          let kind : r.kind ≡ f.kind = ap (λ (y : FactorRecord). y.kind) (sym row) ∙ b.kind_is in
          let edition : r.edition ≡ f.edition = k.edition_is ∙ b.edition in
          λ i. Some (record { kind = kind i; edition = edition i })

      same_marks : map_values mark_in loaded.factors ≡ map_values mark_of durable.factors
      same_marks = same_map nat_list_cmp_total (slice_cmp-IsAntisymmetric nat_cmp-IsAntisymmetric) (map_values mark_in loaded.factors)
          (map_values mark_of durable.factors)
          (λ label. get-map_values mark_in loaded.factors label
          ∙ same_mark label (get stash.blocks label) (get loaded.factors label) (get durable.factors label) (rows_at label) (holds.blocks label)
          ∙ sym (get-map_values mark_of durable.factors label))

      few_pins : pin_rows loaded.factors ≤ 8
      few_pins =
          let same : pin_rows loaded.factors ≡ pins (home_of durable).marks = sym (pins_of mark_in loaded.factors) ∙ ap pins same_marks in
          let few = (holds.bounds some).pins in
          omega (arith, same, few)

      -- a factor's record that is loaded names a leaf of the factor's
      names_leaf : (label : Bytes) (tree : ℕ) → RowNames loaded.factors label tree → NamesLeaf c.records account durable.factors label tree
      names_leaf label tree n =
          let x = matched_right (IsRowOf c.records account label) (get stash.blocks label) (get loaded.factors label) n.row n.there (rows_at label) in
          let b = block_of label x.0 x.1 in
          record {
            factor = b.0;
            row = n.row;
            there = b.1;
            read = subst (λ (k : ℕ). record_at c.records account label k ≡ Some n.row) b.2.edition x.2.read;
            names = n.names;
          }

      -- the record of a password is one
      password_there : ((label : Bytes) (row : FactorRecord) → get loaded.factors label ≡ Some row → row.kind ≢ Password) → ⊥
      password_there none =
          let bounds = holds.bounds some in
          let x = matched_right (IsBlock bounds.label) (get stash.blocks bounds.label) (get durable.factors bounds.label) bounds.factor bounds.there
          (holds.blocks bounds.label) in
          let r = matched_left (IsRowOf c.records account bounds.label) (get stash.blocks bounds.label) (get loaded.factors bounds.label) x.0 x.1 (rows_at bounds.label) in
          let row : x.2.row ≡ r.0 = from_some x.2.row r.0
          (sym x.2.read ∙ ap (record_at c.records account bounds.label) (sym x.2.edition) ∙ r.2.read) in
          none bounds.label r.0 r.1 (ap (λ (y : FactorRecord). y.kind) (sym row) ∙ x.2.kind_is ∙ bounds.is_password)

      few_files : len loaded.files ≤ 256
      few_files =
          let files : HoldsFiles c.records keys.vault account durable.files = holds.files some in
          let same = same_size loaded.files durable.files
          (λ q there. there_right (IsFileOf keys.vault account q) (get c.records (file_name account q)) (get durable.files q)
          (files.bytes q (whole.named q there)) ((whole.is_loaded.files q (whole.named q there)).0 there))
          (λ q there. (whole.is_loaded.files q (files.named q there)).1
          (there_left (IsFileOf keys.vault account q) (get c.records (file_name account q)) (get durable.files q) (files.bytes q (files.named q there)) there)) in
          let few = (holds.bounds some).files in
          omega (arith, same, few)

      pub keeps : BreaksBounds loaded → ⊥
      keeps (inl none) = password_there none
      keeps (inr (inl many)) = let few = few_pins in omega (arith, few, many)
      keeps (inr (inr (inl shared))) =
          shared.apart (holds.apart shared.one shared.two shared.tree (names_leaf shared.one shared.tree shared.first) (names_leaf shared.two shared.tree shared.second))
      keeps (inr (inr (inr many))) = let few = few_files in omega (arith, few, many)

  not_unsound : IsUnsound c account → ⊥
  not_unsound u = by u.loaded.stash refl u.factors
    where
      by : (x : Option Stash) → u.loaded.stash ≡ x → IsSomeAnd x (λ stash. IsSome stash.payload) → ⊥
      by None is some = absurd some
      by (Some stash) is some =
          keeps stash (held_by (Some stash) (subst (HasStash c.records account) is u.whole.is_loaded.stash)) u.loaded u.whole is some u.breaks

  -- what is held isn't damaged
  pub held_undamaged : (name : Bytes) → IsDamaged lost c account name → ⊥
  held_undamaged name (inl bad) = not_bad bad.0
  held_undamaged name (inr (inl lacks)) = ⊎_elim
      (λ row. has_row lacks.0 (held_by (Some lacks.0) lacks.1) name row)
      (λ leaf. has_leaf lacks.0 (held_by (Some lacks.0) lacks.1) name leaf.0 leaf.1)
      lacks.2
  held_undamaged name (inr (inr unsound)) = not_unsound unsound.0
