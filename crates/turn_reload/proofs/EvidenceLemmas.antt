-- What is read tells which durable part is held.
use Rattle.std.proofs.Common.{◌≡◌, ◌≢◌, ℕ, Option, None, Some, Result, Ok, Bool, true, false, refl, sym, ap, ◌∙◌, subst, inl, inr, ⊎_elim, ◌⊎◌, is_some, true≢false}
use Rattle.std.proofs.lemmas.Bool.Decides.{Decides-eqb, Decides-and, Decides-like}
use Rattle.std.specs.Bool.{Decides}
use Rattle.std.specs.Prelude.{◌==◌, ◌&&◌, IsSome, IfSome, IsSomeAnd, IsTrue, option_map, option_and_then}
use Rattle.std.specs.Ordering.{nat_cmp}
use Rattle.std.specs.Cmp.Lexicographic.{slice_cmp}
use Rattle.std.specs.FinMap.{get, insert, get-empty}
use Rattle.account_machine.specs.declared.factor.Factor.{Factor}
use Rattle.account_machine.specs.declared.factor.Kind.{Kind}
use Rattle.account_machine.specs.declared.factor.Kind.TheVariants.{Password, Pin}
use Rattle.account_machine.specs.declared.user.Durable.{Durable}
use Rattle.record_names.specs.Names.{is_account_name, AreParts, File, factor_name, file_name}
use Rattle.share_api.specs.Contents.{Bytes, Contents, Leaves, settled, leaves_left}
use Rattle.share_api.specs.Steps.{view_of as shown}
use Rattle.share_api.specs.declared.leaf.LeafView.{LeafView}
use Rattle.stash_format.specs.declared.block.Block.{Block}
use Rattle.stash_format.specs.declared.contents.Contents.{Contents as Stash}
use Rattle.stash_format.specs.Resets.{Resets}
use Rattle.sealed_text.specs.declared.sealed.Sealed.{Sealed}
use Rattle.vault_crypt.specs.declared.fault.VaultFault.{VaultFault}
use Rattle.vault_crypt.specs.VaultFile.{opened_file}
use Rattle.factor_files.specs.declared.factor.FactorRecord.{FactorRecord}
use Rattle.factor_files.specs.Record.{factor_at}
use Rattle.stored_home.specs.Holds.{Keys, HoldsStash, HoldsUnder, HoldsFiles, IsBlockOf, IsFileOf, OpensBy, record_at}
use Rattle.stored_home.specs.Loaded.{IsKept, IsNamed, HasFactors}
use Rattle.stored_home.specs.declared.stored.Stored.{Stored}
use Rattle.stored_home.proofs.FrameLemmas.{same_stash}
use Rattle.stored_home.proofs.MapLemmas.{from_some, not_None, matched_right, put_at, put_same}
use Rattle.stored_home.proofs.NameLemmas.{file_not_stash}
use Rattle.home_recovery.proofs.FewerLemmas.{HasFewer}
use Rattle.home_recovery.proofs.OwnNames.{file_not_row}
use Rattle.home_recovery.proofs.RemovalLemmas.{matched_left}
use Rattle.user_state.specs.Fits.{tally_in, view_of, HasKeys, TellsFile, TellsBy}
use Rattle.user_state.specs.declared.state.Doubt.{Doubt}
use Rattle.user_state.specs.declared.state.Doubt.TheVariants.{Editions, File as OfFile, Leaf as OfLeaf}
use Rattle.user_state.specs.declared.state.UserState.{UserState}
use Rattle.turn_reload.specs.Evidence.{CanTell, Tells, TellsEditions}
use Rattle.turn_reload.proofs.EditionLemmas.{tally_held}

ok_tells : (a b : Bytes) → ◌≡◌ {A = Result Bytes VaultFault} (Ok a) (Ok b) → a ≡ b
ok_tells a b e = cc

-- the payload is there or isn't
some_or_none : (o : Option Sealed) → IsSome o ⊎ (o ≡ None)
some_or_none None = inr refl
some_or_none (Some x) = inl refl

-- what is there of an option, with what is known of it
some_and : {X : Type 0} (P : X → Type 0) (o : Option X) → IsSomeAnd o P → (x : X) × (o ≡ Some x) × P x
some_and P None h = absurd h
some_and P (Some x) h = (x, refl, h)

-- the leaf of a PIN's block
pin_shows : (kind : Kind) (lost : Bool) (leaves : Leaves) (resets : Resets) (account main label : Bytes) (block : Block) (row : FactorRecord)
    (factor : Factor) (tree : ℕ) → kind ≡ Pin → lost ≡ false → OpensBy lost kind leaves resets account main label block row factor
    → row.leaf ≡ Some tree → option_map shown (get leaves tree) ≡ Some (view_of factor)
pin_shows Password lost leaves resets account main label block row factor tree is whole opens names = absurd (let e : Password ≡ Pin = is in cc e)
pin_shows Pin true leaves resets account main label block row factor tree is whole opens names = absurd (true≢false whole)
pin_shows Pin false leaves resets account main label block row factor tree is whole opens names =
    let same : opens.tree ≡ tree = from_some opens.tree tree (sym opens.names ∙ names) in
    let own = opens.own in
    let wrong = own.wrong in
    let last = own.last in
    let schedule = own.schedule in
    let view : shown opens.leaf ≡ view_of factor = λ i. record { wrong = wrong i; last = last i; schedule = schedule i } in
    ap (option_map shown) (ap (get leaves) (sym same) ∙ opens.found) ∙ ap (λ (v : LeafView). Some v) view

module _ (lost : Bool) (before : UserState) (plain : IsTrue (is_account_name before.account)) (old c : Contents) (clear : c.doubt ≡ None) (fewer : HasFewer old c) (durable other : Durable) (keys : Keys) (has_keys : HasKeys before keys) (stored : Stored)
    (kept : IsKept lost c before.account stored) where
  abbrev account : Bytes
  account = before.account

  Held : Durable → Type 0
  Held held = HoldsUnder lost c account held keys

  -- what is held stands beside the stash that was loaded
  stash_holds : (held : Durable) → Held held → HoldsStash lost (settled c) account held keys stored.stash
  unfolding Held
  stash_holds held h = subst (HoldsStash lost (settled c) account held keys)
      (same_stash c.records account h.stash stored.stash h.there kept.is_loaded.stash) h.holds

  -- vault files are held where there are any
  files_by : (held : Durable) (name bytes : Bytes) (x : Option Stash) → HoldsStash lost (settled c) account held keys x
      → get held.files name ≡ Some bytes → HoldsFiles c.records keys.vault account held.files
  files_by held name bytes None holds there =
      absurd (not_None bytes (sym there ∙ ap (λ (d : Durable). get d.files name) holds ∙ get-empty (slice_cmp nat_cmp) name))
  files_by held name bytes (Some stash) holds there = ⊎_elim (λ some. holds.files some)
      (λ none. absurd (not_None bytes (sym there ∙ ap (λ m. get m name) (holds.bare none).1 ∙ get-empty (slice_cmp nat_cmp) name)))
      (some_or_none stash.payload)

  -- and where a file's record is there
  files_there : (held : Durable) (x : Option Stash) → HoldsStash lost (settled c) account held keys x
      → IsSomeAnd x (λ stash. IsSome stash.payload) → HoldsFiles c.records keys.vault account held.files
  files_there held None holds some = absurd some
  files_there held (Some stash) holds some = holds.files some

  has_factors : (name bytes : Bytes) → AreParts (File account name) → get c.records (file_name account name) ≡ Some bytes → HasFactors stored
  has_factors name bytes parts there =
      by (kept.tidy.records (file_name account name) (inr (inr (name, refl))) (subst IsSome (sym there) refl))
    where
      by : IsNamed account stored (file_name account name) → HasFactors stored
      by (inl e) = absurd (file_not_stash account plain name parts e)
      by (inr (inl row)) = absurd (file_not_row account plain name row.0 row.1.edition row.3)
      by (inr (inr file)) = file.0

  -- the vault key of the mount is that of the home
  vault_is : (vault : Bytes) → before.vault ≡ Some vault → vault ≡ keys.vault
  vault_is vault is = subst (λ o. IfSome o (λ v. v ≡ keys.vault)) is has_keys.mount

  module _ (name bytes vault : Bytes) (is_vault : vault ≡ keys.vault) (tells : TellsFile vault account name bytes old durable other) where
    -- the second durable part is there, but not by the record that was put
    file_first : Held other → get c.records (file_name account name) ≢ Some bytes → durable ≡ other
    unfolding Held
    file_first h apart = ⊎_elim (λ same. same) (λ only. absurd (apart (by only))) tells.apart
      where
        other_file : get other.files name ≡ Some tells.plain
        other_file = ap (λ (d : Durable). get d.files name) tells.other_is ∙ put_at durable.files name tells.plain

        by : IfSome (get old.records (file_name account name)) (λ found. IsFileOf vault account name found tells.plain → found ≡ bytes)
            → get c.records (file_name account name) ≡ Some bytes
        by only =
            let files = files_by other name tells.plain stored.stash (stash_holds other h) other_file in
            let found = matched_right (IsFileOf keys.vault account name) (get c.records (file_name account name)) (get other.files name) tells.plain other_file
            (files.bytes name tells.named) in
            let was = fewer (file_name account name) found.0 found.1 in
            let same = subst (λ o. IfSome o (λ f. IsFileOf vault account name f tells.plain → f ≡ bytes)) was only
            (subst (λ (v : Bytes). IsFileOf v account name found.0 tells.plain) (sym is_vault) found.2) in
            found.1 ∙ ap (λ (b : Bytes). Some b) same

    -- the record that was put is there, but by the first
    file_second : Held durable → get c.records (file_name account name) ≡ Some bytes → durable ≡ other
    unfolding Held
    file_second h there =
        let files = files_there durable stored.stash (stash_holds durable h) (has_factors name bytes tells.named there) in
        let found = matched_left (IsFileOf keys.vault account name) (get c.records (file_name account name)) (get durable.files name) bytes there
        (files.bytes name tells.named) in
        let opens : opened_file keys.vault account name bytes ≡ Ok tells.plain = subst (λ (v : Bytes). IsFileOf v account name bytes tells.plain) is_vault tells.opens in
        let same : found.0 ≡ tells.plain = ok_tells found.0 tells.plain (sym found.2 ∙ opens) in
        let stands : insert durable.files name tells.plain ≡ durable.files =
        put_same durable.files name tells.plain (found.1 ∙ ap (λ (b : Bytes). Some b) same) in
        sym (tells.other_is ∙ (λ i. record durable { files = stands i }))

  -- what the leaf of a PIN that is held shows
  leaf_shows : (held : Durable) (label : Bytes) (factor : Factor) (edition tree : ℕ) → lost ≡ false → Held held
      → get held.factors label ≡ Some factor → factor.kind ≡ Pin → factor.edition ≡ edition
      → IfSome (record_at old.records account label edition) (λ row. row.leaf ≡ Some tree)
      → option_map shown (get c.leaves tree) ≡ Some (view_of factor)
  leaf_shows held label factor edition tree whole h there is_pin same_edition names = by stored.stash (stash_holds held h)
    where
      settled_leaves : (settled c).leaves ≡ c.leaves
      settled_leaves = ap (λ (d : Option ℕ). leaves_left d c.leaves) clear

      row_was : (o : Option Bytes) (row : FactorRecord) (was : Option Bytes) → option_and_then factor_at o ≡ Some row
          → ((bytes : Bytes) → o ≡ Some bytes → was ≡ Some bytes) → option_and_then factor_at was ≡ Some row
      row_was None row was read same = absurd (not_None row (sym read))
      row_was (Some bytes) row was read same = ap (option_and_then factor_at) (same bytes refl) ∙ read

      by : (x : Option Stash) → HoldsStash lost (settled c) account held keys x
          → option_map shown (get c.leaves tree) ≡ Some (view_of factor)
      by None holds =
          absurd (not_None factor (sym there ∙ ap (λ (d : Durable). get d.factors label) holds ∙ get-empty (slice_cmp nat_cmp) label))
      by (Some stash) holds =
          let b = matched_right (IsBlockOf lost c.records (settled c).leaves account keys.main holds.resets label) (get stash.blocks label)
          (get held.factors label) factor there (holds.blocks label) in
          let was : record_at old.records account label factor.edition ≡ Some b.2.row =
          row_was (get c.records (factor_name account label factor.edition)) b.2.row (get old.records (factor_name account label factor.edition)) b.2.read
          (λ bytes is. fewer (factor_name account label factor.edition) bytes is) in
          let leaf : b.2.row.leaf ≡ Some tree =
          subst (λ o. IfSome o (λ (row : FactorRecord). row.leaf ≡ Some tree)) (ap (record_at old.records account label) (sym same_edition) ∙ was) names in
          ap (λ (leaves : Leaves). option_map shown (get leaves tree)) (sym settled_leaves)
          ∙ pin_shows factor.kind lost (settled c).leaves holds.resets account keys.main label b.0 b.2.row factor tree is_pin whole b.2.opens leaf

  module _ (roots : Option (Bytes × Bytes)) (lost_is : lost ≡ is_some roots) where
    whole_by : roots ≡ None → lost ≡ false
    whole_by none = lost_is ∙ ap is_some none

    -- where the second durable part is held and what is read is what the first one shows, the two are one
    pub first_of : (doubt : Doubt) → CanTell doubt account roots → TellsBy doubt before old durable other → HoldsUnder lost c account other keys
        → Tells doubt account before.stored.stash stored (Ok true) c → durable ≡ other
    unfolding Held
    first_of Editions can tells h says = ⊎_elim (λ same. same)
        (λ apart. absurd (apart (sym tells.0 ∙ says ∙ tally_held lost c account other keys stored.stash kept.is_loaded.stash h)))
        tells.1
    first_of (OfFile name bytes) can tells h says =
        let v = some_and (λ (vault : Bytes). TellsFile vault account name bytes old durable other) before.vault tells in
        file_first name bytes v.0 (vault_is v.0 v.1) v.2 h says
    first_of (OfLeaf label tree view) can tells h says = ⊎_elim (λ same. same)
        (λ apart. absurd (apart (from_some (view_of tells.later) view
        (sym (leaf_shows other label tells.later tells.factor.edition tree (whole_by can) h tells.later_there tells.later_is_pin tells.edition tells.names) ∙ says))))
        tells.apart

    -- where the first is held and what is read is what the second shows, the two are one
    pub second_of : (doubt : Doubt) → CanTell doubt account roots → TellsBy doubt before old durable other → HoldsUnder lost c account durable keys
        → Tells doubt account before.stored.stash stored (Ok false) c → durable ≡ other
    unfolding Held
    second_of Editions can tells h says =
        absurd (says (tells.0 ∙ sym (tally_held lost c account durable keys stored.stash kept.is_loaded.stash h)))
    second_of (OfFile name bytes) can tells h says =
        let v = some_and (λ (vault : Bytes). TellsFile vault account name bytes old durable other) before.vault tells in
        file_second name bytes v.0 (vault_is v.0 v.1) v.2 h says
    second_of (OfLeaf label tree view) can tells h says =
        absurd (says (leaf_shows durable label tells.factor tells.factor.edition tree (whole_by can) h tells.there tells.is_pin refl tells.names
        ∙ ap (λ (v : LeafView). Some v) (sym tells.view_is)))

-- two pairs of numbers that are compared
pub pair_decides : (a b : ℕ × ℕ) → Decides ((a.0 == b.0) && (a.1 == b.1)) (a ≡ b)
pair_decides a b = Decides-like ((a.0 == b.0) && (a.1 == b.1)) (λ h i. (h.0 i, h.1 i))
    (λ e. (ap (λ (p : ℕ × ℕ). p.0) e, ap (λ (p : ℕ × ℕ). p.1) e))
    (Decides-and (a.0 == b.0) (a.1 == b.1) (Decides-eqb a.0 b.0) (Decides-eqb a.1 b.1))

-- two tallies that were compared
pub editions_tell : (before now : Option Stash) (r : Bool) → (r ≡ true → tally_in before ≡ tally_in now) → (r ≡ false → tally_in before ≢ tally_in now)
    → TellsEditions before now (Ok r)
editions_tell before now true same differ = same refl
editions_tell before now false same differ = differ refl

-- ---- what is kept of a doubt over fewer records

fewer_some : (x y : Option Bytes) (P : Bytes → Type 0) → ((bytes : Bytes) → y ≡ Some bytes → x ≡ Some bytes) → IfSome x P → IfSome y P
fewer_some x None P same h = tt
fewer_some x (Some bytes) P same h = subst (λ o. IfSome o P) (same bytes refl) h

fewer_row : (x y : Option Bytes) (P : FactorRecord → Type 0) → ((bytes : Bytes) → y ≡ Some bytes → x ≡ Some bytes)
    → IfSome (option_and_then factor_at x) P → IfSome (option_and_then factor_at y) P
fewer_row x None P same h = tt
fewer_row x (Some bytes) P same h = subst (λ o. IfSome (option_and_then factor_at o) P) (same bytes refl) h

some_and_map : {X : Type 0} (P Q : X → Type 0) (o : Option X) → ((x : X) → P x → Q x) → IsSomeAnd o P → IsSomeAnd o Q
some_and_map P Q None f h = h
some_and_map P Q (Some x) f h = f x h

-- what tells the two apart does so over fewer records
pub tells_fewer : (before : UserState) (old new : Contents) (durable other : Durable) (doubt : Doubt) → HasFewer old new
    → TellsBy doubt before old durable other → TellsBy doubt before new durable other
tells_fewer before old new durable other Editions fewer tells = tells
tells_fewer before old new durable other (OfFile name bytes) fewer tells =
    some_and_map (λ (vault : Bytes). TellsFile vault before.account name bytes old durable other)
    (λ (vault : Bytes). TellsFile vault before.account name bytes new durable other) before.vault
    (λ vault t. record {
      plain = t.plain;
      named = t.named;
      opens = t.opens;
      other_is = t.other_is;
      apart = ⊎_elim inl
          (λ only. inr (fewer_some (get old.records (file_name before.account name)) (get new.records (file_name before.account name))
          (λ found. IsFileOf vault before.account name found t.plain → found ≡ bytes)
          (λ found is. fewer (file_name before.account name) found is) only))
          t.apart;
    }) tells
tells_fewer before old new durable other (OfLeaf label tree view) fewer tells = record {
  factor = tells.factor;
  later = tells.later;
  there = tells.there;
  later_there = tells.later_there;
  is_pin = tells.is_pin;
  later_is_pin = tells.later_is_pin;
  edition = tells.edition;
  names = fewer_row (get old.records (factor_name before.account label tells.factor.edition))
      (get new.records (factor_name before.account label tells.factor.edition)) (λ row. row.leaf ≡ Some tree)
      (λ bytes is. fewer (factor_name before.account label tells.factor.edition) bytes is) tells.names;
  view_is = tells.view_is;
  apart = tells.apart;
}
