-- A settled state has the outline of its user.
use Rattle.std.proofs.Common.{◌≡◌, Option, None, Some, refl, sym, ap, ◌∙◌, subst, inr, ⊎_elim, Bool, map, true≢false}
use Rattle.std.specs.Prelude.{List, [], ◌∷◌, IsSome, IsSomeAnd, IsTrue, is_some, option_map}
use Rattle.std.specs.Ordering.{nat_cmp}
use Rattle.std.specs.Cmp.Lexicographic.{slice_cmp, nat_list_cmp_total}
use Rattle.std.specs.FinMap.{FinMap, get, entries, empty, get-empty, same_map, slice_cmp-IsAntisymmetric, nat_cmp-IsAntisymmetric}
use Rattle.std.specs.FinMap as maps
use Rattle.name_map.specs.Mapped.{map_values}
use Rattle.name_map.proofs.MappedLemmas.{entries-map_values, get-map_values}
use Rattle.account_machine.specs.declared.factor.Factor.{Factor}
use Rattle.account_machine.specs.declared.user.Durable.{Durable}
use Rattle.account_machine.specs.declared.user.User.{User}
use Rattle.account_machine.specs.User.{mark_of, outline_of}
use Rattle.record_names.specs.Names.{is_account_name, file_name}
use Rattle.share_api.specs.Contents.{Bytes, Contents, settled}
use Rattle.sealed_text.specs.declared.sealed.Sealed.{Sealed}
use Rattle.stash_format.specs.declared.block.Block.{Block}
use Rattle.stash_format.specs.declared.contents.Contents.{Contents as Stash}
use Rattle.stash_format.specs.Resets.{Resets}
use Rattle.factor_files.specs.declared.factor.FactorRecord.{FactorRecord}
use Rattle.stored_home.specs.Matching.{Matches}
use Rattle.stored_home.specs.Holds.{Keys, IsBlockOf, IsFileOf, HoldsFiles, HoldsStash, HoldsUnder, record_at}
use Rattle.stored_home.specs.Loaded.{Rows, IsRowOf, IsNamed, IsKept, block_in}
use Rattle.stored_home.specs.declared.stored.Stored.{Stored}
use Rattle.stored_home.proofs.MapLemmas.{from_some, not_None}
use Rattle.stored_home.proofs.NameLemmas.{file_not_stash}
use Rattle.stored_home.proofs.FrameLemmas.{same_stash}
use Rattle.stored_home.specs.Coherent.{AreFiles}
use Rattle.user_state.specs.Fits.{Fits, IsSettled, StandsBy, is_lost}
use Rattle.user_state.specs.Outlines.{next_in, mark_in, outline_in}
use Rattle.user_state.specs.declared.state.Doubt.{Doubt}
use Rattle.user_state.specs.declared.state.UserState.{UserState}

-- ---- maps with the same names

-- that something is there
abbrev there : {X : Type 0} → X → Unit {0}
there x = tt

-- names stay where values are changed
keys_made : {X Y : Type 0} (f : X → Y) (rows : List (Bytes × X))
    → map (λ (e : Bytes × Y). e.0) (map (λ (e : Bytes × X). (e.0, f e.1)) rows) ≡ map (λ (e : Bytes × X). e.0) rows
keys_made f [] = refl
keys_made f (row ∷ rows) = ap (λ more. row.0 ∷ more) (keys_made f rows)

keys_mapped : {X Y : Type 0} (f : X → Y) (m : FinMap (slice_cmp nat_cmp) X) → maps.keys (map_values f m) ≡ maps.keys m
keys_mapped {X} {Y} f m = ap (map (λ (e : Bytes × Y). e.0)) (entries-map_values f m) ∙ keys_made f (entries m)

module _ {A B : Type 0} where
  both_there : (x : Option A) (y : Option B) → (IsSome x → IsSome y) → (IsSome y → IsSome x)
      → option_map there x ≡ option_map there y
  both_there None None to from = refl
  both_there None (Some y) to from = absurd (true≢false (sym (from refl)))
  both_there (Some x) None to from = absurd (true≢false (sym (to refl)))
  both_there (Some x) (Some y) to from = refl

  -- maps in which something stands at the same names have the same names in order
  pub same_keys : (m : FinMap (slice_cmp nat_cmp) A) (n : FinMap (slice_cmp nat_cmp) B)
      → ((q : Bytes) → IsSome (get m q) → IsSome (get n q)) → ((q : Bytes) → IsSome (get n q) → IsSome (get m q))
      → maps.keys m ≡ maps.keys n
  same_keys m n to from =
      let one : map_values there m ≡ map_values there n =
      same_map nat_list_cmp_total (slice_cmp-IsAntisymmetric nat_cmp-IsAntisymmetric) (map_values there m)
      (map_values there n)
      (λ q. get-map_values there m q ∙ both_there (get m q) (get n q) (to q) (from q)
      ∙ sym (get-map_values there n q)) in
      sym (keys_mapped there m) ∙ ap maps.keys one ∙ keys_mapped there n

-- nothing stands in an empty map
nothing_at : (X : Type 0) (q : Bytes) → IsSome (get (empty {X = X} {R = slice_cmp nat_cmp}) q) → ⊥
nothing_at X q some = true≢false (sym some ∙ ap is_some (get-empty (slice_cmp nat_cmp) q))

-- what matches is there on both sides
module _ {A B : Type 0} (R : A → B → Type 0) where
  matched_to : (x : Option A) (y : Option B) → Matches R x y → IsSome x → IsSome y
  matched_to None None h some = some
  matched_to None (Some y) h some = absurd h
  matched_to (Some x) None h some = absurd h
  matched_to (Some x) (Some y) h some = refl

  matched_from : (x : Option A) (y : Option B) → Matches R x y → IsSome y → IsSome x
  matched_from None None h some = some
  matched_from None (Some y) h some = absurd h
  matched_from (Some x) None h some = absurd h
  matched_from (Some x) (Some y) h some = refl

-- ---- records that were read

module _ (lost : Bool) (contents : Contents) (account : Bytes) (durable : Durable) (keys : Keys) where
  abbrev IsBlock : Resets → Bytes → Block → Factor → Type 0
  IsBlock resets label block factor =
      IsBlockOf lost contents.records (settled contents).leaves account keys.main resets label block factor

  -- the record that a block names is the factor's
  same_row : (resets : Resets) (label : Bytes) (block : Block) (row : FactorRecord) (factor : Factor)
      → (is : IsBlock resets label block factor) → IsRowOf contents.records account label block row → is.row ≡ row
  same_row resets label block row factor is read =
      from_some is.row row (sym is.read ∙ ap (record_at contents.records account label) (sym is.edition) ∙ read.read)

  same_mark : (resets : Resets) (label : Bytes) (block : Option Block) (row : Option FactorRecord)
      (factor : Option Factor)
      → Matches (IsBlock resets label) block factor → Matches (IsRowOf contents.records account label) block row
      → option_map mark_in row ≡ option_map mark_of factor
  same_mark resets label None None None h k = refl
  same_mark resets label None None (Some f) h k = absurd h
  same_mark resets label None (Some r) f h k = absurd k
  same_mark resets label (Some b) None f h k = absurd k
  same_mark resets label (Some b) (Some r) None h k = absurd h
  same_mark resets label (Some b) (Some r) (Some f) h k =
      let kind : r.kind ≡ f.kind = ap (λ (x : FactorRecord). x.kind) (sym (same_row resets label b r f h k))
      ∙ h.kind_is in
      let edition : r.edition ≡ f.edition = k.edition_is ∙ h.edition in
      λ i. Some (record { kind = kind i; edition = edition i })

  no_mark : (label : Bytes) (row : Option FactorRecord) → Matches (IsRowOf contents.records account label) None row
      → option_map mark_in row ≡ None
  no_mark label None k = refl
  no_mark label (Some r) k = absurd k

  abbrev AreRows : Option Stash → Rows → Type 0
  AreRows stash rows =
      (label : Bytes) → Matches (IsRowOf contents.records account label) (block_in stash label) (get rows label)

  mark_at : (rows : Rows) (stash : Option Stash) → HoldsStash lost (settled contents) account durable keys stash
      → AreRows stash rows → (label : Bytes)
      → option_map mark_in (get rows label) ≡ option_map mark_of (get durable.factors label)
  mark_at rows None h k label =
      no_mark label (get rows label) (k label)
      ∙ sym (ap (option_map mark_of) (ap (λ (d : Durable). get d.factors label) h
      ∙ get-empty (slice_cmp nat_cmp) label))
  mark_at rows (Some stash) h k label =
      same_mark h.resets label (get stash.blocks label) (get rows label) (get durable.factors label) (h.blocks label)
      (k label)

  same_marks : (rows : Rows) (stash : Option Stash) → HoldsStash lost (settled contents) account durable keys stash
      → AreRows stash rows → map_values mark_in rows ≡ map_values mark_of durable.factors
  same_marks rows stash h k =
      same_map nat_list_cmp_total (slice_cmp-IsAntisymmetric nat_cmp-IsAntisymmetric) (map_values mark_in rows)
      (map_values mark_of durable.factors)
      (λ label. get-map_values mark_in rows label ∙ mark_at rows stash h k label
      ∙ sym (get-map_values mark_of durable.factors label))

  same_made : (stash : Option Stash) → HoldsStash lost (settled contents) account durable keys stash
      → is_some stash ≡ durable.made
  same_made None h = sym (ap (λ (d : Durable). d.made) h)
  same_made (Some stash) h = sym h.made

  same_next : (stash : Option Stash) → HoldsStash lost (settled contents) account durable keys stash
      → next_in stash ≡ durable.next
  same_next None h = sym (ap (λ (d : Durable). d.next) h)
  same_next (Some stash) h = h.next

  -- ---- vault files

  module _ (plain : IsTrue (is_account_name account)) (stored : Stored) (kept : IsKept lost contents account stored)
      (named : AreFiles account stored) where
    record_there : (q : Bytes) → IsSome (get stored.files q) → IsSome (get contents.records (file_name account q))
    record_there q some = (kept.is_loaded.files q (named q some)).0 some

    -- without blocks and without a payload no record of a vault file is there
    none_there : (stash : Option Stash) → stored.stash ≡ stash → ((label : Bytes) → block_in stash label ≡ None)
        → (IsSomeAnd stash (λ s. IsSome s.payload) → ⊥) → (q : Bytes) → IsSome (get stored.files q) → ⊥
    none_there stash is none bare q some =
        let by : IsNamed account stored (file_name account q) = kept.tidy.records (file_name account q) (inr (inr (q, refl)))
        (record_there q some) in
        ⊎_elim (λ same. file_not_stash account plain q (named q some) same)
        (λ rest. ⊎_elim
        (λ factor. let row : Matches (IsRowOf contents.records account factor.0) None (Some factor.1) =
        subst (λ x. Matches (IsRowOf contents.records account factor.0) x (Some factor.1))
        (ap (λ s. block_in s factor.0) is ∙ none factor.0)
        (subst (Matches (IsRowOf contents.records account factor.0) (block_in stored.stash factor.0)) factor.2
        (kept.is_loaded.rows factor.0)) in row)
        (λ file. bare (subst (λ s. IsSomeAnd s (λ t. IsSome t.payload)) is file.0))
        rest)
        by

    same_files : (stash : Option Stash) → stored.stash ≡ stash
        → HoldsStash lost (settled contents) account durable keys stash
        → maps.keys stored.files ≡ maps.keys durable.files
    same_files None is h = same_keys stored.files durable.files
        (λ q some. absurd (none_there None is (λ label. refl) (λ f. f) q some))
        (λ q some. absurd (nothing_at Bytes q (subst (λ (d : Durable). IsSome (get d.files q)) h some)))
    same_files (Some stash) is h = files_by stash.payload refl
      where
        files_by : (payload : Option Sealed) → stash.payload ≡ payload
            → maps.keys stored.files ≡ maps.keys durable.files
        files_by None none = same_keys stored.files durable.files
            (λ q some. absurd (none_there (Some stash) is
            (λ label. ap (λ blocks. get blocks label) (h.bare none).0 ∙ get-empty (slice_cmp nat_cmp) label)
            (λ some_payload. true≢false (sym some_payload ∙ ap is_some none)) q some))
            (λ q some. absurd (nothing_at Bytes q (subst (λ files. IsSome (get files q)) (h.bare none).1 some)))
        files_by (Some sealed) some_payload =
            let files : HoldsFiles contents.records keys.vault account durable.files = h.files
            (ap is_some some_payload) in
            same_keys stored.files durable.files
            (λ q some. matched_to (IsFileOf keys.vault account q) (get contents.records (file_name account q))
            (get durable.files q)
            (files.bytes q (named q some)) (record_there q some))
            (λ q some. (kept.is_loaded.files q (files.named q some)).1
            (matched_from (IsFileOf keys.vault account q) (get contents.records (file_name account q))
            (get durable.files q)
            (files.bytes q (files.named q some)) some))

-- ---- the whole outline

pub settled_by : (state : UserState) (contents : Contents) (user : User) (doubt : Option Doubt)
    → StandsBy doubt state contents user → doubt ≡ None → IsSettled state contents user
settled_by state contents user None h e = h
settled_by state contents user (Some doubt) h e = absurd (not_None doubt e)

-- A settled state has the outline of its user.
pub same_outline : (state : UserState) (contents : Contents) (user : User) (keys : Keys)
    → IsTrue (is_account_name state.account) → Fits state contents user keys → state.doubt ≡ None
    → HoldsUnder (is_lost state) contents state.account user.durable keys → outline_in state ≡ outline_of user
same_outline state contents user keys plain fits none holds =
    let s : IsSettled state contents user = settled_by state contents user state.doubt fits.stands none in
    let same : holds.stash ≡ state.stored.stash =
    same_stash contents.records state.account holds.stash state.stored.stash holds.there s.kept.is_loaded.stash in
    let by : HoldsStash (is_lost state) (settled contents) state.account user.durable keys state.stored.stash =
    subst (HoldsStash (is_lost state) (settled contents) state.account user.durable keys) same holds.holds in
    let made : is_some state.stored.stash ≡ user.durable.made =
    same_made (is_lost state) contents state.account user.durable keys state.stored.stash by in
    let next : next_in state.stored.stash ≡ user.durable.next =
    same_next (is_lost state) contents state.account user.durable keys state.stored.stash by in
    let marks : map_values mark_in state.stored.factors ≡ map_values mark_of user.durable.factors =
    same_marks
    (is_lost state) contents state.account user.durable keys state.stored.factors state.stored.stash by
    s.kept.is_loaded.rows in
    let files : maps.keys state.stored.files ≡ maps.keys user.durable.files =
    same_files
    (is_lost state) contents state.account user.durable keys plain state.stored s.kept s.files state.stored.stash
    refl by in
    λ i. record {
      home = record { made = made i; next = next i; marks = marks i; files = files i };
      sessions = fits.sessions i;
      next_session = fits.next_session i;
      mounted = fits.mounted i;
    }
