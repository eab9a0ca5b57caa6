-- The loaded factors beside the loaded stash, whatever the contents are.
use Rattle.std.proofs.Common.{◌≡◌, ◌≢◌, ℕ, zero, suc, ◌+◌, ◌-◌, ◌≤◌, ◌<◌, false, cond, Option, None, Some, refl, sym, ap, ◌∙◌, subst, ⊎_elim, is_some, is_none, option_map, true≢false, arith}
use Rattle.std.specs.Prelude.{IsSome, IfSome, IsTrue}
use Rattle.std.specs.Ordering.{nat_cmp}
use Rattle.std.specs.declared.cmp.Ordering.{Ordering}
use Rattle.std.specs.Cmp.Lexicographic.{slice_cmp, nat_list_cmp_total}
use Rattle.std.specs.FinMap.{FinMap, get, insert, remove, len, empty_of_len, get-empty, len-remove, len-insert, same_map, slice_cmp-IsAntisymmetric, nat_cmp-IsAntisymmetric}
use Rattle.name_map.specs.Mapped.{map_values}
use Rattle.name_map.proofs.MappedLemmas.{get-map_values, len-map_values}
use Rattle.account_machine.specs.declared.factor.Kind.{Kind}
use Rattle.account_machine.specs.declared.factor.Kind.TheVariants.{Password}
use Rattle.factor_files.specs.Record.{LeafFits}
use Rattle.factor_files.specs.declared.factor.FactorRecord.{FactorRecord}
use Rattle.record_names.specs.Names.{is_factor_label}
use Rattle.share_api.specs.Contents.{Bytes}
use Rattle.stash_format.specs.Blocks.{Blocks}
use Rattle.stash_format.specs.Kept.{HasBoth}
use Rattle.stash_format.specs.declared.block.Block.{Block}
use Rattle.stash_format.specs.declared.contents.Contents.{Contents as Stash}
use Rattle.sealed_text.specs.declared.sealed.Sealed.{Sealed}
use Rattle.stored_home.specs.Coherent.{IsCoherent, IsOwnStash, FitsBlock}
use Rattle.stored_home.specs.Loaded.{block_in}
use Rattle.stored_home.specs.Matching.{Matches}
use Rattle.stored_home.specs.declared.stored.Stored.{Stored}
use Rattle.stored_home.proofs.MapLemmas.{same_or_apart, from_some, put_at, put_other, taken_at, taken_other, not_None, matched_right}

abbrev pub order : Bytes → Bytes → Ordering
order = slice_cmp nat_cmp

-- ---- maps of made values

module _ {A B : Type 0} (f : A → B) (m : FinMap order A) (name : Bytes) where
  pub mapped_put : (x : A) → map_values f (insert m name x) ≡ insert (map_values f m) name (f x)
  mapped_put x = same_map nat_list_cmp_total (slice_cmp-IsAntisymmetric nat_cmp-IsAntisymmetric)
      (map_values f (insert m name x)) (insert (map_values f m) name (f x))
      (λ q. get-map_values f (insert m name x) q ∙ ⊎_elim
      (λ e. ap (λ (n : Bytes). option_map f (get (insert m name x) n)) e ∙ ap (option_map f) (put_at m name x)
      ∙ sym (put_at (map_values f m) name (f x)) ∙ ap (get (insert (map_values f m) name (f x))) (sym e))
      (λ away. ap (option_map f) (put_other m name x q away) ∙ sym (get-map_values f m q)
      ∙ sym (put_other (map_values f m) name (f x) q away))
      (same_or_apart q name))

  pub mapped_removed : map_values f (remove m name) ≡ remove (map_values f m) name
  mapped_removed = same_map nat_list_cmp_total (slice_cmp-IsAntisymmetric nat_cmp-IsAntisymmetric)
      (map_values f (remove m name)) (remove (map_values f m) name)
      (λ q. get-map_values f (remove m name) q ∙ ⊎_elim
      (λ e. ap (λ (n : Bytes). option_map f (get (remove m name) n)) e ∙ ap (option_map f) (taken_at m name)
      ∙ sym (taken_at (map_values f m) name) ∙ ap (get (remove (map_values f m) name)) (sym e))
      (λ away. ap (option_map f) (taken_other m name q away) ∙ sym (get-map_values f m q)
      ∙ sym (taken_other (map_values f m) name q away))
      (same_or_apart q name))

  -- a made value comes of one
  pub made_of : (y : B) → get (map_values f m) name ≡ Some y → (x : A) × (get m name ≡ Some x) × (f x ≡ y)
  made_of y e = by (get m name) refl (sym (get-map_values f m name) ∙ e)
    where
      by : (o : Option A) → get m name ≡ o → option_map f o ≡ Some y → (x : A) × (get m name ≡ Some x) × (f x ≡ y)
      by None is h = absurd (not_None y (sym h))
      by (Some x) is h = (x, is, from_some (f x) y h)

  -- and stands where one stands
  pub is_made : is_none (get (map_values f m) name) ≡ false → (x : A) × (get m name ≡ Some x)
  is_made e = by (get m name) refl (ap is_none (sym (get-map_values f m name)) ∙ e)
    where
      by : (o : Option A) → get m name ≡ o → is_none (option_map f o) ≡ false → (x : A) × (get m name ≡ Some x)
      by None is h = absurd (true≢false h)
      by (Some x) is h = (x, is)

  pub none_made : is_some (get (map_values f m) name) ≡ false → get m name ≡ None
  none_made e = by (get m name) (ap is_some (sym (get-map_values f m name)) ∙ e)
    where
      by : (o : Option A) → is_some (option_map f o) ≡ false → o ≡ None
      by None h = refl
      by (Some x) h = absurd (true≢false h)

-- a map in which something stands isn't empty
pub len_some : {X : Type 0} (m : FinMap order X) (name : Bytes) (x : X) → get m name ≡ Some x → 1 ≤ len m
len_some {X} m name x there = by (len m) refl
  where
    by : (n : ℕ) → len m ≡ n → 1 ≤ n
    by zero e = absurd (not_None x (sym there
        ∙ ap (λ (k : FinMap order X). get k name) (empty_of_len m e) ∙ get-empty order name))
    by (suc n) e = omega arith

-- two names are two
len_two : {X : Type 0} (m : FinMap order X) (one two : Bytes) (x y : X) → two ≢ one → get m one ≡ Some x
    → get m two ≡ Some y → 2 ≤ len m
len_two {X} m one two x y apart there other =
    let left : 1 ≤ len (remove m one) = len_some (remove m one) two y (taken_other m one two apart ∙ other) in
    let size : len (remove m one) ≡ len m - 1 = len-remove nat_list_cmp_total m one
    ∙ ap (λ (o : Option X). cond (is_some o) (len m - 1) (len m)) there in
    omega (arith, left, size)

-- where a new name has room, there are no more than before
pub few_with : {X : Type 0} (bound : ℕ) (m : FinMap order X) (name : Bytes) (x : X) → len m ≤ bound
    → (get m name ≡ None → len m < bound) → len (insert m name x) ≤ bound
few_with {X} bound m name x most room = by (get m name) room (len-insert nat_list_cmp_total m name x)
  where
    by : (o : Option X) → (o ≡ None → len m < bound)
        → len (insert m name x) ≡ cond (is_some o) (len m) (len m + 1) → len (insert m name x) ≤ bound
    by None free size = let below = free refl in omega (arith, below, size)
    by (Some y) free size = omega (arith, most, size)

-- ---- factors and blocks

password_leaf : (kind : Kind) (leaf : Option ℕ) → kind ≡ Password → LeafFits kind leaf → leaf ≡ None
password_leaf kind leaf is fits = by leaf (subst (λ k. LeafFits k leaf) is fits)
  where
    by : (o : Option ℕ) → LeafFits Password o → o ≡ None
    by None h = refl
    by (Some tree) h = absurd h

-- that something is there
abbrev there : {X : Type 0} → X → Unit {0}
there x = tt

module _ {A B : Type 0} (R : A → B → Type 0) where
  both_there : (x : Option A) (y : Option B) → Matches R x y → option_map there x ≡ option_map there y
  both_there None None h = refl
  both_there None (Some y) h = absurd h
  both_there (Some x) None h = absurd h
  both_there (Some x) (Some y) h = refl

-- maps that match have as many names
len_matched : {A B : Type 0} (R : Bytes → A → B → Type 0) (m : FinMap order A) (n : FinMap order B)
    → ((q : Bytes) → Matches (R q) (get m q) (get n q)) → len m ≡ len n
len_matched R m n all =
    let same : map_values there m ≡ map_values there n =
    same_map nat_list_cmp_total (slice_cmp-IsAntisymmetric nat_cmp-IsAntisymmetric) (map_values there m)
    (map_values there n)
    (λ q. get-map_values there m q ∙ both_there (R q) (get m q) (get n q) (all q) ∙ sym (get-map_values there n q)) in
    sym (len-map_values there m) ∙ ap (λ (k : FinMap order (Unit {0})). len k) same ∙ len-map_values there n

module _ (account : Bytes) (stored : Stored) (was : IsCoherent account stored) (stash : Stash)
    (is : stored.stash ≡ Some stash) where
  pub own_stash : IsOwnStash account stash
  own_stash = subst (λ x. IfSome x (IsOwnStash account)) is was.stash

  both : HasBoth stash
  both = subst (λ x. IfSome x HasBoth) is was.both

  rows_by : (q : Bytes) → Matches (FitsBlock q) (get stash.blocks q) (get stored.factors q)
  rows_by q = subst (λ x. Matches (FitsBlock q) (block_in x q) (get stored.factors q)) is (was.rows q)

  -- as many blocks as factors
  pub as_many : len stash.blocks ≡ len stored.factors
  as_many = len_matched FitsBlock stash.blocks stored.factors rows_by

  module _ (label : Bytes) (row : FactorRecord) (at : get stored.factors label ≡ Some row) where
    -- the factor's block
    pub block_of : (block : Block) × (get stash.blocks label ≡ Some block) × FitsBlock label block row
    block_of = matched_right (FitsBlock label) (get stash.blocks label) (get stored.factors label) row at (rows_by
        label)

    -- so there is a payload
    pub payload_there : IsSome stash.payload
    payload_there = by stash.payload refl
      where
        by : (o : Option Sealed) → stash.payload ≡ o → IsSome o
        by (Some sealed) e = refl
        by None e = absurd (not_None block_of.0
            (sym block_of.1 ∙ ap (λ (m : Blocks). get m label) (both.none e) ∙ get-empty order label))

    -- the label is one of a factor
    pub is_labelled : IsTrue (is_factor_label label)
    is_labelled = subst (λ (n : Bytes). IsTrue (is_factor_label n)) block_of.2.label_is block_of.2.plain.label

    -- and a password names no leaf
    pub leafless : row.kind ≡ Password → row.leaf ≡ None
    leafless password = password_leaf row.kind row.leaf password block_of.2.plain.leaf

    -- with another factor there are two blocks
    pub two_blocks : (other : Bytes) (next : FactorRecord) → other ≢ label → get stored.factors other ≡ Some next
        → 2 ≤ len stash.blocks
    two_blocks other next apart there =
        let size = as_many in
        let two = len_two stored.factors label other row next apart at there in
        omega (arith, size, two)

  -- a home without factors has no block
  pub bare_blocks : stash.payload ≡ None → (q : Bytes) → get stash.blocks q ≡ None
  bare_blocks bare q = ap (λ (m : Blocks). get m q) (both.none bare) ∙ get-empty order q
