-- What removals of what may go leave of contents.
use Rattle.std.proofs.Common.{◌≡◌, ◌≢◌, ℕ, zero, suc, ◌<◌, List, [], ◌∷◌, ◌++◌, map, length, get_or, Option, None, Some, Bool, true, false, refl, sym, ap, ◌∙◌, subst, inl, inr, ⊎_elim, ◌⊎◌, true≢false, arith}
use Rattle.std.proofs.lemmas.Bool.{cases_lt}
use Rattle.std.proofs.lemmas.List.Elements.{Contains-append_left, Contains-append_right, Contains-append_cases}
use Rattle.std.proofs.lemmas.List.Sorted.{Contains-permutation}
use Rattle.std.specs.Prelude.{IsSome, IfSome, IsSomeAnd, IsTrue, Contains, slice_get}
use Rattle.std.specs.Ordering.{nat_cmp, eq_by_cmp, is_eq}
use Rattle.std.specs.declared.cmp.Ordering.{Ordering}
use Rattle.std.specs.declared.cmp.Ordering.TheVariants.{Less, Equal, Greater}
use Rattle.std.specs.Cmp.Lexicographic.{slice_cmp}
use Rattle.std.specs.FinMap.{get, keys, remove, get-empty, contains_key-keys, nat_cmp-IsAntisymmetric}
use Rattle.account_machine.specs.User.{no_home}
use Rattle.record_names.specs.Names.{is_account_name, AreParts, File, leaf_name, file_name}
use Rattle.share_api.specs.Conditions.{IsFiledName}
use Rattle.share_api.specs.Contents.{Bytes, Contents, Leaves}
use Rattle.share_api.specs.Replies.{AreListed}
use Rattle.share_api.specs.Steps.{Follows, Along, done, after}
use Rattle.share_api.specs.declared.step.Op.{Op}
use Rattle.share_api.specs.declared.step.Op.TheVariants.{Names, Get, Do, InsertLeaf, TryLeaf, ResetLeaf, LookLeaf}
use Rattle.share_api.specs.declared.step.Step.{Step}
use Rattle.share_api.specs.declared.step.Write.{Write}
use Rattle.share_api.specs.declared.step.Write.TheVariants.{Put, Remove, RemoveLeaf}
use Rattle.share_api.proofs.StepLaws.{doubt_same}
use Rattle.stored_home.specs.Coherent.{IsCoherent, IsOwnStash, KeepsBounds, AreFiles, FitsBlock}
use Rattle.stored_home.specs.Holds.{Keys, HasStash}
use Rattle.stored_home.specs.Loaded.{Rows, Filed, IsRowOf, IsLoaded, IsNamed, IsKept, HasFactors, NamesTree, block_in}
use Rattle.stored_home.specs.Matching.{Matches}
use Rattle.stored_home.specs.declared.stored.Stored.{Stored}
use Rattle.stored_home.proofs.MapLemmas.{same_or_apart, taken_at, taken_other, some_not_None}
use Rattle.stored_home.proofs.LeafLemmas.{leaf_gone, leaf_left}
use Rattle.stored_home.proofs.NameLemmas.{file_not_stash}
use Rattle.stash_format.specs.declared.contents.Contents.{Contents as Stash}
use Rattle.sealed_text.specs.declared.sealed.Sealed.{Sealed}
use Rattle.stash_format.specs.Kept.{HasBoth}
use Rattle.home_recovery.specs.Damage.{IsSoundHome}
use Rattle.home_recovery.specs.Loose.{IsReadOf, IsLoose, RemovesLoose}
use Rattle.home_recovery.specs.Reading.{AreReads}
use Rattle.home_recovery.specs.Recovers.{RemovesUnnamed, IsTidying, AreTidying}
use Rattle.home_recovery.specs.Sweeps.{Stays, MayGo, MayAllGo, IsSwept, IsTrimmed}
use Rattle.home_recovery.proofs.BoundLemmas.{any_true}
use Rattle.home_recovery.proofs.FileLemmas.{none_in, in_or_last}
use Rattle.home_recovery.proofs.LoadLemmas.{in_keys}
use Rattle.home_recovery.proofs.OwnNames.{file_not_row}
use Rattle.home_recovery.proofs.SweepLemmas.{reply_cases}
use Rattle.home_recovery.proofs.RemovalLemmas.{still_read}

-- ---- lists

in_first : {X : Type 0} (x : X) (xs : List X) (q : X) → Contains (x ∷ xs) q → (x ≡ q) ⊎ Contains xs q
in_first x xs q h = ⊎_elim
    (λ first. ⊎_elim (λ before. absurd (none_in q before)) inl (in_or_last [] x q first)) inr
    (Contains-append_cases (x ∷ []) xs q h)

in_map : {X Y : Type 0} (f : X → Y) (xs : List X) (q : X) → Contains xs q → Contains (map f xs) (f q)
in_map f xs q h = by xs h.0 h.1 h.2
  where
    by : (ys : List _) (k : ℕ) → k < length ys → get_or ys k q ≡ q → Contains (map f ys) (f q)
    by [] k within is = absurd (omega (arith, within))
    by (y ∷ ys) zero within is = (0, omega arith, ap f is)
    by (y ∷ ys) (suc k) within is =
        let rest = by ys k (omega (arith, within)) is in
        let more = rest.1 in
        (suc rest.0, omega (arith, more), rest.2)

number_cases : (q n : ℕ) → (q ≡ n) ⊎ (q ≢ n)
number_cases q n = ⊎_elim
    (λ lt. inr (λ e. let below = lt in omega (arith, below, e)))
    (λ ge. ⊎_elim (λ lt. inr (λ e. let below = lt in omega (arith, below, e)))
    (λ le. inl (let one = ge in let two = le in omega (arith, one, two))) (cases_lt n q))
    (cases_lt q n)

-- a label under which a leaf is there is among the labels
leaf_key : (m : Leaves) (q : ℕ) → IsSome (get m q) → Contains (keys m) q
leaf_key m q there =
    let a = any_true (eq_by_cmp nat_cmp q) (keys m) (sym (contains_key-keys m q) ∙ there) in
    at (keys m) a.0 a.1 a.2 a.3
  where
    tie : (o : Ordering) → is_eq o ≡ true → o ≡ Equal
    tie Less e = cc
    tie Equal e = refl
    tie Greater e = cc

    at : (xs : List ℕ) (i x : ℕ) → slice_get xs i ≡ Some x → eq_by_cmp nat_cmp q x ≡ true → Contains xs q
    at [] i x is same = absurd (Rattle.stored_home.proofs.MapLemmas.not_None x (sym is))
    at (y ∷ ys) zero x is same =
        let e : q ≡ x = nat_cmp-IsAntisymmetric q x (tie (nat_cmp q x) same) in
        (0, omega arith, Rattle.stored_home.proofs.MapLemmas.from_some y x is ∙ sym e)
    at (y ∷ ys) (suc i) x is same =
        let rest = at ys i x is same in
        let more = rest.1 in
        (suc rest.0, omega (arith, more), rest.2)

remove_tells : (one other : Bytes) → ◌≡◌ {A = Write} (Remove one) (Remove other) → one ≡ other
remove_tells one other e = cc

remove_leaf_tells : (one other : ℕ) → ◌≡◌ {A = Write} (RemoveLeaf one) (RemoveLeaf other) → one ≡ other
remove_leaf_tells one other e = cc

record_not_leaf : (name : Bytes) (tree : ℕ) → ◌≡◌ {A = Write} (Remove name) (RemoveLeaf tree) → ⊥
record_not_leaf name tree e = cc

no_keys : Keys
no_keys = record { main = []; vault = [] }

-- ---- removals

module _ (lost : Bool) (account : Bytes) (stored : Stored) where
  may_first : (write : Write) (writes : List Write) → MayAllGo lost account stored (write ∷ writes) → MayGo lost account stored write
  may_first write writes may = may write (0, omega arith, refl)

  may_rest : (write : Write) (writes : List Write) → MayAllGo lost account stored (write ∷ writes) → MayAllGo lost account stored writes
  may_rest write writes may other h = may other (Contains-append_right (write ∷ []) writes other h)

  pub loose_all : (writes : List Write) → MayAllGo lost account stored writes → RemovesLoose account stored writes
  loose_all [] may = tt
  loose_all (Put name bytes ∷ writes) may = absurd (may_first (Put name bytes) writes may)
  loose_all (Remove name ∷ writes) may = (
    (may_first (Remove name) writes may).1,
    loose_all writes (may_rest (Remove name) writes may),
  )
  loose_all (RemoveLeaf tree ∷ writes) may = (
    (may_first (RemoveLeaf tree) writes may).1,
    loose_all writes (may_rest (RemoveLeaf tree) writes may),
  )

  -- what may go isn't named
  not_named : (name : Bytes) → IsLoose account stored name → IsNamed account stored name → ⊥
  not_named name loose (inl e) = loose.not_stash (sym e)
  not_named name loose (inr (inl row)) = loose.not_row row.0 row.1 row.2 (sym row.3)
  not_named name loose (inr (inr file)) = loose.not_file file.0 file.1.0 file.1.1 (sym file.1.3)

  unnamed_of : (write : Write) → MayGo lost account stored write → RemovesUnnamed lost account stored write
  unnamed_of (Put name bytes) may = may
  unnamed_of (Remove name) may = (may.0, not_named name may.1)
  unnamed_of (RemoveLeaf tree) may = may

  pub tidying_follows : (writes : List Write) (steps : List Step) → MayAllGo lost account stored writes → Follows writes steps
      → AreTidying lost account stored steps
  tidying_follows writes [] may f = tt
  tidying_follows [] (step ∷ steps) may f = absurd f
  tidying_follows (write ∷ writes) (step ∷ steps) may f = (
    subst (IsTidying lost account stored) (sym f.0) (unnamed_of write (may_first write writes may)),
    reply_cases step.reply (Follows writes steps) steps (λ t. tidying_follows writes steps (may_rest write writes may) t)
        (λ e. subst (AreTidying lost account stored) (sym e) tt) f.1,
  )

  tidying_op : (op : Op) → Rattle.home_recovery.specs.Reading.IsReadOp op → IsTidying lost account stored op
  tidying_op Names r = tt
  tidying_op (Get name) r = tt
  tidying_op (Do write) r = absurd r
  tidying_op (InsertLeaf leaf) r = absurd r
  tidying_op (TryLeaf label les) r = absurd r
  tidying_op (ResetLeaf label secret) r = absurd r
  tidying_op (LookLeaf label) r = tt

  -- reads, and then removals of what may go
  pub tidying_then : (steps more : List Step) → AreReads steps → AreTidying lost account stored more
      → AreTidying lost account stored (steps ++ more)
  tidying_then [] more reads t = t
  tidying_then (step ∷ steps) more reads t = (tidying_op step.op reads.0, tidying_then steps more reads.1 t)

  -- ---- contents after them

  -- a record that may not go stays
  untouched : (writes : List Write) (c : Contents) (name : Bytes) → MayAllGo lost account stored writes
      → (IsLoose account stored name → ⊥) → get (after writes c).records name ≡ get c.records name
  untouched [] c name may bound = refl
  untouched (Put other bytes ∷ writes) c name may bound = absurd (may_first (Put other bytes) writes may)
  untouched (Remove other ∷ writes) c name may bound =
      untouched writes (done (Remove other) c) name (may_rest (Remove other) writes may) bound
      ∙ taken_other c.records other name
      (λ same. bound (subst (IsLoose account stored) (sym same) (may_first (Remove other) writes may).1))
  untouched (RemoveLeaf tree ∷ writes) c name may bound =
      untouched writes (done (RemoveLeaf tree) c) name (may_rest (RemoveLeaf tree) writes may) bound

  -- a leaf that is named stays
  leaf_untouched : (writes : List Write) (c : Contents) (tree : ℕ) → MayAllGo lost account stored writes
      → NamesTree stored tree → get (after writes c).leaves tree ≡ get c.leaves tree
  leaf_untouched [] c tree may names = refl
  leaf_untouched (Put other bytes ∷ writes) c tree may names = absurd (may_first (Put other bytes) writes may)
  leaf_untouched (Remove other ∷ writes) c tree may names =
      leaf_untouched writes (done (Remove other) c) tree (may_rest (Remove other) writes may) names
  leaf_untouched (RemoveLeaf other ∷ writes) c tree may names =
      leaf_untouched writes (done (RemoveLeaf other) c) tree (may_rest (RemoveLeaf other) writes may) names
      ∙ leaf_left c.leaves other tree
      (λ same. (may_first (RemoveLeaf other) writes may).1 (subst (NamesTree stored) same names))

  -- a record that is left was there, and wasn't removed
  left_record : (writes : List Write) (c : Contents) (name : Bytes) → MayAllGo lost account stored writes
      → IsSome (get (after writes c).records name) → IsSome (get c.records name) × (Contains writes (Remove name) → ⊥)
  left_record [] c name may some = (some, λ h. none_in (Remove name) h)
  left_record (Put other bytes ∷ writes) c name may some = absurd (may_first (Put other bytes) writes may)
  left_record (Remove other ∷ writes) c name may some =
      let rest = left_record writes (done (Remove other) c) name (may_rest (Remove other) writes may) some in
      ⊎_elim
      (λ same. absurd (some_not_None (get (remove c.records other) name) rest.0
      (ap (get (remove c.records other)) same ∙ taken_at c.records other)))
      (λ apart. (
        subst IsSome (taken_other c.records other name apart) rest.0,
        λ h. ⊎_elim (λ e. apart (sym (remove_tells other name e))) rest.1 (in_first (Remove other) writes (Remove name) h),
      ))
      (same_or_apart name other)
  left_record (RemoveLeaf tree ∷ writes) c name may some =
      let rest = left_record writes (done (RemoveLeaf tree) c) name (may_rest (RemoveLeaf tree) writes may) some in (
        rest.0,
        λ h. ⊎_elim (λ e. record_not_leaf name tree (sym e)) rest.1 (in_first (RemoveLeaf tree) writes (Remove name) h),
      )

  -- and so a leaf
  left_leaf : (writes : List Write) (c : Contents) (tree : ℕ) → MayAllGo lost account stored writes
      → IsSome (get (after writes c).leaves tree) → IsSome (get c.leaves tree) × (Contains writes (RemoveLeaf tree) → ⊥)
  left_leaf [] c tree may some = (some, λ h. none_in (RemoveLeaf tree) h)
  left_leaf (Put other bytes ∷ writes) c tree may some = absurd (may_first (Put other bytes) writes may)
  left_leaf (Remove other ∷ writes) c tree may some =
      let rest = left_leaf writes (done (Remove other) c) tree (may_rest (Remove other) writes may) some in (
        rest.0,
        λ h. ⊎_elim (λ e. record_not_leaf other tree e) rest.1 (in_first (Remove other) writes (RemoveLeaf tree) h),
      )
  left_leaf (RemoveLeaf other ∷ writes) c tree may some =
      let rest = left_leaf writes (done (RemoveLeaf other) c) tree (may_rest (RemoveLeaf other) writes may) some in
      ⊎_elim
      (λ same. absurd (some_not_None (get (remove c.leaves other) tree) rest.0
      (ap (get (remove c.leaves other)) same ∙ leaf_gone c.leaves other)))
      (λ apart. (
        subst IsSome (leaf_left c.leaves other tree apart) rest.0,
        λ h. ⊎_elim (λ e. apart (sym (remove_leaf_tells other tree e))) rest.1 (in_first (RemoveLeaf other) writes (RemoveLeaf tree) h),
      ))
      (number_cases tree other)

  doubt_after : (writes : List Write) (c : Contents) → (after writes c).doubt ≡ c.doubt
  doubt_after [] c = refl
  doubt_after (write ∷ writes) c = doubt_after writes (done write c) ∙ doubt_same write c

  module _ (plain : IsTrue (is_account_name account)) where
    -- what was read stays so along the removals
    pub read_along : (c : Contents) (writes : List Write) → MayAllGo lost account stored writes → IsReadOf c account stored
        → Along (λ c. IsReadOf c account stored) c writes
    read_along c [] may read = read
    read_along c (Put name bytes ∷ writes) may read = absurd (may_first (Put name bytes) writes may)
    read_along c (Remove name ∷ writes) may read = (
      read,
      read_along (done (Remove name) c) writes (may_rest (Remove name) writes may)
          (still_read lost account no_keys plain no_home stored c name read (may_first (Remove name) writes may).1),
    )
    read_along c (RemoveLeaf tree ∷ writes) may read = (
      read,
      read_along (done (RemoveLeaf tree) c) writes (may_rest (RemoveLeaf tree) writes may) (record { stash = read.stash; rows = read.rows }),
    )

    along_end : (P : Contents → Type 0) (c : Contents) (writes : List Write) → Along P c writes → P (after writes c)
    along_end P c [] h = h
    along_end P c (write ∷ writes) h = along_end P (done write c) writes h.1

    read_after : (c : Contents) (writes : List Write) → MayAllGo lost account stored writes → IsReadOf c account stored
        → IsReadOf (after writes c) account stored
    read_after c writes may read = along_end (λ c. IsReadOf c account stored) c writes (read_along c writes may read)

-- ---- a home without factors keeps no vault files

-- the home has factors or hasn't
has_or_not : (x : Option Stash) → IsSomeAnd x (λ stash. IsSome stash.payload) ⊎ (IsSomeAnd x (λ stash. IsSome stash.payload) → ⊥)
has_or_not None = inr (λ h. h)
has_or_not (Some stash) = some stash.payload
  where
    some : (o : Option Sealed) → IsSome o ⊎ (IsSome o → ⊥)
    some None = inr (λ h. true≢false (sym h))
    some (Some x) = inl refl

module _ (loaded stored : Stored) (trimmed : IsTrimmed loaded stored) where
  has_loaded : HasFactors stored → HasFactors loaded
  has_loaded h = subst (λ o. IsSomeAnd o (λ stash. IsSome stash.payload)) trimmed.stash h

  trimmed_same : HasFactors loaded → stored ≡ loaded
  trimmed_same has =
      let files = trimmed.some has in
      λ i. record { stash = trimmed.stash i; factors = trimmed.factors i; files = files i; lost = trimmed.lost i }

  no_files : (HasFactors loaded → ⊥) → (name : Bytes) → IsSome (get stored.files name) → ⊥
  no_files bare name some =
      some_not_None (get stored.files name) some (ap (λ (m : Filed). get m name) (trimmed.none bare) ∙ get-empty (slice_cmp nat_cmp) name)

  files_trimmed : (account : Bytes) → AreFiles account loaded → AreFiles account stored
  files_trimmed account files name some = ⊎_elim
      (λ has. files name (subst (λ (m : Filed). IsSome (get m name)) (trimmed.some has) some))
      (λ bare. absurd (no_files bare name some))
      (has_or_not loaded.stash)

  bounds_trimmed : (HasFactors loaded → KeepsBounds loaded) → HasFactors stored → KeepsBounds stored
  bounds_trimmed bounds has = subst KeepsBounds (sym (trimmed_same (has_loaded has))) (bounds (has_loaded has))

  pub coherent_trimmed : (account : Bytes) → IsCoherent account loaded → IsCoherent account stored
  coherent_trimmed account h = record {
    stash = subst (λ o. IfSome o (IsOwnStash account)) (sym trimmed.stash) h.stash;
    both = subst (λ o. IfSome o HasBoth) (sym trimmed.stash) h.both;
    rows = λ label. subst (λ o. Matches (FitsBlock label) (block_in o label) (get stored.factors label)) (sym trimmed.stash)
        (subst (λ (m : Rows). Matches (FitsBlock label) (block_in loaded.stash label) (get m label)) (sym trimmed.factors) (h.rows label));
    bounds = bounds_trimmed h.bounds;
    files = files_trimmed account h.files;
  }

  pub read_trimmed : (c : Contents) (account : Bytes) → IsLoaded c account loaded → IsReadOf c account stored
  read_trimmed c account h = record {
    stash = subst (HasStash c.records account) (sym trimmed.stash) h.stash;
    rows = λ label. subst (λ o. Matches (IsRowOf c.records account label) (block_in o label) (get stored.factors label)) (sym trimmed.stash)
        (subst (λ (m : Rows). Matches (IsRowOf c.records account label) (block_in loaded.stash label) (get m label)) (sym trimmed.factors) (h.rows label));
  }

-- ---- the whole

-- The names listed of contents were gone through, and all removals done: what is loaded is there and nothing else.
module _ (lost : Bool) (account : Bytes) (plain : IsTrue (is_account_name account)) (c : Contents) (clear : c.doubt ≡ None)
    (names listed : List Bytes) (labels : List ℕ) (are : AreListed names labels listed) (names_are : names ≡ keys c.records)
    (labels_are : labels ≡ keys c.leaves) (loaded stored : Stored) (sound : IsSoundHome lost c account loaded)
    (trimmed : IsTrimmed loaded stored) (writes : List Write) (may : MayAllGo lost account stored writes)
    (swept : (name : Bytes) → Contains listed name → IsSwept lost account stored writes name) where
  end : Contents
  end = after writes c

  -- each record and each leaf is listed
  listed_in : (name : Bytes) → IsSome (get c.records name) → Contains listed name
  listed_in name some = Contains-permutation (names ++ map (leaf_name are.account) labels) listed name are.all
      (Contains-append_left names (map (leaf_name are.account) labels) name
      (subst (λ (xs : List Bytes). Contains xs name) (sym names_are) (in_keys c.records name some)))

  leaf_listed : (tree : ℕ) → IsSome (get c.leaves tree) → Contains listed (leaf_name are.account tree)
  leaf_listed tree some =
      Contains-permutation (names ++ map (leaf_name are.account) labels) listed (leaf_name are.account tree) are.all
      (Contains-append_right names (map (leaf_name are.account) labels) (leaf_name are.account tree)
      (in_map (leaf_name are.account) labels tree (subst (λ (xs : List ℕ). Contains xs tree) (sym labels_are) (leaf_key c.leaves tree some))))

  -- what stays is named
  is_named : (name : Bytes) → IsSome (get c.records name) → Stays account stored name → IsNamed account stored name
  is_named name some (inl e) = inl e
  is_named name some (inr (inl row)) = inr (inl row)
  is_named name some (inr (inr file)) =
      let has = has_loaded loaded stored trimmed file.0 in
      let there : IsSome (get loaded.files file.1.0) =
      (sound.whole.is_loaded.files file.1.0 file.1.1).1 (subst (λ (n : Bytes). IsSome (get c.records n)) file.1.2 some) in
      inr (inr (
        file.0,
        (
          file.1.0,
          file.1.1,
          subst (λ (m : Filed). IsSome (get m file.1.0)) (sym (trimmed.some has)) there,
          file.1.2,
        ),
      ))

  tidy_records : (name : Bytes) → IsFiledName account name → IsSome (get (after writes c).records name) → IsNamed account stored name
  tidy_records name filed some =
      let left = left_record lost account stored writes c name may some in
      ⊎_elim (λ stays. is_named name left.0 stays) (λ gone. absurd (left.1 gone)) ((swept name (listed_in name left.0)).filed filed)

  tidy_leaves : lost ≡ false → (tree : ℕ) → IsSome (get (after writes c).leaves tree) → NamesTree stored tree
  tidy_leaves whole tree some =
      let left = left_leaf lost account stored writes c tree may some in
      ⊎_elim (λ names. names) (λ gone. absurd (left.1 gone))
      ((swept (leaf_name are.account tree) (leaf_listed tree left.0)).leaf whole are.account tree are.plain refl)

  files_are : (name : Bytes) → AreParts (File account name)
      → (IsSome (get stored.files name) → IsSome (get (after writes c).records (file_name account name)))
      × (IsSome (get (after writes c).records (file_name account name)) → IsSome (get stored.files name))
  files_are name parts = ⊎_elim
      (λ has.
      let same = untouched lost account stored writes c (file_name account name) may
      (λ loose. loose.not_file (subst (λ o. IsSomeAnd o (λ stash. IsSome stash.payload)) (sym trimmed.stash) has) name parts refl) in
      let files = sound.whole.is_loaded.files name parts in (
        λ some. subst IsSome (sym same) (files.0 (subst (λ (m : Filed). IsSome (get m name)) (trimmed.some has) some)),
        λ some. subst (λ (m : Filed). IsSome (get m name)) (sym (trimmed.some has)) (files.1 (subst IsSome same some)),
      ))
      (λ bare. (
        λ some. absurd (no_files loaded stored trimmed bare name some),
        λ some. absurd (no_record bare (tidy_records (file_name account name) (inr (inr (name, refl))) some)),
      ))
      (has_or_not loaded.stash)
    where
      no_record : (HasFactors loaded → ⊥) → IsNamed account stored (file_name account name) → ⊥
      no_record bare (inl e) = file_not_stash account plain name parts e
      no_record bare (inr (inl row)) = file_not_row account plain name row.0 row.1.edition row.3
      no_record bare (inr (inr file)) = bare (has_loaded loaded stored trimmed file.0)

  is_loaded : IsLoaded (after writes c) account stored
  is_loaded =
      let read = read_after lost account stored plain c writes may (read_trimmed loaded stored trimmed c account sound.whole.is_loaded) in
      record { stash = read.stash; rows = read.rows; files = files_are }

  pub kept_swept : IsKept lost (after writes c) account stored
  kept_swept = record {
    is_loaded = is_loaded;
    tidy = record { records = tidy_records; leaves = tidy_leaves };
    clear = doubt_after lost account stored writes c ∙ clear;
  }

  pub sound_swept : IsSoundHome lost (after writes c) account stored
  sound_swept = record {
    whole = record { is_loaded = is_loaded; named = files_trimmed loaded stored trimmed account sound.whole.named };
    stash = subst (λ o. IfSome o (IsOwnStash account)) (sym trimmed.stash) sound.stash;
    bounds = bounds_trimmed loaded stored trimmed sound.bounds;
    leaves = λ whole tree n. subst IsSome (sym (leaf_untouched lost account stored writes c tree may n))
        (sound.leaves whole tree (n.0, n.1, ap (λ (m : Rows). get m n.0) (sym trimmed.factors) ∙ n.2, n.3));
  }
