-- Removals of what a loaded state doesn't name change nothing that is held.
use Rattle.std.proofs.Common.{◌≡◌, ℕ, List, [], ◌∷◌, Option, None, Some, Bool, refl, sym, ap, ◌∙◌, subst, inl, inr, ⊎_elim, ◌⊎◌}
use Rattle.std.specs.Prelude.{IsSome, IsTrue, IsSomeAnd, option_and_then}
use Rattle.std.specs.Ordering.{nat_cmp}
use Rattle.std.specs.Cmp.Lexicographic.{slice_cmp}
use Rattle.std.specs.FinMap.{get, get-empty}
use Rattle.account_machine.specs.declared.factor.Factor.{Factor}
use Rattle.account_machine.specs.declared.user.Durable.{Durable}
use Rattle.pw_types.specs.declared.era.Era.{Era}
use Rattle.record_names.specs.Names.{is_account_name, stash_name, factor_name}
use Rattle.share_api.specs.Contents.{Bytes, Contents, settled}
use Rattle.share_api.specs.Folds.{Throughout}
use Rattle.share_api.specs.Steps.{Does, Follows, Along, done}
use Rattle.share_api.specs.declared.step.Step.{Step}
use Rattle.share_api.specs.declared.step.Write.{Write}
use Rattle.share_api.specs.declared.step.Write.TheVariants.{Put, Remove, RemoveLeaf}
use Rattle.share_api.proofs.StepLaws.{throughout_follows}
use Rattle.stash_format.specs.declared.block.Block.{Block}
use Rattle.stash_format.specs.declared.contents.Contents.{Contents as Stash}
use Rattle.stash_format.specs.Record.{stash_at}
use Rattle.factor_files.specs.declared.factor.FactorRecord.{FactorRecord}
use Rattle.factor_files.specs.Record.{factor_at}
use Rattle.stored_home.specs.Holds.{Keys, HasStash, HoldsStash, HoldsBy, HoldsUnder, IsBlockOf, record_at}
use Rattle.stored_home.specs.Loaded.{IsRowOf, block_in, HasFactors, NamesTree}
use Rattle.stored_home.specs.Matching.{Matches}
use Rattle.stored_home.specs.Unnamed.{NamesNot}
use Rattle.stored_home.specs.declared.stored.Stored.{Stored}
use Rattle.stored_home.proofs.MapLemmas.{matches_weaker, matched_right, taken_other, from_some, not_None, some_not_None}
use Rattle.stored_home.proofs.FrameLemmas.{same_stash, other_removed}
use Rattle.stored_home.proofs.ChangeLemmas.{unnamed_leaf_taken}
use Rattle.home_recovery.specs.Loose.{IsReadOf, IsLoose, RemovesLoose}

-- where the other is there the one is
pub matched_left : {A B : Type 0} (R : A → B → Type 0) (x : Option A) (y : Option B) (a : A)
    → x ≡ Some a → Matches R x y → (b : B) × (y ≡ Some b) × R a b
matched_left R x None a p h = absurd (subst (λ u. Matches R u None) p h)
matched_left R x (Some b) a p h = (b, refl, subst (λ u. Matches R u (Some b)) p h)

-- a payload is there or isn't
some_or_none : {X : Type 0} (o : Option X) → IsSome o ⊎ (o ≡ None)
some_or_none None = inr refl
some_or_none (Some x) = inl refl

-- the home has factors where its stash has a payload
has_factors_of : (loaded : Stored) (stash : Stash) → loaded.stash ≡ Some stash → IsSome stash.payload → HasFactors loaded
has_factors_of loaded stash is some = subst (λ o. IsSomeAnd o (λ s. IsSome s.payload)) (sym is) some

module _ (lost : Bool) (account : Bytes) (keys : Keys) (plain : IsTrue (is_account_name account)) (durable : Durable)
    (loaded : Stored) where
  -- a factor's record is that of its label
  pub record FactorNamed (contents : Contents) (label : Bytes) (factor : Factor) : Type 0 where
    pub row : FactorRecord
    pub there : get loaded.factors label ≡ Some row
    pub edition : row.edition ≡ factor.edition
    pub read : record_at contents.records account label factor.edition ≡ Some row

  factor_named_by : (contents : Contents) (label : Bytes) (factor : Factor) (stash : Option Stash)
      → IsReadOf contents account loaded → loaded.stash ≡ stash → HoldsStash lost (settled contents) account durable keys stash
      → get durable.factors label ≡ Some factor → FactorNamed contents label factor
  factor_named_by contents label factor None read is holds there =
      absurd (not_None factor (sym there ∙ ap (λ (d : Durable). get d.factors label) holds ∙ get-empty (slice_cmp nat_cmp) label))
  factor_named_by contents label factor (Some stash) read is holds there =
      let block = matched_right (IsBlockOf lost contents.records (settled contents).leaves account keys.main holds.resets label)
      (get stash.blocks label) (get durable.factors label) factor there (holds.blocks label) in
      let rows : Matches (IsRowOf contents.records account label) (get stash.blocks label) (get loaded.factors label) =
      subst (λ o. Matches (IsRowOf contents.records account label) (block_in o label) (get loaded.factors label)) is (read.rows label) in
      let row = matched_left (IsRowOf contents.records account label) (get stash.blocks label) (get loaded.factors label) block.0 block.1 rows in
      record {
        row = row.0;
        there = row.1;
        edition = row.2.edition_is ∙ block.2.edition;
        read = subst (λ (n : ℕ). record_at contents.records account label n ≡ Some row.0) block.2.edition row.2.read;
      }

  factor_named : (contents : Contents) (label : Bytes) (factor : Factor) → IsReadOf contents account loaded
      → HoldsUnder lost contents account durable keys → get durable.factors label ≡ Some factor → FactorNamed contents label factor
  factor_named contents label factor read h there =
      factor_named_by contents label factor h.stash read (same_stash contents.records account loaded.stash h.stash read.stash h.there) h.holds there

  -- no factor's record names a leaf that isn't named
  leaf_unnamed : (contents : Contents) (tree : ℕ) → IsReadOf contents account loaded → HoldsUnder lost contents account durable keys
      → (NamesTree loaded tree → ⊥) → NamesNot contents.records account durable.factors tree
  leaf_unnamed contents tree read h none label n =
      let named = factor_named contents label n.factor read h n.there in
      let same : named.row ≡ n.row = from_some named.row n.row (sym named.read ∙ n.read) in
      none (label, named.row, named.there, ap (λ (r : FactorRecord). r.leaf) same ∙ n.names)

  -- the stash and the records stay read
  pub still_read : (contents : Contents) (name : Bytes) → IsReadOf contents account loaded → IsLoose account loaded name
      → IsReadOf (done (Remove name) contents) account loaded
  still_read contents name read loose = record {
    stash = stash_stays loaded.stash read.stash;
    rows = λ label. row_stays label (get loaded.factors label) refl (read.rows label);
  }
    where
      stash_stays : (x : Option Stash) → HasStash contents.records account x → HasStash (done (Remove name) contents).records account x
      stash_stays None there = taken_other contents.records name (stash_name account) loose.not_stash ∙ there
      stash_stays (Some stash) there =
          ap (option_and_then stash_at) (taken_other contents.records name (stash_name account) loose.not_stash) ∙ there

      row_stays : (label : Bytes) (y : Option FactorRecord) → get loaded.factors label ≡ y
          → Matches (IsRowOf contents.records account label) (block_in loaded.stash label) y
          → Matches (IsRowOf (done (Remove name) contents).records account label) (block_in loaded.stash label) y
      row_stays label y is h = matches_weaker (IsRowOf contents.records account label)
          (IsRowOf (done (Remove name) contents).records account label) (block_in loaded.stash label) y
          (λ block row x e r. record {
            label_is = r.label_is;
            edition_is = r.edition_is;
            read = ap (option_and_then factor_at) (taken_other contents.records name (factor_name account label block.edition)
                (λ same. loose.not_row label row (is ∙ e) (ap (factor_name account label) r.edition_is ∙ same))) ∙ r.read;
          }) h

  -- a home without factors needs its stash alone
  bare_moved : (old new : Contents) (stash : Stash) → stash.payload ≡ None → HoldsBy lost old account durable keys stash
      → HoldsBy lost new account durable keys stash
  bare_moved old new stash none h = record {
    made = h.made;
    account_is = h.account_is;
    next = h.next;
    sound = h.sound;
    resets = h.resets;
    blocks = λ label. matches_weaker (IsBlockOf lost old.records old.leaves account keys.main h.resets label)
        (IsBlockOf lost new.records new.leaves account keys.main h.resets label) (get stash.blocks label) (get durable.factors label)
        (λ block factor x y b. absurd (no_block label block x)) (h.blocks label);
    apart = λ one two tree p q.
        let block = matched_right (IsBlockOf lost old.records old.leaves account keys.main h.resets one)
        (get stash.blocks one) (get durable.factors one) p.factor p.there (h.blocks one) in
        absurd (no_block one block.0 block.1);
    bare = h.bare;
    bounds = λ some. absurd (some_not_None stash.payload some none);
    payload = λ some. absurd (some_not_None stash.payload some none);
    files = λ some. absurd (some_not_None stash.payload some none);
  }
    where
      no_block : (label : Bytes) (block : Block) → get stash.blocks label ≡ Some block → ⊥
      no_block label block x = not_None block (sym x ∙ ap (λ (m : Rattle.stash_format.specs.Blocks.Blocks). get m label) (h.bare none).0
          ∙ get-empty (slice_cmp nat_cmp) label)

  -- the removal of a record that isn't named
  pub loose_removed : (contents : Contents) (name : Bytes) → IsReadOf contents account loaded → IsLoose account loaded name
      → HoldsUnder lost contents account durable keys → HoldsUnder lost (done (Remove name) contents) account durable keys
  loose_removed contents name read loose h =
      by_stash loaded.stash refl (subst (λ x. HoldsStash lost (settled contents) account durable keys x)
      (sym (same_stash contents.records account loaded.stash h.stash read.stash h.there)) h.holds)
    where
      with_factors : HasFactors loaded → HoldsUnder lost (done (Remove name) contents) account durable keys
      with_factors some = other_removed lost account keys plain contents durable name (record {
        not_stash = λ e. loose.not_stash (sym e);
        not_row = λ stash there label factor is labelled below within same.
            let named = factor_named contents label factor read h is in
            loose.not_row label named.row named.there (ap (factor_name account label) named.edition ∙ same);
        not_file = λ file are. loose.not_file some file are;
      }) h

      by_stash : (x : Option Stash) → loaded.stash ≡ x → HoldsStash lost (settled contents) account durable keys loaded.stash
          → HoldsUnder lost (done (Remove name) contents) account durable keys
      by_stash None is holds = record {
        stash = None;
        there = subst (λ x. HasStash (done (Remove name) contents).records account x) is (still_read contents name read loose).stash;
        holds = subst (λ x. HoldsStash lost (settled contents) account durable keys x) is holds;
      }
      by_stash (Some stash) is holds = ⊎_elim
          (λ some. with_factors (has_factors_of loaded stash is some))
          (λ none. record {
            stash = Some stash;
            there = subst (λ x. HasStash (done (Remove name) contents).records account x) is (still_read contents name read loose).stash;
            holds = bare_moved (settled contents) (settled (done (Remove name) contents)) stash none
                (subst (λ x. HoldsStash lost (settled contents) account durable keys x) is holds);
          })
          (some_or_none stash.payload)

  -- removals of what isn't named, one after another
  along_loose : (contents : Contents) (writes : List Write) → contents.doubt ≡ None → IsReadOf contents account loaded
      → RemovesLoose account loaded writes → HoldsUnder lost contents account durable keys
      → Along (λ c. HoldsUnder lost c account durable keys) contents writes
  along_loose contents [] clear read loose h = h
  along_loose contents (Put name bytes ∷ writes) clear read loose h = absurd loose
  along_loose contents (Remove name ∷ writes) clear read loose h = (
    h,
    along_loose (done (Remove name) contents) writes clear (still_read contents name read loose.0) loose.1
        (loose_removed contents name read loose.0 h),
  )
  along_loose contents (RemoveLeaf tree ∷ writes) clear read loose h = (
    h,
    along_loose (done (RemoveLeaf tree) contents) writes clear (record { stash = read.stash; rows = read.rows }) loose.1
        (unnamed_leaf_taken lost account keys contents durable tree clear (leaf_unnamed contents tree read h loose.0) h),
  )

  -- whichever of them fails, what is held stays so
  pub removals_keep : (era : Era) (contents : Contents) (writes : List Write) (steps : List Step) → contents.doubt ≡ None
      → IsReadOf contents account loaded → RemovesLoose account loaded writes → Follows writes steps
      → HoldsUnder lost contents account durable keys
      → Throughout (Does era) (λ c. HoldsUnder lost c account durable keys) contents steps
  removals_keep era contents writes steps clear read loose follows h =
      throughout_follows era contents writes steps (λ c. HoldsUnder lost c account durable keys) clear
      (along_loose contents writes clear read loose h) follows
