-- A loaded PIN, and what is held of it.
use Rattle.std.proofs.Common.{◌≡◌, ◌≢◌, ◌≤◌, ℕ, Bool, false, None, Some, sym, ap, ◌∙◌, subst, ◌⊎◌, inl, inr, is_some}
use mathlib.Core.Logic.{dite}
use native.Mathlib.Decide.{ℕ_discrete}
use Rattle.std.specs.Prelude.{IfSome, IsSome, IsSomeAnd, IsTrue, option_map}
use Rattle.std.specs.FinMap.{get, insert}
use Rattle.account_machine.specs.Effect.{cleared}
use Rattle.account_machine.specs.declared.factor.Factor.{Factor}
use Rattle.account_machine.specs.declared.factor.Kind.TheVariants.{Pin}
use Rattle.account_machine.specs.declared.user.Durable.{Durable}
use Rattle.account_machine.specs.declared.user.User.{User}
use Rattle.factor_files.specs.declared.factor.FactorRecord.{FactorRecord}
use Rattle.pin_edits.proofs.PinCounted.{HoldsPin, pin_held}
use Rattle.share_api.specs.Contents.{Bytes, Contents, Records}
use Rattle.share_api.specs.Steps as steps
use Rattle.share_api.specs.declared.leaf.LeafView.{LeafView}
use Rattle.stash_format.specs.Kept.{HasBoth}
use Rattle.stash_format.specs.declared.block.Block.{Block}
use Rattle.stash_format.specs.declared.contents.Contents.{Contents as Stash}
use Rattle.record_names.specs.Names.{is_factor_label}
use Rattle.stored_home.specs.Changes.{durable_set}
use Rattle.stored_home.specs.Coherent.{FitsBlock}
use Rattle.stored_home.specs.Holds.{Keys, HoldsUnder, record_at}
use Rattle.stored_home.specs.Loaded.{IsKept, HasFactors}
use Rattle.stored_home.proofs.MapLemmas.{from_some, put_same, some_is}
use Rattle.user_state.specs.Fits.{Fits, TellsLeaf, is_lost, view_of}
use Rattle.user_state.specs.Sound.{IsSound}
use Rattle.user_state.specs.declared.state.UserState.{UserState}
use Rattle.turn_rows.specs.Due.{IsReady}
use Rattle.turn_rows.proofs.Quiet.{settled_now}
use Rattle.turn_edits.proofs.Factors.{block_of, payload_there, is_labelled}
use Rattle.turn_pins.proofs.Removing.{leaf_there}

-- ---- whatever the contents are

module _ (before : UserState) (sound : IsSound before) (stash : Stash) (is : before.stored.stash ≡ Some stash)
    (label : Bytes) (row : FactorRecord) (at : get before.stored.factors label ≡ Some row) (pin : row.kind ≡ Pin) where
  pub home_there : HasFactors before.stored
  home_there = subst (λ o. IsSomeAnd o (λ (s : Stash). IsSome s.payload)) (sym is)
      (payload_there before.account before.stored sound.coherent stash is label row at)

  pub label_is : IsTrue (is_factor_label label)
  label_is = is_labelled before.account before.stored sound.coherent stash is label row at

  pub its_block : (block : Block) × (get stash.blocks label ≡ Some block) × FitsBlock label block row
  its_block = block_of before.account before.stored sound.coherent stash is label row at

  pub leaf_some : IsSome row.leaf
  leaf_some = leaf_there row.kind row.leaf pin its_block.2.plain.leaf

  pub its_tree : (tree : ℕ) × (row.leaf ≡ Some tree)
  its_tree = some_is row.leaf leaf_some

  pub leaf_known : IsSomeAnd (get before.stored.factors label) (λ (r : FactorRecord). IsSome r.leaf)
  leaf_known = subst (λ o. IsSomeAnd o (λ (r : FactorRecord). IsSome r.leaf)) (sym at) leaf_some

  -- its block and its record, as a try needs them
  pub block_both : IsSomeAnd before.stored.stash (λ (s : Stash). HasBoth s × IsSome (get s.blocks label))
  block_both = subst (λ o. IsSomeAnd o (λ (s : Stash). HasBoth s × IsSome (get s.blocks label))) (sym is) (
    subst (λ o. IfSome o HasBoth) is sound.coherent.both,
    ap is_some its_block.1,
  )

  pub row_known : IsSomeAnd (get before.stored.factors label)
      (λ (r : FactorRecord). IsSome r.leaf × (1 ≤ r.cost) × (r.cost ≤ 16))
  row_known = subst (λ o. IsSomeAnd o (λ (r : FactorRecord). IsSome r.leaf × (1 ≤ r.cost) × (r.cost ≤ 16))) (sym at)
      (leaf_some, its_block.2.plain.cost, its_block.2.plain.most)

-- ---- over contents

-- a factor that is set back is as before, or shows something else
pub cleared_apart : (durable : Durable) (label : Bytes) (factor : Factor) → get durable.factors label ≡ Some factor
    → (durable ≡ durable_set durable label (cleared factor)) ⊎ (view_of (cleared factor) ≢ view_of factor)
cleared_apart durable label factor there =
    dite (ℕ_discrete factor.wrong 0)
    (λ wrong. dite (ℕ_discrete factor.stamp.boot 0)
    (λ boot. dite (ℕ_discrete factor.stamp.at 0)
    (λ at. let same : cleared factor ≡ factor = λ i. record factor {
      wrong = sym wrong i;
      stamp = record { boot = sym boot i; at = sym at i };
    } in
    inl (λ i. record durable {
      factors = sym (ap (λ (f : Factor). insert durable.factors label f) same
          ∙ put_same durable.factors label factor there) i;
    }))
    (λ apart. inr (λ e. apart (sym (ap (λ (v : LeafView). v.last.at) e)))))
    (λ apart. inr (λ e. apart (sym (ap (λ (v : LeafView). v.last.boot) e)))))
    (λ apart. inr (λ e. apart (sym (ap (λ (v : LeafView). v.wrong) e))))

module _ (before : UserState) (ready : IsReady before) (whole : before.stored.lost ≡ None) (label : Bytes)
    (row : FactorRecord) (at : get before.stored.factors label ≡ Some row) (tree : ℕ) (names : row.leaf ≡ Some tree)
    (contents : Contents) (user : User) (keys : Keys) (fits : Fits before contents user keys)
    (holds : HoldsUnder (is_lost before) contents before.account user.durable keys) where
  pub tree_found : is_lost before ≡ false
  tree_found = ap is_some whole

  pub holds_found : HoldsUnder false contents before.account user.durable keys
  holds_found = subst (λ (l : Bool). HoldsUnder l contents before.account user.durable keys) tree_found holds

  pub kept_found : IsKept false contents before.account before.stored
  kept_found = subst (λ (l : Bool). IsKept l contents before.account before.stored) tree_found
      (settled_now before ready contents user keys fits).kept

  -- the PIN is held, with its leaf
  pub its_pin : HoldsPin before.account before.stored label row tree contents keys user.durable
  its_pin = pin_held before.account before.stored label row at tree names contents keys user.durable holds_found
      kept_found

  -- what the leaf shows is what the factor has
  pub shown : (view : LeafView) → Some view ≡ option_map steps.view_of (get contents.leaves tree)
      → view ≡ view_of its_pin.pin.of.factor
  shown view e =
      from_some view (steps.view_of its_pin.pin.leaf) (e ∙ ap (option_map steps.view_of) its_pin.pin.found)
      ∙ (λ i. record {
        wrong = its_pin.pin.own.wrong i;
        last = its_pin.pin.own.last i;
        schedule = its_pin.pin.own.schedule i;
      })

  -- and tells another factor from it
  pub leaf_tells : (view : LeafView) → Some view ≡ option_map steps.view_of (get contents.leaves tree)
      → (end : Contents) → end.records ≡ contents.records → (later : Factor) → later.kind ≡ Pin
      → later.edition ≡ its_pin.pin.of.factor.edition → (other : Durable) → get other.factors label ≡ Some later
      → (user.durable ≡ other) ⊎ (view_of later ≢ view_of its_pin.pin.of.factor)
      → TellsLeaf before.account label tree view end user.durable other
  leaf_tells view e end same later is_pin edition other there apart = record {
    factor = its_pin.pin.of.factor;
    later = later;
    there = its_pin.pin.of.held;
    later_there = there;
    is_pin = its_pin.pin.is_pin;
    later_is_pin = is_pin;
    edition = edition;
    names = subst (λ o. IfSome o (λ (r : FactorRecord). r.leaf ≡ Some tree))
        (sym (ap (λ (r : Records). record_at r before.account label its_pin.pin.of.factor.edition) same
        ∙ its_pin.pin.read)) names;
    view_is = shown view e;
    apart = subst (λ v. (user.durable ≡ other) ⊎ (view_of later ≢ v)) (sym (shown view e)) apart;
  }
