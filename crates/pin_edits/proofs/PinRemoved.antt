-- A PIN is removed: the stash is put without its block, and then its leaf and its record are removed.
use Rattle.std.proofs.Common.{◌≡◌, ℕ, List, [], ◌∷◌, Option, None, Some, Bool, false, refl, sym, ap, ◌∙◌, subst, inl, inr, ⊎_elim, true≢false}
use mathlib.Core.Logic.{dite}
use native.Mathlib.Decide.{ℕ_discrete}
use Rattle.std.specs.Prelude.{IsSome, IsSomeAnd, IsTrue, is_some, option_and_then}
use Rattle.std.specs.FinMap.{get, remove}
use Rattle.account_machine.specs.declared.factor.Kind.{Kind}
use Rattle.account_machine.specs.declared.factor.Kind.TheVariants.{Password, Pin}
use Rattle.account_machine.specs.declared.user.Durable.{Durable}
use Rattle.record_names.specs.Names.{is_account_name, stash_name, factor_name}
use Rattle.secret_stash.specs.Edits.{without_block}
use Rattle.share_api.specs.Contents.{Bytes, Contents, settled}
use Rattle.share_api.specs.Folds.{Throughout}
use Rattle.share_api.specs.Seen.{ShareSeen, Tries}
use Rattle.share_api.specs.Steps.{Does, Follows, done}
use Rattle.share_api.specs.declared.step.Op.{Op}
use Rattle.share_api.specs.declared.step.Op.TheVariants.{Do}
use Rattle.share_api.specs.declared.step.Step.{Step}
use Rattle.share_api.specs.declared.step.Write.{Write}
use Rattle.share_api.specs.declared.step.Write.TheVariants.{Put, Remove, RemoveLeaf}
use Rattle.stash_format.specs.declared.contents.Contents.{Contents as Stash}
use Rattle.stash_format.specs.Record.{stash_at}
use Rattle.factor_files.specs.declared.factor.FactorRecord.{FactorRecord}
use Rattle.factor_files.specs.Record.{IsFactor, LeafFits}
use Rattle.pw_types.specs.declared.era.Era.{Era}
use Rattle.stored_home.specs.Adding.{HoldsEither}
use Rattle.stored_home.specs.Bounds.{HasBounds}
use Rattle.stored_home.specs.Changes.{durable_without}
use Rattle.stored_home.specs.Holds.{Keys, HoldsBy, HasStash, HoldsUnder, record_at}
use Rattle.stored_home.specs.Coherent.{IsCoherent, FitsBlock}
use Rattle.stored_home.specs.Loaded.{IsKept, block_in}
use Rattle.stored_home.specs.Unnamed.{NamesNot}
use Rattle.stored_home.specs.declared.stored.Stored.{Stored}
use Rattle.stored_home.proofs.MapLemmas.{not_None, some_not_None, from_some, put_at, taken_at, taken_other, matched_right}
use Rattle.stored_home.proofs.LeafLemmas.{leaf_gone, leaf_left}
use Rattle.stored_home.proofs.ChangeLemmas.{factor_removed, removed_row_is_other, unnamed_leaf_taken}
use Rattle.stored_home.proofs.FrameLemmas.{other_removed}
use Rattle.stored_home.proofs.EditLemmas.{remove_pin_law}
use Rattle.home_edits.specs.Costs.{HasCost, PutsCost}
use Rattle.home_edits.specs.Edits.{Starts, Edits}
use Rattle.home_edits.specs.Removals.{RemovesFactor, KeepsPassword}
use Rattle.home_edits.proofs.CostLemmas.{Suited, costs_tried, stash_suits, removal_suits}
use Rattle.home_edits.proofs.Edited.{Suits, edits_tried}
use Rattle.home_edits.proofs.KeptLemmas.{held_by}
use Rattle.home_edits.proofs.LoadedFactors.{IsOfFactor, loaded_factor}
use Rattle.home_edits.proofs.FactorKept.{rest_kept}
use Rattle.home_edits.proofs.FactorRecords.{stash_others, stash_names, others_then, removed_stash, removed_names, removed_others}
use Rattle.pin_edits.specs.Writes.{IsStashWrite}
use Rattle.pin_edits.proofs.LeafNames.{leaf_unnamed}

module _ (account : Bytes) (plain : IsTrue (is_account_name account)) (stored : Stored) (stash : Stash)
    (is : stored.stash ≡ Some stash) (some : IsSome stash.payload) (label : Bytes) (row : FactorRecord)
    (at : get stored.factors label ≡ Some row) (tree : ℕ) (names : row.leaf ≡ Some tree) (stash_bytes : Bytes)
    (read : stash_at stash_bytes ≡ Some (without_block stash label)) where
  abbrev later_without : Stored
  later_without = record stored { stash = Some (without_block stash label); factors = remove stored.factors label }

  module _ (contents : Contents) (keys : Keys) (before next : Durable)
      (starts : Starts false account stored (RemovesFactor label) contents keys before next) where
    there : HasStash contents.records account (Some stash)
    there = subst (HasStash contents.records account) is starts.kept.is_loaded.stash

    held : HoldsBy false (settled contents) account before keys stash
    held = held_by false contents account keys before stash starts.holds there

    bounds : HasBounds (durable_without before label)
    bounds = subst HasBounds starts.asked.after_is starts.asked.bounds

    -- what the loaded record is of
    of : IsOfFactor false contents account keys before stash held label row
    of = loaded_factor false contents account stored keys before stash held label row starts.kept is at

    read_row : record_at contents.records account label of.factor.edition ≡ Some row
    read_row = ap (λ (n : ℕ). record_at contents.records account label n) (sym of.edition ∙ of.its.edition_is)
        ∙ of.its.read

    -- the contents with the stash, without the leaf, and without the record
    abbrev put : Contents
    put = done (Put (stash_name account) stash_bytes) contents

    abbrev without_leaf : Contents
    without_leaf = done (RemoveLeaf tree) put

    abbrev last : Contents
    last = done (Remove (factor_name account label row.edition)) without_leaf

    -- once the stash is put no record names the leaf
    unnamed : NamesNot put.records account (remove before.factors label) tree
    unnamed = leaf_unnamed false account keys contents before stash label of.factor row tree held of.held read_row names
        put.records (remove before.factors label) (stash_others account plain contents.records stash_bytes label)
        (λ q away. taken_other before.factors label q away)
        (λ n. not_None n.factor (sym n.there ∙ taken_at before.factors label))

    -- the record and the leaf gone, the rest is held
    rest_held : HoldsUnder false last account (durable_without before label) keys
    rest_held = subst (λ (n : ℕ). HoldsUnder false (done (Remove (factor_name account label n)) without_leaf) account
        (durable_without before label) keys)
        (sym of.edition)
        (other_removed false account keys plain without_leaf (durable_without before label)
        (factor_name account label of.factor.edition)
        (removed_row_is_other false account keys plain contents before stash label stash_bytes there held of.factor
        of.held without_leaf)
        (unnamed_leaf_taken false account keys put (durable_without before label) tree starts.kept.clear unnamed
        (factor_removed false account keys plain contents before stash label stash_bytes there held some bounds read)))

    -- it is loaded, and nothing else is there
    removed_kept : IsKept false last account later_without
    removed_kept = rest_kept false account contents last stored stash label starts.kept is held.sound
        (others_then account label contents.records put.records last.records
        (stash_others account plain contents.records stash_bytes label)
        (removed_others account label row.edition put.records plain of.labelled of.within)) starts.kept.clear some
        (ap (option_and_then stash_at) (removed_stash account label row.edition put.records
        ∙ put_at contents.records (stash_name account) stash_bytes) ∙ read)
        (λ q found.
        let left = removed_names account label row.edition put.records q found in ⊎_elim inl
        (λ was. inr (
          was,
          λ old here e. left.1 (e ∙ ap (λ (r : FactorRecord). factor_name account label r.edition)
              (from_some old row (sym here ∙ at))),
        ))
        (stash_names account plain contents.records stash_bytes q left.0))
        (λ found t leaf. dite (ℕ_discrete t tree)
        (λ same. absurd (some_not_None (get (remove contents.leaves tree) t) leaf
        (ap (get (remove contents.leaves tree)) same ∙ leaf_gone contents.leaves tree)))
        (λ apart. (
          subst IsSome (leaf_left contents.leaves tree t apart) leaf,
          λ old here e. apart (from_some t tree (sym e ∙ ap (λ (r : FactorRecord). r.leaf)
              (from_some old row (sym here ∙ at)) ∙ names)),
        )))

    -- whichever step failed, the durable part before or the one after it is held
    removed_throughout : (era : Era) (steps : List Step)
        → Follows (Put (stash_name account) stash_bytes ∷ RemoveLeaf tree
        ∷ Remove (factor_name account label row.edition) ∷ []) steps
        → Throughout (Does era) (HoldsEither false account keys before next) contents steps
    removed_throughout era steps follows =
        subst (λ (n : Durable). Throughout (Does era) (HoldsEither false account keys before n) contents steps)
        (sym starts.asked.after_is)
        (remove_pin_law era account keys contents before stash label of.factor row tree stash_bytes steps plain
        starts.kept.clear there held some of.held read_row names bounds read
        (subst (λ (n : ℕ). Follows (Put (stash_name account) stash_bytes ∷ RemoveLeaf tree
        ∷ Remove (factor_name account label n) ∷ []) steps) of.edition follows))

  -- what remove_pin asks and does
  pub remove_suits : (old : ShareSeen) (ok : Type 0) (later : Stored) → is_some old.lost ≡ false
      → (ok → later ≡ later_without)
      → Suits old account stored later
      (Put (stash_name account) stash_bytes ∷ RemoveLeaf tree ∷ Remove (factor_name account label row.edition) ∷ []) ok
      (RemovesFactor label)
  remove_suits old ok later found is_later = record {
    throughout = λ contents keys before next steps starts follows.
        subst (λ (lost : Bool). Throughout (Does old.era) (HoldsEither lost account keys before next) contents steps)
        (sym found)
        (removed_throughout contents keys before next (at_false contents keys before next starts) old.era steps
        follows);
    last = λ o contents keys before next starts.
        let begun = at_false contents keys before next starts in
        let end = done (Remove (factor_name account label row.edition)) (done (RemoveLeaf tree)
        (done (Put (stash_name account) stash_bytes) contents)) in (
          subst (λ (lost : Bool). HoldsUnder lost end account next keys) (sym found)
              (subst (λ (n : Durable). HoldsUnder false end account n keys) (sym starts.asked.after_is)
              (rest_held contents keys before next begun)),
          subst (λ (lost : Bool). IsKept lost end account later) (sym found)
              (subst (IsKept false end account) (sym (is_later o)) (removed_kept contents keys before next begun)),
        );
  }
    where
      at_false : (contents : Contents) (keys : Keys) (before next : Durable)
          → Starts (is_some old.lost) account stored (RemovesFactor label) contents keys before next
          → Starts false account stored (RemovesFactor label) contents keys before next
      at_false contents keys before next starts = subst (λ (lost : Bool). Starts lost account stored (RemovesFactor label)
          contents keys before next) found starts

-- remove_pin, whichever way its steps ended
pub remove_edits : (old new : ShareSeen) (account : Bytes) (stored later : Stored) (stash : Stash) (row : FactorRecord)
    (tree : ℕ) (ok failed went err : Type 0) (label : Bytes) (stash_put leaf name : Write)
    → IsTrue (is_account_name account) → is_some old.lost ≡ false → stored.stash ≡ Some stash → IsSome stash.payload
    → get stored.factors label ≡ Some row → row.leaf ≡ Some tree
    → IsStashWrite account (without_block stash label) stash_put → leaf ≡ RemoveLeaf tree
    → name ≡ Remove (factor_name account label row.edition)
    → (ok → later ≡ record stored { stash = Some (without_block stash label); factors = remove stored.factors label })
    → Tries old new (stash_put ∷ leaf ∷ name ∷ []) went err → (ok → went) → (failed → err)
    → Edits old new account stored later ok failed (RemovesFactor label)
remove_edits old new account stored later stash row tree ok failed went err label stash_put leaf name plain found is some at
    names are leaf_is name_is is_later tried goes fails =
    edits_tried old new account stored later ok failed went err (RemovesFactor label)
    (Put (stash_name account) are.bytes) (RemoveLeaf tree ∷ Remove (factor_name account label row.edition) ∷ [])
    (subst (λ (w : Write × Write × Write). Tries old new (w.0 ∷ w.1 ∷ w.2 ∷ []) went err)
    (λ i. (are.write_is i, leaf_is i, name_is i)) tried) goes fails
    (remove_suits account plain stored stash is some label row at tree names are.bytes are.read old ok later found
    is_later)

-- the removals of a leaf and of a record put no factor's record
pub leaf_removal_suits : (account : Bytes) (tree cost : ℕ) → Suited (HasCost account cost) (RemoveLeaf tree)
leaf_removal_suits account tree cost step op label edition other found same there =
    let both : ◌≡◌ {A = Op} (Do (RemoveLeaf tree)) (Do (Put (factor_name account label edition) other)) = sym op ∙ same in
    absurd (cc both)

pub removal_costs : (old new : ShareSeen) (account : Bytes) (cost : ℕ) (stash : Stash) (stash_put leaf name : Write) (tree : ℕ)
    (record_name : Bytes) (went err : Type 0)
    → IsStashWrite account stash stash_put → leaf ≡ RemoveLeaf tree → name ≡ Remove record_name
    → Tries old new (stash_put ∷ leaf ∷ name ∷ []) went err → PutsCost old new account cost
removal_costs old new account cost stash stash_put leaf name tree record_name went err are leaf_is name_is tried =
    costs_tried old new account cost
    (Put (stash_name account) are.bytes ∷ RemoveLeaf tree ∷ Remove record_name ∷ []) went err
    (subst (λ (w : Write × Write × Write). Tries old new (w.0 ∷ w.1 ∷ w.2 ∷ []) went err)
    (λ i. (are.write_is i, leaf_is i, name_is i)) tried) (
      stash_suits account (stash_name account) are.bytes cost refl,
      (leaf_removal_suits account tree cost, (removal_suits account record_name cost, tt)),
    )

-- in a home that fits together another factor than a PIN is a password
pub keeps_password : (account : Bytes) (stored : Stored) → IsCoherent account stored → (stash : Stash)
    → stored.stash ≡ Some stash → IsSome stash.payload → (label : Bytes) (row : FactorRecord)
    → get stored.factors label ≡ Some row → IsSome row.leaf → KeepsPassword label stored.factors
keeps_password account stored was stash is some label row at leaf =
    let b = was.bounds (subst (λ x. IsSomeAnd x (λ (s : Stash). IsSome s.payload)) (sym is) some) in
    record {
      other = b.label;
      row = b.row;
      apart = λ same. no_leaf b.row (plain b.label b.row b.there).leaf b.is_password
          (subst (λ (r : FactorRecord). IsSome r.leaf)
          (from_some row b.row (sym at ∙ ap (get stored.factors) (sym same) ∙ b.there)) leaf);
      there = b.there;
      is_password = b.is_password;
    }
  where
    plain : (q : Bytes) (r : FactorRecord) → get stored.factors q ≡ Some r → IsFactor r
    plain q r there = (matched_right (FitsBlock q) (block_in stored.stash q) (get stored.factors q) r there
        (was.rows q)).2.plain

    by : (kind : Kind) (leaf : Option ℕ) → LeafFits kind leaf → kind ≡ Password → IsSome leaf → ⊥
    by Password None fits is there = true≢false (sym there)
    by Password (Some tree) fits is there = fits
    by Pin leaf fits is there = cc is

    no_leaf : (r : FactorRecord) → LeafFits r.kind r.leaf → r.kind ≡ Password → IsSome r.leaf → ⊥
    no_leaf r fits is there = by r.kind r.leaf fits is there
