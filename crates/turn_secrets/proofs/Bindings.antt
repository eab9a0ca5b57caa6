-- A password's block is sealed anew, and what is loaded still fits together.
use Rattle.std.proofs.Common.{◌≡◌, ◌⊎◌, ℕ, ◌<◌, [], false, Option, None, Some, Result, Ok, Err, IsOk, OnOk, OnErr, refl, sym, ap, ◌∙◌, subst, inl, inr, ⊎_elim, take, true≢false, arith, Bool, true}
use Rattle.std.specs.Prelude.{IsTrue, IsSome, IsSomeAnd, IfSome, is_some}
use Rattle.std.specs.Ordering.{nat_cmp}
use Rattle.std.specs.Cmp.Lexicographic.{slice_cmp}
use Rattle.std.specs.FinMap.{get, insert, get-empty}
use Rattle.account_machine.specs.declared.factor.Kind.{Kind}
use Rattle.account_machine.specs.declared.factor.Kind.TheVariants.{Password}
use Rattle.factor_files.specs.Record.{LeafFits}
use Rattle.factor_files.specs.declared.factor.FactorRecord.{FactorRecord}
use Rattle.home_edits.specs.Edits.{Edits}
use Rattle.home_edits.specs.Reseals.{TakesReseal, Reseals, KeepsResealed, with_resealed}
use Rattle.home_edits.proofs.StashLemmas.{both_sealed}
use Rattle.random_values.specs.Stretches.{Place, moved}
use Rattle.record_names.specs.Names.{is_factor_label}
use Rattle.sealed_text.specs.declared.sealed.Sealed.{Sealed}
use Rattle.secret_stash.specs.Keys.{new_block}
use Rattle.share_api.specs.Contents.{Bytes}
use Rattle.share_api.specs.Seen.{ShareSeen}
use Rattle.share_api.specs.Steps.{Does}
use Rattle.share_api.proofs.FoldLaws.{throughout_weaker}
use Rattle.share_api.proofs.RunLaws.{runs_none}
use Rattle.stash_format.specs.Kept.{HasRows, HasBoth}
use Rattle.stash_format.specs.declared.block.Block.{Block}
use Rattle.stash_format.specs.declared.block.Form.{Form}
use Rattle.stash_format.specs.declared.block.Form.TheVariants.{Plain, Bound}
use Rattle.stored_home.specs.Adding.{HoldsEither}
use Rattle.stored_home.specs.Coherent.{IsCoherent, IsOwnStash, FitsBlock}
use Rattle.stored_home.specs.Holds.{HoldsUnder}
use Rattle.stored_home.specs.Loaded.{IsKept, block_in}
use Rattle.stored_home.specs.Matching.{Matches}
use Rattle.stored_home.specs.declared.fault.StoreFault.{StoreFault}
use Rattle.stored_home.specs.declared.stored.Stored.{Stored}
use Rattle.stored_home.proofs.MapLemmas.{same_or_apart, put_at, put_other, not_None}
use Rattle.turn_secrets.specs.Binding.{is_plain_form, is_unbound, next_iv, drawn_by, LoadsBound, IsBoundAt, Binds}
use Rattle.turn_secrets.specs.Checked.{LoadsPassword}

-- what isn't absent is there
there_by : (o : Option Sealed) → (o ≡ None → ⊥) → IsSome o
there_by None away = absurd (away refl)
there_by (Some sealed) away = refl

-- a password has no leaf
no_leaf : (o : Option ℕ) → LeafFits Password o → o ≡ None
no_leaf None h = refl
no_leaf (Some tree) h = absurd h

-- a form that isn't plain is bound
bound_form : (form : Form) → is_plain_form form ≡ false → form ≡ Bound
bound_form Plain e = absurd (true≢false e)
bound_form Bound e = refl

module _ (account : Bytes) (stored : Stored) (c : IsCoherent account stored) (label : Bytes)
    (loads : LoadsPassword stored label) where
  own_stash : IsOwnStash account loads.stash
  own_stash = subst (λ x. IfSome x (IsOwnStash account)) loads.stash_is c.stash

  -- the label is a factor's
  pub labelled : IsTrue (is_factor_label label)
  labelled = subst (λ (l : Bytes). IsTrue (is_factor_label l)) loads.fits.label_is loads.fits.plain.label

  -- its block may be sealed anew
  pub takes_reseal : HasRows loads.stash.next loads.stash.blocks → TakesReseal label loads.row loads.stash
  takes_reseal rows =
      let both : HasBoth loads.stash = subst (λ x. IfSome x HasBoth) loads.stash_is c.both in
      let bounded : IsTrue (is_factor_label label) × (loads.block.edition < loads.stash.next) =
      subst (λ x. IfSome x (λ block. IsTrue (is_factor_label label) × (block.edition < loads.stash.next)))
      loads.block_is
      (rows label) in
      let below = bounded.1 in
      let edition = loads.fits.edition_is in
      record {
        there = there_by loads.stash.payload (λ none. not_None loads.block
            (sym loads.block_is ∙ ap (λ blocks. get blocks label) (both.none none) ∙ get-empty (slice_cmp nat_cmp)
            label));
        password = no_leaf loads.row.leaf (subst (λ (k : Kind). LeafFits k loads.row.leaf) loads.is_password
            loads.fits.plain.leaf);
        from = loads.fits.plain.edition;
        below = omega (arith, edition, below);
        room = λ none. absurd (not_None loads.block (sym loads.block_is ∙ none));
        short = own_stash.short;
      }

  -- what is loaded with the new block fits together
  pub coherent_resealed : TakesReseal label loads.row loads.stash → (key main iv : Bytes)
      → IsCoherent account (record stored { stash = Some (with_resealed loads.stash label loads.row key main iv) })
  coherent_resealed takes key main iv = record {
    stash = record { account_is = own_stash.account_is; short = own_stash.short };
    both = both_sealed loads.stash label block takes.there;
    rows = rows;
    bounds = λ has. let k = c.bounds (subst (λ x. IsSomeAnd x (λ s. IsSome s.payload)) (sym loads.stash_is) has) in
        record {
          label = k.label;
          row = k.row;
          there = k.there;
          is_password = k.is_password;
          pins = k.pins;
          own = k.own;
          files = k.files;
        };
    files = c.files;
  }
    where
      block : Block
      block = new_block loads.stash.account label loads.row.edition (take 32 key) main iv

      rows : (q : Bytes) → Matches (FitsBlock q) (get (insert loads.stash.blocks label block) q) (get stored.factors q)
      rows q = ⊎_elim
          (λ e. subst (λ (n : Bytes). Matches (FitsBlock n) (get (insert loads.stash.blocks label block) n)
          (get stored.factors n)) (sym e)
          (subst (λ x. Matches (FitsBlock label) x (get stored.factors label)) (sym (put_at loads.stash.blocks label
          block))
          (subst (λ y. Matches (FitsBlock label) (Some block) y) (sym loads.row_is)
          (record { plain = loads.fits.plain; label_is = loads.fits.label_is; edition_is = refl }))))
          (λ away. subst (λ x. Matches (FitsBlock q) x (get stored.factors q))
          (sym (put_other loads.stash.blocks label block q away))
          (subst (λ x. Matches (FitsBlock q) (block_in x q) (get stored.factors q)) loads.stash_is (c.rows q)))
          (same_or_apart q label)

  -- so it is asked as sealing anew asks it
  pub known_reseal : HasRows loads.stash.next loads.stash.blocks
      → IsSomeAnd (get stored.factors label) (λ row. IsSomeAnd stored.stash (TakesReseal label row))
  known_reseal rows =
      subst (λ o. IsSomeAnd o (λ (row : FactorRecord). IsSomeAnd stored.stash (TakesReseal label row))) (sym
      loads.row_is)
      (subst (λ x. IsSomeAnd x (TakesReseal label loads.row)) (sym loads.stash_is) (takes_reseal rows))

  module _ (after : Stored) (key main iv : Bytes) where
    abbrev later : Stored
    later = record stored { stash = Some (with_resealed loads.stash label loads.row key main iv) }

    -- what was sealed anew is loaded, and after a fault what was
    pub after_seal : (r : Result (Unit {0}) StoreFault) → (IsOk r → KeepsResealed label key main iv stored after)
        → OnErr r (after ≡ stored) → (after ≡ later) ⊎ (after ≡ stored)
    after_seal (Ok done) ok err = inl (ok refl loads.row loads.stash loads.row_is loads.stash_is)
    after_seal (Err fault) ok err = inr err

    -- it fits together either way
    pub coherent_seal : HasRows loads.stash.next loads.stash.blocks → (after ≡ later) ⊎ (after ≡ stored)
        → IsCoherent account after
    coherent_seal rows = ⊎_elim
        (λ e. subst (IsCoherent account) (sym e) (coherent_resealed (takes_reseal rows) key main iv))
        (λ e. subst (IsCoherent account) (sym e) c)

    -- the stash alone changes
    pub same_seal : (after ≡ later) ⊎ (after ≡ stored) → after ≡ record stored { stash = after.stash }
    same_seal = ⊎_elim
        (λ e. e ∙ ap (λ (s : Stored). record stored { stash = s.stash }) (sym e))
        (λ e. e ∙ ap (λ (s : Stored). record stored { stash = s.stash }) (sym e))

    -- and the block is bound
    pub bound_seal : (r : Result (Unit {0}) StoreFault) → (IsOk r → KeepsResealed label key main iv stored after)
        → OnOk r (IsBoundAt after label)
    bound_seal (Ok done) ok =
        subst (λ (s : Stored). IsBoundAt s label) (sym (ok refl loads.row loads.stash loads.row_is loads.stash_is))
        (subst (λ o. IsSomeAnd o (λ (block : Block). block.form ≡ Bound))
        (sym (put_at loads.stash.blocks label (new_block loads.stash.account label loads.row.edition (take 32 key)
        main iv)))
        refl)
    bound_seal (Err fault) ok = tt

  -- a block that isn't unbound is bound
  pub bound_already : is_unbound (block_in stored.stash label) ≡ false → IsBoundAt stored label
  bound_already e =
      let at : block_in stored.stash label ≡ Some loads.block = ap (λ x. block_in x label) loads.stash_is ∙
      loads.block_is
      in
      subst (λ o. IsSomeAnd o (λ (block : Block). block.form ≡ Bound)) (sym at)
      (bound_form loads.block.form (ap is_unbound (sym at) ∙ e))

-- nothing was to be sealed anew
pub binds_none : (old : ShareSeen) (account : Bytes) (stored : Stored) (label key main : Bytes) (ok failed : Type 0)
    → (failed → ⊥) → Binds old old account stored stored label key main ok failed
binds_none old account stored label key main ok failed calm = record {
  steps = [];
  runs = runs_none old;
  fails = λ f. absurd (calm f);
  throughout = λ contents keys durable starts. starts.holds;
  loaded = λ o contents keys durable starts new same.
      subst (λ c. IsKept (is_some old.lost) c account stored) (sym same) starts.kept;
}

-- a block was sealed anew, or the put failed
pub binds_edit : (old new : ShareSeen) (account : Bytes) (stored after : Stored) (label key main : Bytes)
    (ok failed : Type 0) → Edits old new account stored after ok failed (Reseals account label key main)
    → Binds old new account stored after label key main ok failed
binds_edit old new account stored after label key main ok failed e = record {
  steps = e.steps;
  runs = e.runs;
  fails = e.fails;
  throughout = λ contents keys durable starts.
      throughout_weaker (Does old.era) (HoldsEither (is_some old.lost) account keys durable durable)
      (λ c. HoldsUnder (is_some old.lost) c account durable keys) contents e.steps
      (λ c h. ⊎_elim (λ x. x) (λ x. x) h) (e.atomic contents keys durable durable starts).throughout;
  loaded = λ o contents keys durable starts new fold. e.loaded o contents keys durable durable starts new fold;
}

module _ (stored : Stored) (label key main : Bytes) (generator : Place) (unbound : Bool) where
  -- a block that was bound is loaded as it was
  pub loads_as_was : unbound ≡ false → LoadsBound unbound stored label key main generator stored
  loads_as_was e = subst (λ b. LoadsBound b stored label key main generator stored) (sym e) refl

  -- one that wasn't is loaded as it was sealed, under the next IV
  pub loads_sealed : unbound ≡ true → (after : Stored) (iv : Bytes) → iv ≡ next_iv generator
      → (r : Result (Unit {0}) StoreFault) → (IsOk r → KeepsResealed label key main iv stored after)
      → OnOk r (LoadsBound unbound stored label key main generator after)
  loads_sealed e after iv drawn (Ok done) ok =
      subst (λ b. LoadsBound b stored label key main generator after) (sym e)
      (subst (λ (i : Bytes). KeepsResealed label key main i stored after) drawn (ok refl))
  loads_sealed e after iv drawn (Err fault) ok = tt

-- and the generator went on by that IV
pub drawn_none : (generator : Place) (unbound : Bool) → unbound ≡ false → generator ≡ drawn_by unbound generator
drawn_none generator unbound e = ap (λ b. drawn_by b generator) (sym e)

pub drawn_one : (generator : Place) (unbound : Bool) → unbound ≡ true → (after : Place) → after ≡ moved generator 3
    → after ≡ drawn_by unbound generator
drawn_one generator unbound e after moves = moves ∙ ap (λ b. drawn_by b generator) (sym e)
