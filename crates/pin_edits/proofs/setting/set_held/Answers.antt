use Rattle.std.proofs.Common.{◌≡◌, ℕ, Option, Result, Err, Some, OnOk, refl, sym, ap, ◌∙◌, subst, inl}
use Rattle.std.proofs.lemmas.Result.{err_from_is_err_and}
use Rattle.std.specs.Prelude.{IfErr}
use Rattle.std.specs.FinMap.{insert}
use Rattle.share_api.specs.Contents.{Bytes}
use Rattle.share_api.specs.Seen.{Makes, step_of}
use Rattle.share_api.specs.declared.leaf.NewLeaf.{NewLeaf}
use Rattle.share_api.specs.declared.step.Op.TheVariants.{InsertLeaf}
use Rattle.share_api.specs.declared.step.Reply.TheVariants.{Labelled, Failed}
use Rattle.stored_home.specs.declared.fault.StoreFault.{StoreFault}
use Rattle.home_edits.specs.Passwords.{TakesFactor}
use Rattle.home_edits.proofs.CostLemmas.{costs_none}
use Rattle.home_edits.proofs.ShortLemmas.{short_stays}
use Rattle.home_edits.proofs.Edited.{err_not_ok, there_gives}
use Rattle.pin_edits.specs.Faults.{IsHeldFault}
use Rattle.pin_edits.specs.Pins.{pin_leaf, pin_row, SetsPin, PutsPin}
use Rattle.pin_edits.specs.Writes.{IsOwnRest}
use Rattle.pin_edits.proofs.LostTrees.{none_found}
use Rattle.pin_edits.proofs.PinReset.{stash_not_failed}
use Rattle.pin_edits.proofs.PinSet.{no_set, failed_set, pin_set, pin_calm}
use Rattle.pin_edits.proofs.ChangeTries.{fault_same}
use Rattle.pin_edits.proofs.NamedFaults.{stash_is_held, stash_damaged}
use Rattle.pin_edits.proofs.OwnWrites.{rest_own}
use Rattle.pin_edits.proofs.PinCoherent.{coherent_by, set_coherent}
use Rattle.pin_edits.proofs.PinCosts.{inserted_costs, set_costs}
use Rattle.pin_edits.proofs.PinStashes.{pin_stash_short}
use Rattle.pin_edits.proofs.setting.set_held.Goals as goal

-- the payload didn't open, or there was no memory
pub returns-in_err-made-clause-edits : goal.returns-in_err-made-clause-edits
returns-in_err-made-clause-edits g c =
    let p = err_from_is_err_and c.from_residual.result c.from_residual.ensures.1 in
    no_set (g.S.Share.seen c.args.share.now) c.args.account.now c.args.stored.now c.from_residual.result
    (SetsPin c.args.label.now c.args.pin.now c.args.main.now)
    (err_not_ok c.from_residual.result c.from_residual.ensures.0)
    (stash_not_failed c.args.account.now c.in_err-made.field-0.0 c.from_residual.result c.in_err-made.ensures.only
    (p.1 ∙ ap Err p.2))
    (stash_damaged c.args.account.now c.in_err-made.field-0.0 c.from_residual.result c.in_err-made.ensures.only
    (p.1 ∙ ap Err p.2))

-- the insert failed
pub returns-in_err-tree-clause-edits : goal.returns-in_err-tree-clause-edits
returns-in_err-tree-clause-edits g c =
    let result = c.from_residual-in_err-tree.result in
    let p = err_from_is_err_and result c.from_residual-in_err-tree.ensures.1 in
    failed_set (g.S.Share.seen c.args.share.now) (g.S.Share.seen c.insert.new.share) c.args.account.now
    c.args.stored.now result (SetsPin c.args.label.now c.args.pin.now c.args.main.now) c.args.moment
    (pin_leaf c.args.pin.now) (none_found (g.S.Share.seen c.args.share.now).lost c.requires.tree)
    (subst (λ (l : NewLeaf). Makes (g.S.Share.seen c.args.share.now) (g.S.Share.seen c.insert.new.share)
    (step_of (g.S.Share.seen c.args.share.now) c.args.moment (InsertLeaf l) Failed)) c.leaf_of_pin.ensures.value
    c.in_err-tree.ensures.made)
    (p.1 ∙ ap Err (p.2 ∙ fault_same c.in_err-tree.field-0.0 (c.in_err-tree.ensures.only refl)))

-- the leaf was inserted
pub returns-clause-edits : goal.returns-clause-edits
returns-clause-edits g c =
    pin_set (g.S.Share.seen c.args.share.now) (g.S.Share.seen c.insert.new.share)
    (g.S.Share.seen c.put_named.new.share) c.args.account.now c.args.stored.now c.put_named.new.stored
    c.put_named.result c.args.moment c.args.label.now c.args.pin.now c.args.main.now c.in_ok-tree.tree
    (none_found (g.S.Share.seen c.args.share.now).lost c.requires.tree)
    (subst (λ (l : NewLeaf). Makes (g.S.Share.seen c.args.share.now) (g.S.Share.seen c.insert.new.share)
    (step_of (g.S.Share.seen c.args.share.now) c.args.moment (InsertLeaf l) (Labelled c.in_ok-tree.tree)))
    c.leaf_of_pin.ensures.value c.in_ok-tree.ensures.made)
    c.in-Some.stash c.args.ivs.now.block c.in_ok-made.made c.in_ok-made.put c.requires.plain c.in-Some.is
    c.requires.label
    (there_gives (TakesFactor c.args.label.now) c.args.stored.now.stash c.in-Some.stash c.in-Some.is c.requires.home)
    c.in_ok-made.ensures.stash c.in_ok-made.ensures.put
    (subst (λ (n : ℕ). OnOk c.put_named.result (c.put_named.new.stored ≡ record c.args.stored.now {
      stash = Some c.in_ok-made.made;
      factors = insert c.args.stored.now.factors c.args.label.now
          (pin_row c.args.label.now n c.args.pin.now.derived c.in_ok-tree.tree);
    })) c.next-edition.ensures.value c.put_named.ensures.ok)
    c.args.old c.requires.had
    (subst (λ (n : ℕ). PutsPin (g.S.Share.seen c.insert.new.share) (g.S.Share.seen c.put_named.new.share)
    c.args.account.now (pin_row c.args.label.now n c.args.pin.now.derived c.in_ok-tree.tree) c.in_ok-tree.tree
    c.in_ok-made.put c.args.old c.put_named.result) c.next-edition.ensures.value c.put_named.ensures.puts)
    c.put_named.ensures.taken

-- nothing was put
pub returns-in_err-made-clause-cost : goal.returns-in_err-made-clause-cost
returns-in_err-made-clause-cost g c =
    costs_none (g.S.Share.seen c.args.share.now) c.args.account.now c.args.pin.now.derived.cost

-- the insert alone failed
pub returns-in_err-tree-clause-cost : goal.returns-in_err-tree-clause-cost
returns-in_err-tree-clause-cost g c =
    inserted_costs (g.S.Share.seen c.args.share.now) (g.S.Share.seen c.insert.new.share) c.args.account.now
    c.args.pin.now.derived.cost c.args.moment c.leaf_of_pin.result Failed c.in_err-tree.ensures.made

-- the record has the cost of what was derived
pub returns-clause-cost : goal.returns-clause-cost
returns-clause-cost g c =
    set_costs (g.S.Share.seen c.args.share.now) (g.S.Share.seen c.insert.new.share)
    (g.S.Share.seen c.put_named.new.share) c.args.account.now c.args.moment c.leaf_of_pin.result
    (Labelled c.in_ok-tree.tree) c.args.stored.now.factors c.args.label.now
    (pin_row c.args.label.now c.next-edition.result c.args.pin.now.derived c.in_ok-tree.tree) c.in_ok-tree.tree
    c.in_ok-made.made c.in_ok-made.put c.args.old c.put_named.result c.in_ok-tree.ensures.made c.requires.had
    c.in_ok-made.ensures.put c.put_named.ensures.puts

-- the new payload is short
pub returns-clause-short : goal.returns-clause-short
returns-clause-short g c = λ was.
    short_stays c.put_named.result c.args.stored.now c.put_named.new.stored _ c.put_named.ensures.ok
    c.put_named.ensures.err
    (pin_stash_short c.in-Some.stash c.args.label.now c.args.pin.now c.args.main.now c.args.ivs.now.block
    c.in_ok-made.made c.in_ok-made.ensures.stash) was

-- what is loaded fits together: no other record names the new leaf
pub returns-clause-coherent : goal.returns-clause-coherent
returns-clause-coherent g c = λ room was.
    coherent_by c.args.account.now c.put_named.result c.args.stored.now c.put_named.new.stored _
    (subst (λ (n : ℕ). OnOk c.put_named.result (c.put_named.new.stored ≡ record c.args.stored.now {
      stash = Some c.in_ok-made.made;
      factors = insert c.args.stored.now.factors c.args.label.now
          (pin_row c.args.label.now n c.args.pin.now.derived c.in_ok-tree.tree);
    })) c.next-edition.ensures.value c.put_named.ensures.ok)
    c.put_named.ensures.err
    (λ o. set_coherent c.args.account.now c.args.stored.now c.in-Some.stash c.args.label.now c.args.pin.now
    c.args.main.now c.args.ivs.now.block c.in_ok-made.made c.in_ok-tree.tree c.args.old c.requires.label c.in-Some.is
    (there_gives (TakesFactor c.args.label.now) c.args.stored.now.stash c.in-Some.stash c.in-Some.is c.requires.home)
    c.in_ok-made.ensures.stash c.requires.least c.requires.most c.requires.had room (c.put_named.ensures.free o) was)
    was

-- the removals of what the label had are the account's
pub put_named-requires-clause-rest_own : goal.put_named-requires-clause-rest_own
put_named-requires-clause-rest_own g c =
    subst (λ (o : Option Bytes). IsOwnRest o c.args.old) (sym c.in_ok-tree.ensures.owner)
    (rest_own (g.S.Share.seen c.args.share.now).owner c.args.account.now c.args.stored.now.factors c.args.label.now
    c.args.old c.requires.own c.requires.had)

-- the stash isn't made
pub returns-in_err-made-clause-only : goal.returns-in_err-made-clause-only
returns-in_err-made-clause-only g c =
    let p = err_from_is_err_and c.from_residual.result c.from_residual.ensures.1 in
    subst (λ (r : Result Unit StoreFault). IfErr r (IsHeldFault c.args.account.now)) (sym (p.1 ∙ ap Err p.2))
    (stash_is_held c.args.account.now c.in_err-made.field-0.0 c.in_err-made.ensures.only)

-- a refusal comes before the first step, or the leaf is removed again
pub returns-in_err-made-clause-calm : goal.returns-in_err-made-clause-calm
returns-in_err-made-clause-calm g c = λ _ _. inl refl

pub returns-in_err-tree-clause-calm : goal.returns-in_err-tree-clause-calm
returns-in_err-tree-clause-calm g c = λ _ not.
    let p = err_from_is_err_and c.from_residual-in_err-tree.result c.from_residual-in_err-tree.ensures.1 in
    absurd (not (p.1 ∙ ap Err (p.2 ∙ fault_same c.in_err-tree.field-0.0 (c.in_err-tree.ensures.only refl))))

pub returns-clause-calm : goal.returns-clause-calm
returns-clause-calm g c = λ is_err not.
    pin_calm (g.S.Share.seen c.args.share.now) (g.S.Share.seen c.insert.new.share)
    (g.S.Share.seen c.put_named.new.share) c.args.account.now
    (pin_row c.args.label.now c.next-edition.result c.args.pin.now.derived c.in_ok-tree.tree) c.args.moment
    c.in_ok-tree.tree c.leaf_of_pin.result c.in_ok-made.put c.args.old c.put_named.result c.in_ok-tree.ensures.made
    c.put_named.ensures.puts is_err not
