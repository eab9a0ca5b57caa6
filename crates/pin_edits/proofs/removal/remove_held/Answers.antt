use Rattle.std.proofs.Common.{sym, subst, IsOk, IsErr, Some, ap, is_ok, is_err}
use Rattle.std.specs.Prelude.{IsSome}
use Rattle.std.specs.FinMap.{get}
use Rattle.factor_files.specs.declared.factor.FactorRecord.{FactorRecord}
use Rattle.stored_home.specs.Coherent.{IsCoherent}
use Rattle.stored_home.specs.Loaded.{Rows}
use Rattle.stored_home.proofs.MapLemmas.{some_is}
use Rattle.stash_format.specs.declared.contents.Contents.{Contents as Stash}
use Rattle.secret_stash.specs.Edits.{without_block}
use Rattle.home_edits.specs.Removals.{LosesFactor, RemovesFactor}
use Rattle.home_edits.proofs.CostLemmas.{costs_none}
use Rattle.home_edits.proofs.CoherentEdits.{removed_coherent}
use Rattle.home_edits.proofs.Edited.{edits_none, err_not_ok, ok_not_fault, memory_not_failed, there_gives, there_some}
use Rattle.pin_edits.proofs.PinRemoved.{remove_edits, removal_costs, keeps_password}
use Rattle.pin_edits.proofs.LostTrees.{none_found}
use Rattle.pin_edits.proofs.OwnWrites.{leaf_own, record_own}
use Rattle.pin_edits.proofs.removal.remove_held.Goals as goal

-- there was no memory
pub returns-in_err-stash-clause-edits : goal.returns-in_err-stash-clause-edits
returns-in_err-stash-clause-edits g c =
    edits_none (g.S.Share.seen c.args.share.now) c.args.account.now c.args.stored.now c.args.stored.now _ _
    (RemovesFactor c.args.label.now)
    (err_not_ok c.from_residual.result c.from_residual.ensures.0) (memory_not_failed c.from_residual.result
    c.from_residual.ensures.1)

-- a step failed
pub returns-in_err-change_three-clause-edits : goal.returns-in_err-change_three-clause-edits
returns-in_err-change_three-clause-edits g c =
    let known = there_some (λ (row : FactorRecord). IsSome row.leaf) (get c.args.stored.now.factors c.args.label.now)
    c.requires.known in
    let tree = some_is known.0.leaf known.2 in
    let loses = there_gives (LosesFactor c.args.label.now) c.args.stored.now.stash c.in-Some.stash c.in-Some.is
    c.requires.home in
    let none = err_not_ok c.from_residual-in_err-change_three.result c.from_residual-in_err-change_three.ensures.0 in
    remove_edits (g.S.Share.seen c.args.share.now) (g.S.Share.seen c.change_three.new.share) c.args.account.now
    c.args.stored.now c.args.stored.now c.in-Some.stash known.0 tree.0 _ _ (IsOk c.change_three.result)
    (IsErr c.change_three.result) c.args.label.now c.in_ok-stash.put c.removals_of-leaf.result.0 c.removals_of-leaf.result.1
    c.requires.plain (none_found (g.S.Share.seen c.args.share.now).lost c.requires.tree) c.in-Some.is loses.there known.1
    tree.1 c.in_ok-stash.ensures.put (c.removals_of-leaf.ensures.leaf known.0 tree.0 known.1 tree.1)
    (c.removals_of-leaf.ensures.record known.0 known.1) (λ o. absurd (none o)) c.change_three.ensures.tried
    (λ o. absurd (none o)) (λ _. ap is_err c.in_err-change_three.was)

-- all steps were done
pub returns-clause-edits : goal.returns-clause-edits
returns-clause-edits g c =
    let known = there_some (λ (row : FactorRecord). IsSome row.leaf) (get c.args.stored.now.factors c.args.label.now)
    c.requires.known in
    let tree = some_is known.0.leaf known.2 in
    let loses = there_gives (LosesFactor c.args.label.now) c.args.stored.now.stash c.in-Some.stash c.in-Some.is
    c.requires.home in
    remove_edits (g.S.Share.seen c.args.share.now) (g.S.Share.seen c.change_three.new.share) c.args.account.now
    c.args.stored.now _ c.in-Some.stash known.0 tree.0 _ _ (IsOk c.change_three.result)
    (IsErr c.change_three.result) c.args.label.now c.in_ok-stash.put c.removals_of-leaf.result.0 c.removals_of-leaf.result.1
    c.requires.plain (none_found (g.S.Share.seen c.args.share.now).lost c.requires.tree) c.in-Some.is loses.there known.1
    tree.1 c.in_ok-stash.ensures.put (c.removals_of-leaf.ensures.leaf known.0 tree.0 known.1 tree.1)
    (c.removals_of-leaf.ensures.record known.0 known.1)
    (λ _ i. record c.args.stored.now { stash = Some (c.in_ok-stash.ensures.stash i); factors = c.remove.ensures i })
    c.change_three.ensures.tried (λ _. ap is_ok c.in_ok-change_three.was) (λ f. absurd (ok_not_fault _ _ f))

-- nothing was put
pub returns-in_err-stash-clause-cost : goal.returns-in_err-stash-clause-cost
returns-in_err-stash-clause-cost g c = λ cost. costs_none (g.S.Share.seen c.args.share.now) c.args.account.now cost

-- no factor's record was put
pub returns-in_err-change_three-clause-cost : goal.returns-in_err-change_three-clause-cost
returns-in_err-change_three-clause-cost g c = λ cost.
    let known = there_some (λ (row : FactorRecord). IsSome row.leaf) (get c.args.stored.now.factors c.args.label.now)
    c.requires.known in
    let tree = some_is known.0.leaf known.2 in
    removal_costs (g.S.Share.seen c.args.share.now) (g.S.Share.seen c.change_three.new.share) c.args.account.now cost
    (without_block c.in-Some.stash c.args.label.now) c.in_ok-stash.put c.removals_of-leaf.result.0 c.removals_of-leaf.result.1
    tree.0 _ (IsOk c.change_three.result) (IsErr c.change_three.result) c.in_ok-stash.ensures.put
    (c.removals_of-leaf.ensures.leaf known.0 tree.0 known.1 tree.1) (c.removals_of-leaf.ensures.record known.0 known.1)
    c.change_three.ensures.tried

pub returns-clause-cost : goal.returns-clause-cost
returns-clause-cost g c = λ cost.
    let known = there_some (λ (row : FactorRecord). IsSome row.leaf) (get c.args.stored.now.factors c.args.label.now)
    c.requires.known in
    let tree = some_is known.0.leaf known.2 in
    removal_costs (g.S.Share.seen c.args.share.now) (g.S.Share.seen c.change_three.new.share) c.args.account.now cost
    (without_block c.in-Some.stash c.args.label.now) c.in_ok-stash.put c.removals_of-leaf.result.0 c.removals_of-leaf.result.1
    tree.0 _ (IsOk c.change_three.result) (IsErr c.change_three.result) c.in_ok-stash.ensures.put
    (c.removals_of-leaf.ensures.leaf known.0 tree.0 known.1 tree.1) (c.removals_of-leaf.ensures.record known.0 known.1)
    c.change_three.ensures.tried

-- what is left fits together: the password that is there is another factor
pub returns-clause-coherent : goal.returns-clause-coherent
returns-clause-coherent g c = λ was.
    let known = there_some (λ (row : FactorRecord). IsSome row.leaf) (get c.args.stored.now.factors c.args.label.now)
    c.requires.known in
    let loses = there_gives (LosesFactor c.args.label.now) c.args.stored.now.stash c.in-Some.stash c.in-Some.is
    c.requires.home in
    subst (λ (pair : Stash × Rows). IsCoherent c.args.account.now
    (record c.args.stored.now { stash = Some pair.0; factors = pair.1 }))
    (λ i. (sym c.in_ok-stash.ensures.stash i, sym c.remove.ensures i))
    (removed_coherent c.args.account.now c.args.stored.now was c.in-Some.stash c.in-Some.is c.args.label.now loses.there
    loses.others
    (keeps_password c.args.account.now c.args.stored.now was c.in-Some.stash c.in-Some.is loses.there c.args.label.now
    known.0 known.1 known.2))

-- the removals are the account's
pub change_three-requires-clause-second_own : goal.change_three-requires-clause-second_own
change_three-requires-clause-second_own g c =
    let known = there_some (λ (row : FactorRecord). IsSome row.leaf) (get c.args.stored.now.factors c.args.label.now)
    c.requires.known in
    let tree = some_is known.0.leaf known.2 in
    leaf_own (g.S.Share.seen c.args.share.now).owner c.removals_of-leaf.result.0 tree.0
    (c.removals_of-leaf.ensures.leaf known.0 tree.0 known.1 tree.1)

pub change_three-requires-clause-third_own : goal.change_three-requires-clause-third_own
change_three-requires-clause-third_own g c =
    let known = there_some (λ (row : FactorRecord). IsSome row.leaf) (get c.args.stored.now.factors c.args.label.now)
    c.requires.known in
    record_own (g.S.Share.seen c.args.share.now).owner c.args.account.now c.args.label.now known.0.edition
    c.removals_of-leaf.result.1 c.requires.own (c.removals_of-leaf.ensures.record known.0 known.1)
