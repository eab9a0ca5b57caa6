use Rattle.std.proofs.Common.{◌≡◌, true, IsOk, subst, sym, ◌∙◌}
use Rattle.std.specs.Prelude.{IfSome, IsErrOf}
use Rattle.stash_format.specs.Kept.{HasRows}
use Rattle.stored_home.specs.Loaded.{block_in}
use Rattle.stored_home.specs.declared.fault.StoreFault.TheVariants as faults
use Rattle.turn_secrets.specs.Binding.{is_unbound}
use Rattle.turn_secrets.proofs.Bindings.{labelled, known_reseal, after_seal, coherent_seal, same_seal, bound_seal, binds_none, binds_edit, loads_as_was, loads_sealed, drawn_none, drawn_one}
use Rattle.turn_secrets.proofs.Loading.{loads_password}
use Rattle.home_edits.proofs.CostLemmas.{costs_none}
use Rattle.home_edits.proofs.Edited.{ok_not_fault}
use Rattle.turn_secrets.proofs.binding.bind.Goals as goal

-- the block may be sealed anew
pub reseal_password-requires-clause-label : goal.reseal_password-requires-clause-label
reseal_password-requires-clause-label g c =
    labelled c.args.account.now c.args.stored.now c.requires.coherent c.args.label.now
    (loads_password c.args.stored.now c.args.label.now c.requires.coherent.rows c.requires.password)

pub reseal_password-requires-clause-known : goal.reseal_password-requires-clause-known
reseal_password-requires-clause-known g c =
    let loads = loads_password c.args.stored.now c.args.label.now c.requires.coherent.rows c.requires.password in
    known_reseal c.args.account.now c.args.stored.now c.requires.coherent c.args.label.now loads
    (subst (λ x. IfSome x (λ stash. HasRows stash.next stash.blocks)) loads.stash_is c.is_unbound.ensures.rows)

-- it was bound already
pub returns-then-not-is_unbound-clause-binds : goal.returns-then-not-is_unbound-clause-binds
returns-then-not-is_unbound-clause-binds g c =
    binds_none (g.S.Share.seen c.args.share.now) c.args.account.now c.args.stored.now c.args.label.now c.args.key.now
    c.args.main.now (true ≡ true) _ (ok_not_fault tt faults.Failed)

pub returns-then-not-is_unbound-clause-loaded : goal.returns-then-not-is_unbound-clause-loaded
returns-then-not-is_unbound-clause-loaded g c =
    loads_as_was c.args.stored.now c.args.label.now c.args.key.now c.args.main.now c.args.generator.now
    (is_unbound (block_in c.args.stored.now.stash c.args.label.now))
    (sym c.is_unbound.ensures.value ∙ c.if-not-is_unbound.true)

pub returns-then-not-is_unbound-clause-drawn : goal.returns-then-not-is_unbound-clause-drawn
returns-then-not-is_unbound-clause-drawn g c =
    drawn_none c.args.generator.now (is_unbound (block_in c.args.stored.now.stash c.args.label.now))
    (sym c.is_unbound.ensures.value ∙ c.if-not-is_unbound.true)

pub returns-then-not-is_unbound-clause-cost : goal.returns-then-not-is_unbound-clause-cost
returns-then-not-is_unbound-clause-cost g c = λ cost.
    costs_none (g.S.Share.seen c.args.share.now) c.args.account.now cost

-- it is sealed anew
pub returns-clause-loaded : goal.returns-clause-loaded
returns-clause-loaded g c =
    loads_sealed c.args.stored.now c.args.label.now c.args.key.now c.args.main.now c.args.generator.now
    (is_unbound (block_in c.args.stored.now.stash c.args.label.now))
    (sym c.is_unbound.ensures.value ∙ c.if-not-is_unbound.false)
    c.reseal_password.new.stored c.iv-iv.result c.iv-iv.ensures.value c.reseal_password.result
    c.reseal_password.ensures.ok

pub returns-clause-drawn : goal.returns-clause-drawn
returns-clause-drawn g c =
    drawn_one c.args.generator.now (is_unbound (block_in c.args.stored.now.stash c.args.label.now))
    (sym c.is_unbound.ensures.value ∙ c.if-not-is_unbound.false)
    c.iv-iv.new.self c.iv-iv.ensures.moves

pub returns-clause-binds : goal.returns-clause-binds
returns-clause-binds g c =
    binds_edit (g.S.Share.seen c.args.share.now) (g.S.Share.seen c.reseal_password.new.share) c.args.account.now
    c.args.stored.now c.reseal_password.new.stored c.args.label.now c.args.key.now c.args.main.now
    (IsOk c.reseal_password.result) (IsErrOf c.reseal_password.result faults.Failed) c.reseal_password.ensures.edits

pub returns-clause-coherent : goal.returns-clause-coherent
returns-clause-coherent g c =
    let loads = loads_password c.args.stored.now c.args.label.now c.requires.coherent.rows c.requires.password in
    coherent_seal c.args.account.now c.args.stored.now c.requires.coherent c.args.label.now loads
    c.reseal_password.new.stored c.args.key.now c.args.main.now c.iv-iv.result
    (subst (λ x. IfSome x (λ stash. HasRows stash.next stash.blocks)) loads.stash_is c.is_unbound.ensures.rows)
    (after_seal c.args.account.now c.args.stored.now c.requires.coherent c.args.label.now loads
    c.reseal_password.new.stored c.args.key.now c.args.main.now c.iv-iv.result c.reseal_password.result
    c.reseal_password.ensures.ok c.reseal_password.ensures.err)

pub returns-clause-bound : goal.returns-clause-bound
returns-clause-bound g c =
    let loads = loads_password c.args.stored.now c.args.label.now c.requires.coherent.rows c.requires.password in
    bound_seal c.args.account.now c.args.stored.now c.requires.coherent c.args.label.now loads
    c.reseal_password.new.stored c.args.key.now c.args.main.now c.iv-iv.result c.reseal_password.result
    c.reseal_password.ensures.ok

pub returns-clause-same : goal.returns-clause-same
returns-clause-same g c =
    let loads = loads_password c.args.stored.now c.args.label.now c.requires.coherent.rows c.requires.password in
    same_seal c.args.account.now c.args.stored.now c.requires.coherent c.args.label.now loads
    c.reseal_password.new.stored c.args.key.now c.args.main.now c.iv-iv.result
    (after_seal c.args.account.now c.args.stored.now c.requires.coherent c.args.label.now loads
    c.reseal_password.new.stored c.args.key.now c.args.main.now c.iv-iv.result c.reseal_password.result
    c.reseal_password.ensures.ok c.reseal_password.ensures.err)
