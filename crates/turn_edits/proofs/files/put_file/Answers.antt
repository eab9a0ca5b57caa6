use Rattle.std.proofs.Common.{ℕ, List, sym, ◌∙◌, subst, arith}
use Rattle.account_machine.specs.declared.request.Request.TheVariants.{PutFile}
use Rattle.account_machine.specs.declared.request.Turn.TheVariants.{Act}
use Rattle.home_edits.proofs.CostLemmas.{costs_none}
use Rattle.turn_edits.specs.Endings.{IsFile, Draws}
use Rattle.turn_edits.specs.Stashes.{LacksPayload}
use Rattle.turn_edits.proofs.Drawing.{draws_wider, draws_none}
use Rattle.turn_edits.proofs.FileRows.{is_mounted}
use Rattle.turn_edits.proofs.Held.{factors_by}
use Rattle.turn_edits.proofs.StandsIn.{IsStoodFor, not_tried, stood_turn, stood_ended, stood_caused}
use Rattle.turn_edits.proofs.files.put_file.Goals as goal

-- the home has factors
pub put_under-requires-clause-home : goal.put_under-requires-clause-home
put_under-requires-clause-home g c =
    factors_by c.args.state.now.stored (sym c.has_payload.ensures ∙ c.if-has_payload.true)

pub returns-then-has_payload-clause-draws : goal.returns-then-has_payload-clause-draws
returns-then-has_payload-clause-draws g c =
    draws_wider 3 3 0 3 c.args.state.now.generator c.put_under.new.state.generator (omega arith) (omega arith)
    c.put_under.ensures.draws

-- the stash has no payload
pub returns-else-has_payload-clause-given : goal.returns-else-has_payload-clause-given
returns-else-has_payload-clause-given g c = λ account.
    stood_turn c.args.state.now c.requires.ready (Act (PutFile account c.args.name.now c.args.bytes.now)) tt
    c.args.state.now.generator c.args.state.now.account c.damaged_stash.result (subst (λ (n : List ℕ). IsStoodFor n
    c.damaged_stash.result) c.as_str.ensures.value c.damaged_stash.ensures)
    (g.S.Share.seen c.args.share.now)

pub returns-else-has_payload-clause-ended : goal.returns-else-has_payload-clause-ended
returns-else-has_payload-clause-ended g c =
    stood_ended (IsFile c.args.state.now.account c.args.name.now) c.args.state.now c.args.state.now.generator c.args.state.now.account
    c.damaged_stash.result (subst (λ (n : List ℕ). IsStoodFor n c.damaged_stash.result) c.as_str.ensures.value
    c.damaged_stash.ensures) c.requires.ready.settled

pub returns-else-has_payload-clause-draws : goal.returns-else-has_payload-clause-draws
returns-else-has_payload-clause-draws g c = draws_none c.args.state.now.generator 3

pub returns-else-has_payload-clause-cost : goal.returns-else-has_payload-clause-cost
returns-else-has_payload-clause-cost g c =
    costs_none (g.S.Share.seen c.args.share.now) c.args.state.now.account c.args.state.now.cost

pub returns-else-has_payload-clause-caused : goal.returns-else-has_payload-clause-caused
returns-else-has_payload-clause-caused g c =
    stood_caused (g.S.Share.seen c.args.share.now) c.args.state.now.account (LacksPayload c.args.state.now)
    c.damaged_stash.result (subst (λ (n : List ℕ). IsStoodFor n c.damaged_stash.result) c.as_str.ensures.value
    c.damaged_stash.ensures) (record {
      mounted = is_mounted c.args.state.now c.requires.ready c.args.state.now.account c.args.name.now c.args.bytes.now
          c.requires.due;
      lacks = sym c.has_payload.ensures ∙ c.if-has_payload.false;
    })

-- an IV was drawn before the put
pub returns-then-has_payload-clause-fresh : goal.returns-then-has_payload-clause-fresh
returns-then-has_payload-clause-fresh g c = λ _. c.put_under.ensures.draws

pub returns-else-has_payload-clause-fresh : goal.returns-else-has_payload-clause-fresh
returns-else-has_payload-clause-fresh g c =
    not_tried c.args.state.now.account c.damaged_stash.result
    (Draws 3 3 c.args.state.now.generator c.args.state.now.generator)
    (subst (λ (n : List ℕ). IsStoodFor n c.damaged_stash.result) c.as_str.ensures.value c.damaged_stash.ensures)
