use Rattle.std.proofs.Common.{ℕ, List, sym, ◌∙◌, subst}
use Rattle.account_machine.specs.declared.request.Request.TheVariants.{GetFile}
use Rattle.account_machine.specs.declared.request.Turn.TheVariants.{Act}
use Rattle.home_edits.proofs.CostLemmas.{costs_none}
use Rattle.turn_edits.specs.Endings.{IsEditions}
use Rattle.turn_edits.specs.Stashes.{LacksPayload}
use Rattle.turn_edits.proofs.Held.{factors_by}
use Rattle.turn_edits.proofs.ReadRows.{stood_read_caused, read_mounted}
use Rattle.turn_edits.proofs.StandsIn.{IsStoodFor, stood_turn, stood_ended}
use Rattle.turn_edits.proofs.reading.get_file.Goals as goal

-- the home has factors
pub get_under-requires-clause-home : goal.get_under-requires-clause-home
get_under-requires-clause-home g c =
    factors_by c.args.state.now.stored (sym c.has_payload.ensures ∙ c.if-has_payload.true)

-- the stash has no payload
pub returns-else-has_payload-clause-given : goal.returns-else-has_payload-clause-given
returns-else-has_payload-clause-given g c = λ account.
    stood_turn c.args.state.now c.requires.ready (Act (GetFile account c.args.name.now)) tt
    c.args.state.now.generator c.args.state.now.account c.damaged_stash.result
    (subst (λ (n : List ℕ). IsStoodFor n c.damaged_stash.result) c.as_str.ensures.value c.damaged_stash.ensures)
    (g.S.Share.seen c.args.share.now)

pub returns-else-has_payload-clause-ended : goal.returns-else-has_payload-clause-ended
returns-else-has_payload-clause-ended g c =
    stood_ended IsEditions c.args.state.now c.args.state.now.generator c.args.state.now.account
    c.damaged_stash.result
    (subst (λ (n : List ℕ). IsStoodFor n c.damaged_stash.result) c.as_str.ensures.value c.damaged_stash.ensures)
    c.requires.ready.settled

pub returns-else-has_payload-clause-cost : goal.returns-else-has_payload-clause-cost
returns-else-has_payload-clause-cost g c =
    costs_none (g.S.Share.seen c.args.share.now) c.args.state.now.account c.args.state.now.cost

pub returns-else-has_payload-clause-caused : goal.returns-else-has_payload-clause-caused
returns-else-has_payload-clause-caused g c =
    stood_read_caused (g.S.Share.seen c.args.share.now) c.args.state.now.account c.args.name.now
    c.args.state.now.vault (LacksPayload c.args.state.now) c.damaged_stash.result
    (subst (λ (n : List ℕ). IsStoodFor n c.damaged_stash.result) c.as_str.ensures.value c.damaged_stash.ensures)
    (record {
      mounted = read_mounted c.args.state.now c.args.state.now.account c.args.name.now c.requires.due;
      lacks = sym c.has_payload.ensures ∙ c.if-has_payload.false;
    })
