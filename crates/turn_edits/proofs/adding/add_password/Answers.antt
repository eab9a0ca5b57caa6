use Rattle.std.proofs.Common.{List, ℕ, sym, ◌∙◌, subst, arith}
use Rattle.account_machine.specs.declared.factor.Kind.TheVariants.{Password}
use Rattle.account_machine.specs.declared.request.Request.TheVariants.{AddFactor}
use Rattle.account_machine.specs.declared.request.Turn.TheVariants.{Act}
use Rattle.home_edits.proofs.CostLemmas.{costs_none}
use Rattle.turn_edits.specs.Endings.{IsEditions, Draws}
use Rattle.turn_edits.specs.Sessions.{ShowsHome}
use Rattle.turn_edits.proofs.Drawing.{draws_wider, draws_none}
use Rattle.turn_edits.proofs.EndingLemmas.{caused_wider}
use Rattle.turn_edits.proofs.StandsIn.{IsStoodFor, not_tried, stood_turn, stood_ended, stood_caused}
use Rattle.turn_edits.proofs.adding.add_password.Goals as goal

-- one more
pub returns-then-has_payload-clause-draws : goal.returns-then-has_payload-clause-draws
returns-then-has_payload-clause-draws g c =
    draws_wider 0 7 0 26 c.args.state.now.generator c.add_further.new.state.generator (omega arith) (omega arith)
    c.add_further.ensures.draws

pub returns-then-has_payload-clause-caused : goal.returns-then-has_payload-clause-caused
returns-then-has_payload-clause-caused g c =
    caused_wider (g.S.Share.seen c.args.share.now) (g.S.Share.seen c.add_further.new.share) c.args.state.now.account
    (ShowsHome c.args.state.now) c.add_further.result c.add_further.ensures.caused

-- the account shows a home with factors
pub returns-then-shows_home-clause-given : goal.returns-then-shows_home-clause-given
returns-then-shows_home-clause-given g c = λ account schedule.
    stood_turn c.args.state.now c.requires.ready
    (Act (AddFactor account c.args.token.now c.args.label.now Password c.args.secret.now schedule)) tt
    c.args.state.now.generator c.args.state.now.account c.damaged_stash.result (subst (λ (n : List ℕ). IsStoodFor n
    c.damaged_stash.result) c.as_str.ensures.value c.damaged_stash.ensures)
    (g.S.Share.seen c.args.share.now)

pub returns-then-shows_home-clause-ended : goal.returns-then-shows_home-clause-ended
returns-then-shows_home-clause-ended g c =
    stood_ended IsEditions c.args.state.now c.args.state.now.generator c.args.state.now.account
    c.damaged_stash.result (subst (λ (n : List ℕ). IsStoodFor n c.damaged_stash.result) c.as_str.ensures.value
    c.damaged_stash.ensures) c.requires.ready.settled

pub returns-then-shows_home-clause-draws : goal.returns-then-shows_home-clause-draws
returns-then-shows_home-clause-draws g c = draws_none c.args.state.now.generator 26

pub returns-then-shows_home-clause-cost : goal.returns-then-shows_home-clause-cost
returns-then-shows_home-clause-cost g c =
    costs_none (g.S.Share.seen c.args.share.now) c.args.state.now.account c.args.state.now.cost

pub returns-then-shows_home-clause-caused : goal.returns-then-shows_home-clause-caused
returns-then-shows_home-clause-caused g c =
    stood_caused (g.S.Share.seen c.args.share.now) c.args.state.now.account (ShowsHome c.args.state.now)
    c.damaged_stash.result (subst (λ (n : List ℕ). IsStoodFor n c.damaged_stash.result) c.as_str.ensures.value
    c.damaged_stash.ensures)
    (c.shows_home.ensures.shows c.if-shows_home.true (sym c.has_payload.ensures ∙ c.if-has_payload.false))

-- the first one
pub returns-else-shows_home-clause-caused : goal.returns-else-shows_home-clause-caused
returns-else-shows_home-clause-caused g c =
    caused_wider (g.S.Share.seen c.args.share.now) (g.S.Share.seen c.add_first.new.share) c.args.state.now.account
    (ShowsHome c.args.state.now) c.add_first.result c.add_first.ensures.caused

-- an IV at least was drawn before the puts
pub returns-then-has_payload-clause-fresh : goal.returns-then-has_payload-clause-fresh
returns-then-has_payload-clause-fresh g c = λ tried.
    draws_wider 3 7 3 26 c.args.state.now.generator c.add_further.new.state.generator (omega arith) (omega arith)
    (c.add_further.ensures.fresh tried)

pub returns-then-shows_home-clause-fresh : goal.returns-then-shows_home-clause-fresh
returns-then-shows_home-clause-fresh g c =
    not_tried c.args.state.now.account c.damaged_stash.result
    (Draws 3 26 c.args.state.now.generator c.args.state.now.generator)
    (subst (λ (n : List ℕ). IsStoodFor n c.damaged_stash.result) c.as_str.ensures.value c.damaged_stash.ensures)

pub returns-else-shows_home-clause-fresh : goal.returns-else-shows_home-clause-fresh
returns-else-shows_home-clause-fresh g c = λ tried.
    draws_wider 22 26 3 26 c.args.state.now.generator c.add_first.new.state.generator (omega arith) (omega arith)
    (c.add_first.ensures.fresh tried)
