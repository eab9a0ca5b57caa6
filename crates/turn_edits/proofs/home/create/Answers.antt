use Rattle.std.proofs.Common.{Option, refl, sym, subst}
use Rattle.account_machine.specs.declared.answer.Answer.{Answer}
use Rattle.account_machine.specs.declared.request.Request.TheVariants.{Create}
use Rattle.account_machine.specs.declared.request.Turn.TheVariants.{Act}
use Rattle.home_edits.specs.Homes.{MakesHome}
use Rattle.user_state.specs.Turns.{IsGiven}
use Rattle.user_state.specs.declared.state.Doubt.{Doubt}
use Rattle.user_state.specs.declared.state.Doubt.TheVariants.{Editions}
use Rattle.turn_edits.specs.Endings.{IsEditions, IsEnded, IsCaused}
use Rattle.turn_edits.proofs.Drawing.{draws_none}
use Rattle.turn_edits.proofs.EditGiven.{editions_given, edits_at, coherent_at, costs_at}
use Rattle.turn_edits.proofs.EndingLemmas.{ended_by, caused_by}
use Rattle.turn_edits.proofs.Homes.{absent, create_owes}
use Rattle.turn_edits.proofs.home.create.Goals as goal

-- there is no home yet
pub create-made-requires-clause-absent : goal.create-made-requires-clause-absent
create-made-requires-clause-absent g c = absent c.args.state.now c.args.state.now.account c.requires.due

-- the table's row
pub returns-clause-given : goal.returns-clause-given
returns-clause-given g c = λ account.
    subst (λ (pair : Option Doubt × Answer). IsGiven (g.S.Share.seen c.args.share.now) (g.S.Share.seen
    c.create-made.new.share)
    c.args.state.now (record c.args.state.now { stored = c.create-made.new.stored; doubt = pair.0 }) (Act (Create
    account))
    pair.1)
    (λ i. (sym c.told.ensures.doubt i, sym c.told.ensures.answer i))
    (editions_given (g.S.Share.seen c.args.share.now) (g.S.Share.seen c.create-made.new.share) c.args.state.now
    c.requires.ready c.requires.lost (Act (Create account)) tt MakesHome c.args.state.now.generator
    c.create-made.new.stored c.create-made.result (edits_at c.as_str.ensures.value c.create-made.ensures.edits)
    c.create-made.ensures.only
    c.create-made.ensures.calm c.create-made.ensures.err
    c.create-made.ensures.lost (coherent_at c.as_str.ensures.value c.create-made.ensures.coherent
    c.requires.sound.coherent).files
    (λ contents user keys fits holds. create_owes c.args.state.now account c.requires.due c.requires.ready contents user
    keys fits holds (g.S.Share.seen c.args.share.now).era))

-- what is loaded fits together
pub returns-clause-sound : goal.returns-clause-sound
returns-clause-sound g c = record {
  coherent = coherent_at c.as_str.ensures.value c.create-made.ensures.coherent c.requires.sound.coherent;
  least = c.requires.sound.least;
  most = c.requires.sound.most;
  keyed = c.requires.sound.keyed;
}

-- only a fault leaves a doubt
pub returns-clause-ended : goal.returns-clause-ended
returns-clause-ended g c =
    subst (λ (pair : Option Doubt × Answer). IsEnded IsEditions c.args.state.now
    (record c.args.state.now { stored = c.create-made.new.stored; doubt = pair.0 }) pair.1)
    (λ i. (sym c.told.ensures.doubt i, sym c.told.ensures.answer i))
    (ended_by IsEditions c.args.state.now c.args.state.now.generator c.args.state.now.sessions c.create-made.new.stored
    Editions c.create-made.result tt c.requires.ready.settled c.create-made.ensures.only c.create-made.ensures.err)

-- why it was answered so
pub returns-clause-caused : goal.returns-clause-caused
returns-clause-caused g c =
    subst (IsCaused (g.S.Share.seen c.args.share.now) (g.S.Share.seen c.create-made.new.share)
    c.args.state.now.account ⊥)
    (sym c.told.ensures.answer)
    (caused_by (g.S.Share.seen c.args.share.now) (g.S.Share.seen c.create-made.new.share) c.args.state.now.account ⊥
    c.args.state.now.stored c.create-made.new.stored MakesHome c.create-made.result (edits_at
    c.as_str.ensures.value c.create-made.ensures.edits)
    c.create-made.ensures.only c.create-made.ensures.calm)

-- no word was drawn
pub returns-clause-draws : goal.returns-clause-draws
returns-clause-draws g c = draws_none c.args.state.now.generator 0

-- no factor's record is put
pub returns-clause-cost : goal.returns-clause-cost
returns-clause-cost g c =
    costs_at (g.S.Share.seen c.args.share.now) (g.S.Share.seen c.create-made.new.share) c.as_str.ensures.value refl
    (c.create-made.ensures.cost c.args.state.now.cost)
