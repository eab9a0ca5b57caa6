use Rattle.std.proofs.Common.{Option, refl, sym, subst}
use Rattle.account_machine.specs.declared.request.Request.TheVariants.{GetFile}
use Rattle.account_machine.specs.declared.request.Turn.TheVariants.{Act}
use Rattle.user_state.specs.Turns.{IsGiven}
use Rattle.user_state.specs.declared.state.Doubt.{Doubt}
use Rattle.turn_edits.specs.Endings.{IsEnded, IsEditions}
use Rattle.turn_edits.specs.Stashes.{LacksPayload}
use Rattle.turn_edits.proofs.EditGiven.{costs_at}
use Rattle.turn_edits.proofs.ReadRows.{read_given, read_ended, read_caused, reads_at}
use Rattle.turn_edits.proofs.reading.get_under.Goals as goal

-- the table's row
pub returns-clause-given : goal.returns-clause-given
returns-clause-given g c = λ account.
    let before = c.args.state.now in
    let call = c.get_file-read in
    let old = g.S.Share.seen c.args.share.now in
    let new = g.S.Share.seen call.new.share in
    subst (λ (d : Option Doubt). IsGiven old new before (record before { doubt = d })
    (Act (GetFile account c.args.name.now)) c.read_told.result)
    (sym c.read_told.ensures.doubt)
    (read_given old new before c.requires.ready c.requires.lost account c.args.name.now c.args.vault.now c.requires.due
    c.requires.vault c.requires.home call.result
    (reads_at c.as_str.ensures.value c.as_str-2.ensures.value call.ensures.reads) call.ensures.only
    c.read_told.result c.read_told.ensures.answer)

-- only a fault leaves a doubt
pub returns-clause-ended : goal.returns-clause-ended
returns-clause-ended g c =
    subst (λ (d : Option Doubt). IsEnded IsEditions c.args.state.now (record c.args.state.now { doubt = d })
    c.read_told.result)
    (sym c.read_told.ensures.doubt)
    (read_ended c.args.state.now c.get_file-read.result c.requires.ready.settled c.get_file-read.ensures.only
    c.read_told.result c.read_told.ensures.answer)

-- nothing is put
pub returns-clause-cost : goal.returns-clause-cost
returns-clause-cost g c =
    costs_at (g.S.Share.seen c.args.share.now) (g.S.Share.seen c.get_file-read.new.share) c.as_str.ensures.value
    refl (c.get_file-read.ensures.cost c.args.state.now.cost)

-- why it was answered so
pub returns-clause-caused : goal.returns-clause-caused
returns-clause-caused g c =
    read_caused (g.S.Share.seen c.args.share.now) (g.S.Share.seen c.get_file-read.new.share) c.args.state.now.account
    c.args.name.now c.args.vault.now c.args.state.now.vault (LacksPayload c.args.state.now) c.get_file-read.result
    c.requires.vault
    (reads_at c.as_str.ensures.value c.as_str-2.ensures.value c.get_file-read.ensures.reads)
    c.get_file-read.ensures.only c.read_told.result c.read_told.ensures.answer

-- what is loaded stays
pub returns-clause-sound : goal.returns-clause-sound
returns-clause-sound g c = record {
  coherent = c.requires.sound.coherent;
  least = c.requires.sound.least;
  most = c.requires.sound.most;
  keyed = c.requires.sound.keyed;
}
