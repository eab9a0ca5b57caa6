use Rattle.std.proofs.Common.{◌≡◌, ◌≤◌, ℕ, List, length, Option, refl, sym, ap, ◌∙◌, subst, inr, arith}
use Rattle.account_machine.specs.declared.answer.Answer.{Answer}
use Rattle.account_machine.specs.declared.answer.Answer.TheVariants as answers
use Rattle.account_machine.specs.declared.request.Request.TheVariants.{PutFile}
use Rattle.account_machine.specs.declared.request.Turn.TheVariants.{Act}
use Rattle.home_edits.specs.Files.{PutsFile}
use Rattle.home_edits.proofs.CostLemmas.{costs_none}
use Rattle.user_state.specs.Turns.{IsGiven}
use Rattle.user_state.specs.declared.state.Doubt.{Doubt}
use Rattle.user_state.specs.declared.state.Doubt.TheVariants.{File}
use Rattle.turn_rows.specs.Due.{IsDue}
use Rattle.turn_edits.specs.Endings.{IsFile, IsEnded, IsCaused, doubt_of}
use Rattle.turn_edits.specs.Stashes.{LacksPayload}
use Rattle.turn_edits.proofs.EndingLemmas.{ended_by, caused_by, failed_only, failed_calm}
use Rattle.turn_edits.proofs.EditGiven.{coherent_at, costs_at}
use Rattle.turn_edits.proofs.FileRows.{file_given, file_edits_at, file_put_at, has_room, is_small}
use Rattle.turn_edits.proofs.StandsIn.{stood_turn, stood_ended, starved_caused}
use Rattle.turn_edits.proofs.files.put_under.Goals as goal

-- the file isn't too large
pub prepare-made-requires-clause-size : goal.prepare-made-requires-clause-size
prepare-made-requires-clause-size g c =
    let small = is_small c.args.state.now c.requires.ready c.args.state.now.account c.args.name.now c.args.bytes.now
    c.requires.due in
    subst (λ (b : List ℕ). length b ≤ 49152) (sym c.as_slice.ensures.value) small

-- the table's row
pub returns-in-Ok-clause-given : goal.returns-in-Ok-clause-given
returns-in-Ok-clause-given g c = λ account.
    let r = c.put_file-put.result in
    let before = c.args.state.now in
    let old = g.S.Share.seen c.args.share.now in
    let new = g.S.Share.seen c.put_file-put.new.share in
    let only = failed_only r c.put_file-put.ensures.only in
    subst (λ (n : List ℕ). IsGiven old new before
    (record before { generator = c.iv-iv.new.self; stored = c.put_file-put.new.stored; doubt = c.told.new.kept })
    (Act (PutFile account n c.args.bytes.now)) c.told.result) c.in-Ok.ensures.name
    (subst (λ (pair : Option Doubt × Answer). IsGiven old new before
    (record before { generator = c.iv-iv.new.self; stored = c.put_file-put.new.stored; doubt = pair.0 })
    (Act (PutFile account c.in-Ok.put.name c.args.bytes.now)) pair.1)
    (λ i. (
      (ap (λ (d : Doubt). doubt_of d before.doubt r) (sym c.in-Ok.ensures.doubt) ∙ sym c.told.ensures.doubt) i,
      sym c.told.ensures.answer i,
    ))
    (file_given old new before c.requires.ready c.requires.lost account c.args.bytes.now c.args.vault.now c.in-Ok.put
    c.iv-iv.new.self c.put_file-put.new.stored r
    (subst (λ (n : List ℕ). IsDue before (Act (PutFile account n c.args.bytes.now))) (sym c.in-Ok.ensures.name)
    c.requires.due)
    c.requires.vault c.requires.home
    (file_put_at c.as_str.ensures.value c.as_slice.ensures.value c.in-Ok.ensures.put)
    (file_edits_at c.as_str-in-Ok.ensures.value c.put_file-put.ensures.edits c.args.vault.now c.args.bytes.now
    (file_put_at c.as_str.ensures.value c.as_slice.ensures.value c.in-Ok.ensures.put)) only
    (failed_calm r (new ≡ old) c.put_file-put.ensures.only) c.put_file-put.ensures.err c.put_file-put.ensures.lost
    (coherent_at c.as_str-in-Ok.ensures.value (c.put_file-put.ensures.coherent c.in-Ok.ensures.put.files_are
    (has_room before c.requires.ready account c.in-Ok.put.name c.args.bytes.now
    (subst (λ (n : List ℕ). IsDue before (Act (PutFile account n c.args.bytes.now))) (sym c.in-Ok.ensures.name)
    c.requires.due))) c.requires.sound.coherent).files))

-- no step was made
pub returns-in-Err-clause-given : goal.returns-in-Err-clause-given
returns-in-Err-clause-given g c = λ account.
    stood_turn c.args.state.now c.requires.ready (Act (PutFile account c.args.name.now c.args.bytes.now)) tt
    c.iv-iv.new.self account answers.NoMemory (inr refl) (g.S.Share.seen c.args.share.now)

-- what is loaded fits together
pub returns-in-Ok-clause-sound : goal.returns-in-Ok-clause-sound
returns-in-Ok-clause-sound g c = record {
  coherent = coherent_at c.as_str-in-Ok.ensures.value (c.put_file-put.ensures.coherent
      c.in-Ok.ensures.put.files_are
      (has_room c.args.state.now c.requires.ready c.args.state.now.account c.in-Ok.put.name c.args.bytes.now
      (subst (λ (n : List ℕ). IsDue c.args.state.now (Act (PutFile c.args.state.now.account n c.args.bytes.now)))
      (sym c.in-Ok.ensures.name) c.requires.due))) c.requires.sound.coherent;
  least = c.requires.sound.least;
  most = c.requires.sound.most;
  keyed = c.requires.sound.keyed;
}

pub returns-in-Err-clause-sound : goal.returns-in-Err-clause-sound
returns-in-Err-clause-sound g c = record {
  coherent = c.requires.sound.coherent;
  least = c.requires.sound.least;
  most = c.requires.sound.most;
  keyed = c.requires.sound.keyed;
}

-- only a fault leaves a doubt
pub returns-in-Ok-clause-ended : goal.returns-in-Ok-clause-ended
returns-in-Ok-clause-ended g c =
    let r = c.put_file-put.result in
    let before = c.args.state.now in
    subst (λ (pair : Option Doubt × Answer). IsEnded (IsFile c.args.state.now.account c.args.name.now) before
    (record before { generator = c.iv-iv.new.self; stored = c.put_file-put.new.stored; doubt = pair.0 }) pair.1)
    (λ i. (
      (ap (λ (d : Doubt). doubt_of d before.doubt r) (sym c.in-Ok.ensures.doubt) ∙ sym c.told.ensures.doubt) i,
      sym c.told.ensures.answer i,
    ))
    (ended_by (IsFile c.args.state.now.account c.args.name.now) before c.iv-iv.new.self before.sessions c.put_file-put.new.stored
    (File c.in-Ok.put.name c.in-Ok.put.sealed) r (
      c.in-Ok.ensures.name,
      (file_edits_at c.as_str-in-Ok.ensures.value c.put_file-put.ensures.edits c.args.vault.now c.args.bytes.now
          (file_put_at c.as_str.ensures.value c.as_slice.ensures.value c.in-Ok.ensures.put)).named,
    ) c.requires.ready.settled
    (failed_only r c.put_file-put.ensures.only) c.put_file-put.ensures.err)

pub returns-in-Err-clause-ended : goal.returns-in-Err-clause-ended
returns-in-Err-clause-ended g c =
    stood_ended (IsFile c.args.state.now.account c.args.name.now) c.args.state.now c.iv-iv.new.self c.args.state.now.account answers.NoMemory
    (inr refl) c.requires.ready.settled

-- an IV was drawn
pub returns-in-Ok-clause-draws : goal.returns-in-Ok-clause-draws
returns-in-Ok-clause-draws g c = record {
  words = 3;
  some = omega arith;
  few = omega arith;
  moved_is =
      c.iv-iv.ensures.moves;
}

pub returns-in-Err-clause-draws : goal.returns-in-Err-clause-draws
returns-in-Err-clause-draws g c = record {
  words = 3;
  some = omega arith;
  few = omega arith;
  moved_is =
      c.iv-iv.ensures.moves;
}

-- no step puts a factor's record
pub returns-in-Err-clause-cost : goal.returns-in-Err-clause-cost
returns-in-Err-clause-cost g c =
    costs_none (g.S.Share.seen c.args.share.now) c.args.state.now.account c.args.state.now.cost

-- why it was answered so
pub returns-in-Ok-clause-caused : goal.returns-in-Ok-clause-caused
returns-in-Ok-clause-caused g c =
    let r = c.put_file-put.result in
    let old = g.S.Share.seen c.args.share.now in
    let new = g.S.Share.seen c.put_file-put.new.share in
    subst (IsCaused old new c.args.state.now.account (LacksPayload c.args.state.now)) (sym c.told.ensures.answer)
    (caused_by old new c.args.state.now.account (LacksPayload c.args.state.now) c.args.state.now.stored
    c.put_file-put.new.stored (PutsFile c.args.vault.now c.in-Ok.put.name c.args.bytes.now) r
    (file_edits_at c.as_str-in-Ok.ensures.value c.put_file-put.ensures.edits c.args.vault.now c.args.bytes.now
    (file_put_at c.as_str.ensures.value c.as_slice.ensures.value c.in-Ok.ensures.put)).edits
    (failed_only r c.put_file-put.ensures.only) (failed_calm r (new ≡ old) c.put_file-put.ensures.only))

pub returns-in-Err-clause-caused : goal.returns-in-Err-clause-caused
returns-in-Err-clause-caused g c =
    starved_caused (g.S.Share.seen c.args.share.now) c.args.state.now.account (LacksPayload c.args.state.now)

pub returns-in-Ok-clause-cost : goal.returns-in-Ok-clause-cost
returns-in-Ok-clause-cost g c =
    costs_at (g.S.Share.seen c.args.share.now) (g.S.Share.seen c.put_file-put.new.share)
    c.as_str-in-Ok.ensures.value refl (c.put_file-put.ensures.cost c.args.state.now.cost)
