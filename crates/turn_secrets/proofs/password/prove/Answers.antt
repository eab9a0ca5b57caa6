use Rattle.std.proofs.Common.{◌≡◌, true, false, Some, Ok, Err, refl, sym, ap, ◌∙◌, subst, inl, inr, ⊎_elim}
use Rattle.std.specs.Prelude.{IsErrOf}
use Rattle.account_machine.specs.declared.answer.Answer.TheVariants as answers
use Rattle.account_machine.specs.declared.request.Request.TheVariants.{Authenticate}
use Rattle.account_machine.specs.declared.request.Turn.TheVariants.{Act}
use Rattle.auth_session.specs.Table.{Table, edit_at, proved_kept}
use Rattle.home_edits.specs.Costs.{PutsCost}
use Rattle.home_edits.proofs.Edited.{ok_not_fault}
use Rattle.share_api.specs.Contents.{Bytes}
use Rattle.share_api.specs.Seen.{ShareSeen}
use Rattle.stored_home.specs.Coherent.{IsCoherent}
use Rattle.stored_home.specs.declared.fault.StoreFault.{StoreFault}
use Rattle.stored_home.specs.declared.fault.StoreFault.TheVariants as faults
use Rattle.stored_home.specs.declared.stored.Stored.{Stored}
use Rattle.stored_home.specs.Loaded.{block_in}
use Rattle.stored_home.proofs.MapLemmas.{either}
use Rattle.user_state.specs.Turns.{IsGiven}
use Rattle.user_state.specs.Sound.{IsSound}
use Rattle.user_state.specs.declared.state.Doubt.TheVariants.{Editions}
use Rattle.turn_secrets.specs.Binding.{is_unbound, drawn_by, Binds}
use Rattle.turn_secrets.proofs.Proving.{proved_given, doubted_given, starved_later, proved_end_there, failed_not_ok}
use Rattle.turn_secrets.proofs.Sounds.{sound_proved, sound_doubted}
use Rattle.turn_secrets.proofs.password.prove.Goals as goal

-- the session keeps the main key
pub returns-in-Ok-clause-given : goal.returns-in-Ok-clause-given
returns-in-Ok-clause-given g c = λ token secret account place due right.
    let before = c.args.state.now in
    subst (λ (table : Table). IsGiven (g.S.Share.seen c.args.share.now) (g.S.Share.seen c.bind.new.share) before
    (record before { stored = c.bind.new.stored; generator = c.bind.new.generator; sessions = table })
    (Act (Authenticate account token c.args.label.now secret)) (answers.OkPassword c.prove.result))
    (sym c.prove.ensures.after)
    (proved_given before c.requires.ready token c.args.label.now secret account c.args.at place c.requires.inside due
    c.args.key.now c.args.main.now right (g.S.Share.seen c.args.share.now) (g.S.Share.seen c.bind.new.share)
    c.requires.lost c.bind.new.stored (true ≡ true) (IsErrOf {T = Unit {0}} {E = StoreFault} (Ok tt) faults.Failed)
    (subst (λ (a : Bytes). Binds (g.S.Share.seen c.args.share.now) (g.S.Share.seen c.bind.new.share) a before.stored
    c.bind.new.stored c.args.label.now c.args.key.now c.args.main.now (true ≡ true)
    (IsErrOf {T = Unit {0}} {E = StoreFault} (Ok tt) faults.Failed)) c.as_str-account.ensures.value
    c.in-Ok.ensures.binds) refl (ok_not_fault tt faults.Failed)
    (ap (λ (s : Stored). s.lost) c.in-Ok.ensures.same)
    (subst (λ (a : Bytes). IsCoherent a c.bind.new.stored) c.as_str-account.ensures.value
    c.in-Ok.ensures.coherent).files
    c.bind.new.generator c.prove.result c.prove.ensures.end)

pub returns-in-Ok-clause-answers : goal.returns-in-Ok-clause-answers
returns-in-Ok-clause-answers g c = λ token secret place right.
    let before = c.args.state.now in
    record {
      key = c.args.key.now;
      main = c.args.main.now;
      right = right;
      end = proved_end_there before token c.args.at place c.requires.inside c.prove.result c.prove.ensures.end;
      bound = c.in-Ok.ensures.bound;
      loaded = c.in-Ok.ensures.loaded;
      quiet = λ e. (c.in-Ok.ensures.quiet e).0;
      same = λ i. record before {
        stored = c.bind.new.stored;
        generator = c.in-Ok.ensures.drawn i;
        sessions = (c.prove.ensures.after
            ∙ ap (λ p. record before.sessions {
              kept = edit_at (proved_kept c.args.main.now before.last) p before.sessions.kept;
            }) place) i;
      };
    }

pub returns-in-Ok-clause-sound : goal.returns-in-Ok-clause-sound
returns-in-Ok-clause-sound g c =
    let before = c.args.state.now in
    subst (λ (table : Table). IsSound (record before {
      stored = c.bind.new.stored;
      generator = c.bind.new.generator;
      sessions = table;
    })) (sym c.prove.ensures.after)
    (sound_proved before c.requires.sound c.bind.new.stored
    (subst (λ (a : Bytes). IsCoherent a c.bind.new.stored) c.as_str-account.ensures.value c.in-Ok.ensures.coherent)
    c.bind.new.generator c.args.at c.args.main.now)

-- no memory for the record of the stash
pub returns-in-Err-NoMemory-clause-given : goal.returns-in-Err-NoMemory-clause-given
returns-in-Err-NoMemory-clause-given g c = λ token secret account place due right.
    let before = c.args.state.now in
    subst (λ (pair : ShareSeen × Stored). IsGiven (g.S.Share.seen c.args.share.now) pair.0 before
    (record before { stored = pair.1; generator = c.bind.new.generator })
    (Act (Authenticate account token c.args.label.now secret)) answers.NoMemory)
    (λ i. (
      sym (c.in-Err-NoMemory.ensures.calm (λ j. Err (c.in-Err-NoMemory.field-0-is j))) i,
      sym
          c.in-Err-NoMemory.ensures.err i,
    ))
    (starved_later before c.requires.ready c.bind.new.generator account token c.args.label.now secret
    (g.S.Share.seen c.args.share.now))

pub returns-in-Err-NoMemory-clause-answers : goal.returns-in-Err-NoMemory-clause-answers
returns-in-Err-NoMemory-clause-answers g c = λ token secret place right. record {
  quiet = c.in-Err-NoMemory.ensures.calm (λ j. Err (c.in-Err-NoMemory.field-0-is j));
  same = ⊎_elim
      (λ e. inr (λ i. record c.args.state.now {
        stored = c.in-Err-NoMemory.ensures.err i;
        generator = (c.in-Err-NoMemory.ensures.drawn ∙ ap (λ b. drawn_by b c.args.state.now.generator) e) i;
      }))
      (λ e. inl (λ i. record c.args.state.now {
        stored = c.in-Err-NoMemory.ensures.err i;
        generator = (c.in-Err-NoMemory.ensures.drawn ∙ ap (λ b. drawn_by b c.args.state.now.generator) e) i;
      }))
      (either (is_unbound (block_in c.args.state.now.stored.stash c.args.label.now)));
}

pub returns-in-Err-NoMemory-clause-sound : goal.returns-in-Err-NoMemory-clause-sound
returns-in-Err-NoMemory-clause-sound g c =
    let before = c.args.state.now in
    subst (λ (s : Stored). IsSound (record before { stored = s; generator = c.bind.new.generator }))
    (sym c.in-Err-NoMemory.ensures.err)
    (sound_doubted before c.requires.sound before.doubt c.bind.new.generator)

-- the put failed
pub returns-in-Err-Failed-clause-given : goal.returns-in-Err-Failed-clause-given
returns-in-Err-Failed-clause-given g c = λ token secret account place due right.
    let before = c.args.state.now in
    subst (λ (s : Stored). IsGiven (g.S.Share.seen c.args.share.now) (g.S.Share.seen c.bind.new.share) before
    (record before { stored = s; generator = c.bind.new.generator; doubt = Some Editions })
    (Act (Authenticate account token c.args.label.now secret)) answers.StorageFault)
    (sym c.in-Err-Failed.ensures.err)
    (doubted_given before c.requires.ready token c.args.label.now secret account c.args.at place c.requires.inside due
    c.args.key.now c.args.main.now right (g.S.Share.seen c.args.share.now) (g.S.Share.seen c.bind.new.share)
    c.requires.lost c.bind.new.stored (false ≡ true)
    (IsErrOf {T = Unit {0}} {E = StoreFault} (Err c.in-Err-Failed.field-0) faults.Failed)
    (subst (λ (a : Bytes). Binds (g.S.Share.seen c.args.share.now) (g.S.Share.seen c.bind.new.share) a before.stored
    c.bind.new.stored c.args.label.now c.args.key.now c.args.main.now (false ≡ true)
    (IsErrOf {T = Unit {0}} {E = StoreFault} (Err c.in-Err-Failed.field-0) faults.Failed))
    c.as_str-account.ensures.value
    c.in-Err-Failed.ensures.binds)
    (λ j. Err (c.in-Err-Failed.field-0-is j)) c.bind.new.generator)

pub returns-in-Err-Failed-clause-answers : goal.returns-in-Err-Failed-clause-answers
returns-in-Err-Failed-clause-answers g c = λ token secret place right.
    let unbound : is_unbound (block_in c.args.state.now.stored.stash c.args.label.now) ≡ true =
    ⊎_elim (λ e. e) (λ e. absurd (failed_not_ok (c.in-Err-Failed.ensures.quiet e).2))
    (either (is_unbound (block_in c.args.state.now.stored.stash c.args.label.now))) in
    record {
      key = c.args.key.now;
      main = c.args.main.now;
      right = right;
      unbound = unbound;
      same = λ i. record c.args.state.now {
        stored = c.in-Err-Failed.ensures.err i;
        generator = (c.in-Err-Failed.ensures.drawn ∙ ap (λ b. drawn_by b c.args.state.now.generator) unbound) i;
        doubt = Some Editions;
      };
    }

pub returns-in-Err-Failed-clause-sound : goal.returns-in-Err-Failed-clause-sound
returns-in-Err-Failed-clause-sound g c =
    let before = c.args.state.now in
    subst (λ (s : Stored). IsSound (record before {
      stored = s;
      generator = c.bind.new.generator;
      doubt = Some Editions;
    })) (sym c.in-Err-Failed.ensures.err)
    (sound_doubted before c.requires.sound (Some Editions) c.bind.new.generator)

-- no factor's record is put
pub returns-in-Ok-clause-cost : goal.returns-in-Ok-clause-cost
returns-in-Ok-clause-cost g c = λ cost.
    subst (λ (a : Bytes). PutsCost (g.S.Share.seen c.args.share.now) (g.S.Share.seen c.bind.new.share) a cost)
    c.as_str-account.ensures.value (c.in-Ok.ensures.cost cost)

pub returns-in-Err-NoMemory-clause-cost : goal.returns-in-Err-NoMemory-clause-cost
returns-in-Err-NoMemory-clause-cost g c = λ cost.
    subst (λ (a : Bytes). PutsCost (g.S.Share.seen c.args.share.now) (g.S.Share.seen c.bind.new.share) a cost)
    c.as_str-account.ensures.value (c.in-Err-NoMemory.ensures.cost cost)

pub returns-in-Err-Failed-clause-cost : goal.returns-in-Err-Failed-clause-cost
returns-in-Err-Failed-clause-cost g c = λ cost.
    subst (λ (a : Bytes). PutsCost (g.S.Share.seen c.args.share.now) (g.S.Share.seen c.bind.new.share) a cost)
    c.as_str-account.ensures.value (c.in-Err-Failed.ensures.cost cost)
