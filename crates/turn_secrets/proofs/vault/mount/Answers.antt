use Rattle.std.proofs.Common.{ℕ, List, Some, refl, sym, ap, ◌∙◌, subst, ⊎_elim}
use Rattle.std.specs.Prelude.{slice_get, option_and_then}
use Rattle.account_machine.specs.declared.answer.Answer.{Answer}
use Rattle.account_machine.specs.declared.answer.Answer.TheVariants as answers
use Rattle.account_machine.specs.declared.request.Request.TheVariants.{Mount}
use Rattle.account_machine.specs.declared.request.Turn.TheVariants.{Act}
use Rattle.auth_session.specs.declared.table.Kept.{Kept}
use Rattle.record_names.specs.Names.{stash_name}
use Rattle.user_state.specs.Turns.{IsGiven}
use Rattle.turn_rows.proofs.Quiet.{starved_given}
use Rattle.turn_secrets.specs.Mounts.{MountAnswers}
use Rattle.turn_secrets.proofs.Mounting.{main_there, mounted_given, damaged_given}
use Rattle.turn_secrets.proofs.vault.mount.Goals as goal

-- the session is authenticated, so it has a main key
pub unreachable-requires-in_default-main : goal.unreachable-requires-in_default-main
unreachable-requires-in_default-main c =
    main_there c.args.state.now c.args.token.now c.args.state.now.account c.in-Some.at c.requires.due
    c.requires.sound.keyed c.in-Some.ensures.some.0 c.in-Some.ensures.some.1 (sym c.in_default-main.ensures)

-- the vault is open
pub returns-in-Opened-clause-given : goal.returns-in-Opened-clause-given
returns-in-Opened-clause-given c = λ share account.
    let before = c.args.state.now in
    let v = c.in-Opened.ensures in
    subst (λ (vault : List ℕ). IsGiven share share before (record before { vault = Some vault })
    (Act (Mount account c.args.token.now)) answers.Ok) (sym v.2)
    (mounted_given before c.requires.ready c.args.token.now account c.requires.due c.in-Some-main.main.now
    c.in-Some-stash.stash
    (record {
      main_is = ap (λ p. option_and_then (λ (k : Kept). k.main) (slice_get before.sessions.kept p))
          (sym c.in-Some.ensures.some.0) ∙ sym c.in-Some-main.ensures;
      stash_is = c.in-Some-stash.is;
    }) v.0 v.1 share)

pub returns-in-Opened-clause-answers : goal.returns-in-Opened-clause-answers
returns-in-Opened-clause-answers c =
    let before = c.args.state.now in
    let v = c.in-Opened.ensures in
    record {
      main = c.in-Some-main.main.now;
      stash = c.in-Some-stash.stash;
      has = record {
        main_is = ap (λ p. option_and_then (λ (k : Kept). k.main) (slice_get before.sessions.kept p))
            (sym c.in-Some.ensures.some.0) ∙ sym c.in-Some-main.ensures;
        stash_is = c.in-Some-stash.is;
      };
      payload = v.0;
      opens = v.1;
      same = ap (λ (vault : List ℕ). record before { vault = Some vault }) v.2;
    }

-- the payload doesn't open
pub returns-in-Damaged-clause-given : goal.returns-in-Damaged-clause-given
returns-in-Damaged-clause-given c = λ share account.
    let before = c.args.state.now in
    let turn = Act (Mount account c.args.token.now) in
    ⊎_elim
    (λ e. subst (λ (answer : Answer). IsGiven share share before before turn answer) (sym e)
    (damaged_given before c.requires.ready turn tt c.stash.result share))
    (λ e. subst (λ (answer : Answer). IsGiven share share before before turn answer) (sym e)
    (starved_given before c.requires.ready turn tt share))
    c.damaged.ensures

pub returns-in-Damaged-clause-answers : goal.returns-in-Damaged-clause-answers
returns-in-Damaged-clause-answers c =
    let before = c.args.state.now in
    ⊎_elim
    (λ e. subst (MountAnswers c.args.token.now before before) (sym e)
    (record {
      main = c.in-Some-main.main.now;
      stash = c.in-Some-stash.stash;
      has = record {
        main_is = ap (λ p. option_and_then (λ (k : Kept). k.main) (slice_get before.sessions.kept p))
            (sym c.in-Some.ensures.some.0) ∙ sym c.in-Some-main.ensures;
        stash_is = c.in-Some-stash.is;
      };
      none = c.in-Damaged.ensures;
      name_is = c.stash.ensures.value ∙ ap stash_name c.as_str.ensures.value;
      same = refl;
    }))
    (λ e. subst (MountAnswers c.args.token.now before before) (sym e) refl)
    c.damaged.ensures

-- there was no memory
pub returns-in-Starved-clause-given : goal.returns-in-Starved-clause-given
returns-in-Starved-clause-given c = λ share account.
    starved_given c.args.state.now c.requires.ready (Act (Mount account c.args.token.now)) tt share
