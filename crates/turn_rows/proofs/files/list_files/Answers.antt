use Rattle.std.proofs.Common.{List, ℕ, map, ap, sym, ◌∙◌, subst}
use Rattle.account_machine.specs.declared.answer.Answer.TheVariants as answers
use Rattle.account_machine.specs.declared.request.Request.TheVariants.{ListFiles}
use Rattle.account_machine.specs.declared.request.Turn.TheVariants.{Act}
use Rattle.stored_home.specs.declared.stored.Kept.{Kept}
use Rattle.user_state.specs.Turns.{IsGiven}
use Rattle.turn_rows.proofs.Quiet.{starved_given}
use Rattle.turn_rows.proofs.Rows.{list_given}
use Rattle.turn_rows.proofs.files.list_files.Goals as goal

pub returns-in-Ok-clause-given : goal.returns-in-Ok-clause-given
returns-in-Ok-clause-given c = λ share account.
    subst (λ (names : List (List ℕ)). IsGiven share share c.args.state.now c.args.state.now (Act (ListFiles account))
    (answers.OkFiles names))
    (sym (c.in-Ok.ensures.value ∙ ap (map (λ (row : List ℕ × Kept). row.0)) c.rows.ensures))
    (list_given c.args.state.now c.requires.ready share account c.requires.due)

pub returns-in-Err-clause-given : goal.returns-in-Err-clause-given
returns-in-Err-clause-given c = λ share account.
    starved_given c.args.state.now c.requires.ready (Act (ListFiles account)) tt share
