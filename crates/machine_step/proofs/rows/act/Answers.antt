use Rattle.std.proofs.Common.{List, ℕ, map, ap, sym, ◌∙◌}
use Rattle.account_machine.specs.declared.answer.Answer.TheVariants as answers
use Rattle.account_machine.specs.Effect.{gives, effect, line_of}
use Rattle.machine_step.specs.Done.{tail_in}
use Rattle.machine_step.proofs.rows.act.Goals as goal

pub returns-in-Create : goal.returns-in-Create
returns-in-Create c = (
  answers.Ok,
  ap (effect c.args.era (tail_in c.args.answer.now) c.args.user.now) c.in-Create.is
      ∙ ap (λ d. gives answers.Ok (record c.args.user.now { durable = d })) (sym c.new_home.ensures),
  c.is_ok.ensures,
)

pub returns-in-EndSession : goal.returns-in-EndSession
returns-in-EndSession c = (
  answers.Ok,
  ap (effect c.args.era (tail_in c.args.answer.now) c.args.user.now) c.in-EndSession.is
      ∙ ap (λ ss. gives answers.Ok (record c.args.user.now { sessions = ss })) (sym c.end.ensures),
  c.is_ok-in-EndSession.ensures,
)

pub returns-in-ListFactors : goal.returns-in-ListFactors
returns-in-ListFactors c = (
  answers.OkFactors (map line_of c.rows.result.now),
  ap (effect c.args.era (tail_in c.args.answer.now) c.args.user.now) c.in-ListFactors.is
      ∙ ap (λ rows. gives (answers.OkFactors (map line_of rows)) c.args.user.now) (sym c.rows.ensures),
  c.is_factors.ensures,
)

pub returns-in-Mount : goal.returns-in-Mount
returns-in-Mount c =
    (answers.Ok, ap (effect c.args.era (tail_in c.args.answer.now) c.args.user.now) c.in-Mount.is, c.is_ok-in-Mount.ensures)

pub returns-in-Unmount : goal.returns-in-Unmount
returns-in-Unmount c =
    (answers.Ok, ap (effect c.args.era (tail_in c.args.answer.now) c.args.user.now) c.in-Unmount.is, c.is_ok-in-Unmount.ensures)

pub returns-in-ListFiles : goal.returns-in-ListFiles
returns-in-ListFiles c = (
  answers.OkFiles (map (λ (row : List ℕ × List ℕ). row.0) c.rows-in-ListFiles.result.now),
  ap (effect c.args.era (tail_in c.args.answer.now) c.args.user.now) c.in-ListFiles.is
      ∙ ap (λ rows. gives (answers.OkFiles (map (λ (row : List ℕ × List ℕ). row.0) rows)) c.args.user.now) (sym c.rows-in-ListFiles.ensures),
  c.is_files.ensures,
)
