use Rattle.std.proofs.Common.{sym, ap, ◌∙◌, is_some}
use Rattle.turn_edits.proofs.Keyed.{main_found, main_behind}
use Rattle.turn_edits.proofs.keys.has_main.Goals as goal

-- one was found
pub returns-then-is_some : goal.returns-then-is_some
returns-then-is_some c =
    sym (main_found c.args.sessions.now.kept c.loop-at.at
    (ap is_some (sym c.main_at.ensures) ∙ sym c.is_some.ensures ∙ c.if-is_some.true))
    ∙ c.loop-at.invariant

-- there is none here
pub loop-at-preserved : goal.loop-at-preserved
loop-at-preserved c =
    main_behind c.args.sessions.now.kept c.loop-at.at
    (ap is_some (sym c.main_at.ensures) ∙ sym c.is_some.ensures ∙ c.if-is_some.false)
    ∙ c.loop-at.invariant
