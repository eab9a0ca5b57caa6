use Rattle.std.proofs.Common.{◌∙◌, ap, sym}
use Rattle.home_recovery.specs.Told.{lost_tree}
use Rattle.user_opening_tests.proofs.support.take_turn.Goals as goal

-- a turn keeps the roots of the state and of the share
pub returns : goal.returns
returns c =
    let turned = c.act.ensures.act 0 0 in
    record {
      ready = record {
        steady = c.act.ensures.steady;
        lost = turned.keeps.lost ∙ c.requires.ready.lost ∙ ap lost_tree (sym turned.runs.lost);
      };
    }
