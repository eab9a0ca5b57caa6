use Rattle.turn_edits.proofs.Drawing.{goes_on}
use Rattle.turn_edits.proofs.laws.drawing_goes_on.Goals as goal

pub returns : goal.returns
returns c = goes_on
