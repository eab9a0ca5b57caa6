-- There was no memory for the text, and the desk was asked for nothing.
use Rattle.std.proofs.Common.{inr, refl}
use Rattle.run_ending.specs.declared.ending.Ending.TheVariants as endings
use Rattle.serve_run.proofs.Ends.{asks_nothing, nothing_at_once}
use Rattle.serve_run.proofs.command.run.Goals as goal

pub returns-in_default : goal.returns-in_default
returns-in_default g c = record {
  ended = (
    endings.NoMemory,
    record { status_is = c.status.ensures.value; said_is = inr (refl, c.new.ensures.items) },
    nothing_at_once _ _ _ _ _ (asks_nothing _ _ c.only_board.ensures.board c.only_board.ensures.none),
  );
}
