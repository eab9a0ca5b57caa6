use Rattle.pin_recovery.proofs.ToldLemmas.{replay_told}
use Rattle.pin_recovery.proofs.call_laws.redone_values_are_told.Goals as goal

pub returns : goal.returns
returns c w values label empties = replay_told w.log.newest values label empties
