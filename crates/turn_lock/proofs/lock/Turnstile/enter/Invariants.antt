-- What a value under this lock is to the entries: it stands with them and the first value.
use Rattle.turn_lock.specs.Rule.{IsKnown}
use Rattle.turn_lock.proofs.lock.Turnstile.enter.Given as goal

abbrev pub ghosts-wait : goal.ghosts-wait
ghosts-wait g a = record {
  holds = λ seat value entries. g.T.Tale.stands a.table.now.key.value.value value entries
      × IsKnown g.T.Tale.caller entries seat;
}
