use Rattle.pw_chip.proofs.ToldLemmas.{newest_tells, newest_tells_host}
use Rattle.pw_chip.proofs.laws.newest_entry_tells.Goals as goal

pub returns : goal.returns
returns c = record { ledger = newest_tells; host = newest_tells_host }
