use Rattle.pw_chip.proofs.ReachLemmas.{reached-start, reached-then, reached-boot, reached-call}
use Rattle.pw_chip.proofs.word_laws.reached_step_by_step.Goals as goal

pub returns : goal.returns
returns c = record { start = reached-start; joined = reached-then; boot = reached-boot; call = reached-call }
