use Rattle.platform_model.proofs.CrashLemmas.{survives_each}
use Rattle.platform_model.proofs.laws.every_crash_is_recovered.Goals as goal

pub returns : goal.returns
returns c = survives_each
