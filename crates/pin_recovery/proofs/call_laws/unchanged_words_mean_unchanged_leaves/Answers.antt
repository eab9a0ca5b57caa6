use Rattle.pin_recovery.proofs.CleanLemmas.{unchanged}
use Rattle.pin_recovery.proofs.call_laws.unchanged_words_mean_unchanged_leaves.Goals as goal

pub returns : goal.returns
returns c = unchanged
