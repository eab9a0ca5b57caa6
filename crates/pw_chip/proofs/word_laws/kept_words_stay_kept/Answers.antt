use Rattle.pw_chip.proofs.ReachLemmas.{IsWords-reached_from}
use Rattle.pw_chip.proofs.word_laws.kept_words_stay_kept.Goals as goal

pub returns : goal.returns
returns c = IsWords-reached_from
