use Rattle.pw_chip.proofs.ReachedLemmas.{IsWords-reached}
use Rattle.pw_chip.proofs.word_laws.reached_words_are_read.Goals as goal

pub returns : goal.returns
returns c = IsWords-reached
