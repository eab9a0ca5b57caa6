use Rattle.pw_chip.proofs.AcceptedWordsLemmas.{IsWords-accepted, words_bytes-accepted}
use Rattle.pw_chip.proofs.word_laws.accepted_words_are_written.Goals as goal

pub returns : goal.returns
returns c = λ bytes w long fit e. (IsWords-accepted bytes w long fit e, words_bytes-accepted bytes w long fit e)
