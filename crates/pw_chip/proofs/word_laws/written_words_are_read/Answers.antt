use Rattle.pw_chip.proofs.WordsLemmas.{words_at-words_bytes}
use Rattle.pw_chip.proofs.word_laws.written_words_are_read.Goals as goal

pub returns : goal.returns
returns c = words_at-words_bytes
