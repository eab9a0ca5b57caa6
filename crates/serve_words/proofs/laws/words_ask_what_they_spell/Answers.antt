-- The law is its lemmas.
use Rattle.serve_words.proofs.Spelling.{asked_found, asked_spelled}
use Rattle.serve_words.proofs.laws.words_ask_what_they_spell.Goals as goal

pub returns : goal.returns
returns c = record { found = asked_found; only = asked_spelled }
