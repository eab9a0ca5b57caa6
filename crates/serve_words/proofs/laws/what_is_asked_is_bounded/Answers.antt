-- The law is its lemma.
use Rattle.serve_words.proofs.Bounds.{is_bounded}
use Rattle.serve_words.proofs.laws.what_is_asked_is_bounded.Goals as goal

pub returns : goal.returns
returns c = is_bounded
