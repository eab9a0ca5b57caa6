-- Short inputs and their lines: 97 is `a`, 98 is `b`, 10 is a line feed.
use Rattle.std.proofs.Common.{◌≡◌, [], ◌∷◌, refl}
use Rattle.request_loop.specs.Lines.{whole, too_long, lines_of, lines_ended, lines_seen}
use Rattle.request_loop.specs.Exchange.{written_for}

-- no bytes are no line
pub nothing : lines_of [] ≡ []
nothing = refl

-- a line feed alone is an empty line
pub feed_alone : lines_of (10 ∷ []) ≡ [] ∷ []
feed_alone = refl

-- `a`, line feed, `b`: two lines, of which a line feed ends one
pub rest_without_feed : lines_of (97 ∷ 10 ∷ 98 ∷ []) ≡ (97 ∷ []) ∷ (98 ∷ []) ∷ []
rest_without_feed = refl

pub rest_not_ended : lines_ended (97 ∷ 10 ∷ 98 ∷ []) ≡ (97 ∷ []) ∷ []
rest_not_ended = refl

-- two line feeds in a row enclose an empty line; after the last one there is none
pub feeds_in_a_row : lines_of (97 ∷ 10 ∷ 10 ∷ []) ≡ (97 ∷ []) ∷ [] ∷ []
feeds_in_a_row = refl

-- a carriage return is a byte of its line
pub carriage_return : lines_seen (13 ∷ 10 ∷ []) ≡ whole (13 ∷ []) ∷ []
carriage_return = refl

-- two replies, each with its line feed
pub two_replies : written_for (record { line = whole []; moment = 1; reply = 97 ∷ [] } ∷ record { line = too_long; moment = 2; reply = [] } ∷ []) ≡ 97 ∷ 10 ∷ 10 ∷ []
two_replies = refl
