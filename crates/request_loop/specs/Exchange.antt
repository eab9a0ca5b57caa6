-- Lines and their replies.
use Rattle.std.specs.Prelude.{ℕ, List, [], ◌∷◌, ◌++◌}
use Rattle.std.specs.List.{flat_map}
use Rattle.request_loop.specs.Lines.{LineSeen}

-- a line, the number that the clock gave for it, and the reply without its line feed
pub record Exchange : Type 0 where
  pub line : LineSeen
  pub moment : ℕ
  pub reply : List ℕ

-- a reply with its line feed
abbrev pub text_of : Exchange → List ℕ
text_of exchange = exchange.reply ++ 10 ∷ []

-- all that is to be written for these
abbrev pub written_for : List Exchange → List ℕ
written_for exchanges = flat_map text_of exchanges
