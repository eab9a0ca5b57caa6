-- The grammar of the words: serve [--clients N] [--cost K] DIR [NAME..], the options in either order.
use Rattle.std.specs.Prelude.{◌≡◌, ◌⊎◌, List, [], ◌∷◌, ◌++◌, codes, Option, None, Some, IsTrue}
use Rattle.std.specs.List.{list_all}
use Rattle.home_names.specs.Names.{is_account_name}
use Rattle.serve_words.specs.Words.{Word, Asked, clients_asked, cost_asked, is_dir, each_once}

-- an option's name and its value, or both in one word with = between them
abbrev pub Spells : Word → Word → List Word → Type 0
Spells name value words =
    (words ≡ name ∷ value ∷ []) ⊎ (words ≡ (name ++ (codes "=" ++ value)) ∷ [])

-- an option may be absent
abbrev pub SpellsOption : Word → Option Word → List Word → Type 0
SpellsOption name None words = words ≡ []
SpellsOption name (Some value) words = Spells name value words

-- the two come before the rest, in either order
abbrev pub InFront : List Word → List Word → List Word → List Word → Type 0
InFront clients cost rest words =
    (words ≡ clients ++ (cost ++ rest)) ⊎ (words ≡ cost ++ (clients ++ rest))

-- the words are in the grammar, and ask this
pub record Asks (words : List Word) (what : Asked) : Type 0 where
  pub clients : Option Word
  pub cost : Option Word
  pub clients_words : List Word
  pub cost_words : List Word
  pub names : List Word
  pub behind : List Word
  pub command : words ≡ codes "serve" ∷ behind
  pub options : InFront clients_words cost_words (what.dir ∷ names) behind
  pub clients_spelled : SpellsOption (codes "--clients") clients clients_words
  pub cost_spelled : SpellsOption (codes "--cost") cost cost_words
  pub clients_number : clients_asked clients ≡ Some what.clients
  pub cost_number : cost_asked cost ≡ Some what.cost
  pub dir : IsTrue (is_dir what.dir)
  pub named : IsTrue (list_all is_account_name names)
  pub accounts : what.accounts ≡ each_once names
