-- What the words of `serve [--clients N] [--cost K] DIR [NAME..]` ask.
use Rattle.std.specs.Prelude.{ℕ, ◌==◌, Bool, false, ◌&&◌, not, nat_le, List, [], ◌∷◌, length, take, drop, codes, Option, None, Some, if◌then◌else◌}
use Rattle.std.specs.Option.{option_and_then}
use Rattle.std.specs.List.{list_all, list_any, filter}
use Rattle.std.specs.Str.{bytes_eq}
use Rattle.std.specs.Char.{is_ascii_digit}
use Rattle.std.specs.Str.Parse.{digits_value}
use Rattle.home_names.specs.Names.{is_account_name}

abbrev pub Word : Type 0
Word = List ℕ

-- what is asked: a number of clients, a cost, a directory, and accounts, each once
pub record Asked : Type 0 where
  pub clients : ℕ
  pub cost : ℕ
  pub dir : Word
  pub accounts : List Word

-- the number that 1 to so many decimal digits write
abbrev pub number_of : ℕ → Word → Option ℕ
number_of most digits =
    if nat_le 1 (length digits) && nat_le (length digits) most && list_all is_ascii_digit digits
    then Some (digits_value 10 digits)
    else None

abbrev pub clients_of : Word → Option ℕ
clients_of digits = number_of 10 digits

-- a cost is from 1 to 16
abbrev pub cost_at : ℕ → Option ℕ
cost_at number = if nat_le 1 number && nat_le number 16 then Some number else None

abbrev pub cost_of : Word → Option ℕ
cost_of digits = option_and_then cost_at (number_of 2 digits)

-- the number that is asked: without the option client 0 alone, and the usual cost
abbrev pub clients_asked : Option Word → Option ℕ
clients_asked None = Some 0
clients_asked (Some digits) = clients_of digits

abbrev pub cost_asked : Option Word → Option ℕ
cost_asked None = Some 14
cost_asked (Some digits) = cost_of digits

-- what follows a text in a word that begins with it
abbrev pub behind : Word → Word → Option Word
behind front word =
    if bytes_eq (take (length front) word) front then Some (drop (length front) word) else None

-- the value in a word that begins with an option's name and =
abbrev pub value_in : Word → Word → Option Word
value_in name word = option_and_then (behind (codes "=")) (behind name word)

-- the next word is the option's value, where there is one
abbrev pub in_next : Word → List Word → Option Word × List Word
in_next word [] = (None, word ∷ [])
in_next word (value ∷ rest) = (Some value, rest)

-- the value stands in the option's word, where it does
abbrev pub in_same : Option Word → Word → List Word → Option Word × List Word
in_same None word rest = (None, word ∷ rest)
in_same (Some value) word rest = (Some value, rest)

-- an option that stands first: its value, and the words behind it; else all words
abbrev pub option_at : Word → List Word → Option Word × List Word
option_at name [] = (None, [])
option_at name (word ∷ rest) =
    if bytes_eq word name then in_next word rest else in_same (value_in name word) word rest

-- the option's value, where it stands before the other option or behind it
abbrev pub before_or_behind : Word → Option Word → List Word → Option Word × List Word
before_or_behind name (Some value) rest = (Some value, rest)
before_or_behind name None rest = option_at name rest

-- the values of --clients and of --cost, in either order and each at most once, and the words behind them
pub record Options : Type 0 where
  pub clients : Option Word
  pub cost : Option Word
  pub rest : List Word

abbrev pub options_at : List Word → Options
options_at words =
    let first = option_at (codes "--clients") words in
    let cost = option_at (codes "--cost") first.1 in
    let clients = before_or_behind (codes "--clients") first.0 cost.1 in
    record { clients = clients.0; cost = cost.0; rest = clients.1 }

-- a directory: it isn't empty, and doesn't begin with -
abbrev pub is_dir : Word → Bool
is_dir [] = false
is_dir (byte ∷ bytes) = not (byte == 45)

abbrev pub is_among : List Word → Word → Bool
is_among names name = list_any (λ held. bytes_eq held name) names

-- each name once, at its first place
abbrev pub each_once : List Word → List Word
each_once [] = []
each_once (name ∷ names) = name ∷ filter (λ other. not (bytes_eq name other)) (each_once names)

abbrev pub asked : ℕ → ℕ → Word → List Word → Asked
asked clients cost dir names =
    record { clients = clients; cost = cost; dir = dir; accounts = each_once names }

-- what is asked with these numbers, by the words behind the options
abbrev pub asked_behind : ℕ → ℕ → List Word → Option Asked
asked_behind clients cost [] = None
asked_behind clients cost (dir ∷ names) =
    if is_dir dir && list_all is_account_name names then Some (asked clients cost dir names) else None

abbrev pub asked_with : Options → Option Asked
asked_with options = option_and_then
    (λ clients. option_and_then (λ cost. asked_behind clients cost options.rest) (cost_asked options.cost))
    (clients_asked options.clients)

-- what words ask, and nothing where they aren't in the grammar
abbrev pub asked_by : List Word → Option Asked
asked_by [] = None
asked_by (command ∷ words) =
    if bytes_eq command (codes "serve") then asked_with (options_at words) else None
