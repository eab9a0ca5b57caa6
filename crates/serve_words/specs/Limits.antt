-- How words are answered: the limits, the statuses, and the clients' numbers.
use Rattle.std.specs.Prelude.{ℕ, ◌==◌, ◌≤◌, ◌&&◌, nat_le, List, length, Option, None, Some, Result, Ok, Err, IsTrue, max, if◌then◌else◌}
use Rattle.std.specs.List.{list_all}
use Rattle.home_names.specs.Names.{is_account_name}
use Rattle.serve_words.specs.declared.fault.UsageFault.{UsageFault}
use Rattle.serve_words.specs.declared.fault.UsageFault.TheVariants.{BadWords, TooMany, NoMemory}
use Rattle.serve_words.specs.declared.options.ServeOptions.{ServeOptions}
use Rattle.serve_words.specs.Words.{Word, Asked, asked_by}

-- at most 64 accounts and 16 clients
abbrev pub within_limits : Option Asked → Result Asked UsageFault
within_limits None = Err BadWords
within_limits (Some asked) =
    if nat_le (length asked.accounts) 64 && nat_le asked.clients 16
    then Ok asked
    else Err (TooMany (length asked.accounts) asked.clients)

-- what is answered where memory is there
abbrev pub answer_to : List Word → Result Asked UsageFault
answer_to words = within_limits (asked_by words)

abbrev pub seen_of : ServeOptions → Asked
seen_of options = record {
  clients = options.clients;
  cost = options.cost;
  dir = options.dir;
  accounts = options.accounts.items;
}

abbrev pub status_of : UsageFault → ℕ
status_of BadWords = 2
status_of NoMemory = 5
status_of (TooMany accounts clients) = 7

-- client 0 alone, or clients from 1 on
abbrev pub first_client : ℕ → ℕ
first_client clients = if clients == 0 then 0 else 1

abbrev pub client_count : ℕ → ℕ
client_count clients = max clients 1

-- What is served: a cost from 1 to 16, names of accounts, and no more accounts and clients than may be.
pub record IsBounded (asked : Asked) : Type 0 where
  pub least : 1 ≤ asked.cost
  pub most : asked.cost ≤ 16
  pub plain : IsTrue (list_all is_account_name asked.accounts)
  pub few : length asked.accounts ≤ 64
  pub clients : asked.clients ≤ 16
