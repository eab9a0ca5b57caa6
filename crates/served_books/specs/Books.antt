-- A home's clients, served by the books of its accounts.
use Rattle.std.specs.Prelude.{◌≡◌, ℕ, ◌+◌, false, List, [], ◌∷◌, Option, map}
use Rattle.std.specs.List.{AllByRecursion, range_with_len}
use Rattle.request_loop.specs.Exchange.{Exchange}
use Rattle.request_loop.specs.declared.serve.LoopEnd.{LoopEnd}
use Rattle.account_machine.specs.Legal.{own_entries}
use Rattle.client_output.specs.Books.{BookSeen, own_in}
use Rattle.client_output.specs.Output.{IsOutput, Owned}
use Rattle.client_threads.specs.Ends.{ends_from}
use Rattle.client_threads.specs.declared.ending.ClientsEnd.{ClientsEnd}
use Rattle.run_desk.specs.declared.desk.Client.{Client}
use Rattle.home_locks.specs.declared.account.Entry.{Entry}
use Rattle.turn_meaning.specs.declared.taken.TurnTaken.{TurnTaken}
use Rattle.home_seats.specs.Seats.{entry_at}
use Rattle.home_service.specs.Served.{ServesEnds}

-- the accounts of these names, each with its book
abbrev pub books_seen : List (List ℕ) → List (List (Entry TurnTaken)) → List BookSeen
books_seen [] books = []
books_seen (name ∷ names) [] = []
books_seen (name ∷ names) (book ∷ books) =
    record { account = name; entries = map entry_at book } ∷ books_seen names books

-- a client's own entries in each account's book
abbrev pub owned : ℕ → List (List ℕ) → List (List (Entry TurnTaken)) → List Owned
owned client names books = map (own_in client) (books_seen names books)

-- a client that was served: how its loop ended, its lines with their replies, and its ends before and after
pub record Serving (S K C : Type 0) : Type 0 where
  pub end : LoopEnd
  pub exchanges : List Exchange
  pub before : Client S K C
  pub after : Client S K C

module _ {S K C : Type 0} (left : S → Option (List ℕ)) (taken source_faults : S → ℕ)
    (written : K → Option (List ℕ)) (sink_faults : K → ℕ) (given : C → Option (List ℕ))
    (names : List (List ℕ)) (books : List (List (Entry TurnTaken))) where
  -- The client's lines are answered by its own entries in the books: each line made its own in order, and none is left.
  pub record IsClientServed (client : ℕ) (serving : Serving S K C) : Type 0 where
    pub loop : ServesEnds left taken source_faults written sink_faults given serving.end serving.exchanges
        serving.before serving.after
    pub output : IsOutput false client (owned client names books) serving.exchanges

  -- so are the clients from this number on
  abbrev pub AreClientsServed : ℕ → List (Serving S K C) → Type 0
  AreClientsServed client [] = Unit {0}
  AreClientsServed client (serving ∷ servings) =
      IsClientServed client serving × AreClientsServed (client + 1) servings

  -- Clients with these ends were all served, in their order, and are left with those. The end tells of the first client
  -- by the number `first`.
  pub record AreServed (first : ℕ) (end : ClientsEnd) (befores afters : List (Client S K C)) : Type 0 where
    pub servings : List (Serving S K C)
    pub befores_are : befores ≡ map (λ serving. serving.before) servings
    pub afters_are : afters ≡ map (λ serving. serving.after) servings
    pub end_is : end ≡ ends_from first (map (λ serving. serving.end) servings)
    pub served : AreClientsServed 0 servings

-- none of so many clients, numbered from 0, has a turn in a book
abbrev pub HaveNoTurns : ℕ → List (List (Entry TurnTaken)) → Type 0
HaveNoTurns clients books = AllByRecursion (λ client. AllByRecursion
    (λ book. own_entries client (map entry_at book) ≡ []) books) (range_with_len 0 clients)
