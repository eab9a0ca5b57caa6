-- How the clients of a run were served, or why they weren't.
use Rattle.std.specs.Prelude.{◌≡◌, ◌⊎◌, ℕ, ◌+◌, ◌<◌, List, length, Option, None, Some}
use Rattle.fault_count.specs.Causes.{HasCause}
use Rattle.client_threads.specs.declared.ending.ClientsEnd.{ClientsEnd}
use Rattle.client_threads.specs.declared.ending.ClientsEnd.TheVariants as clients_ends
use Rattle.run_desk.specs.Desk.{DeskSeen, HandsOut}
use Rattle.run_desk.specs.declared.desk.Client.{Client}
use Rattle.run_desk.specs.declared.desk.DeskFault.{DeskFault}
use Rattle.run_desk.specs.declared.desk.DeskFault.TheVariants as desk_faults
use Rattle.run_ending.specs.declared.ending.Ending.{Ending}
use Rattle.run_ending.specs.declared.ending.Ending.TheVariants as endings
use Rattle.served_books.specs.Books.{AreServed, HaveNoTurns}
use Rattle.serve_run.specs.Left.{LeftOver}
use Rattle.serve_run.specs.Outside.{Outside}

-- how a run ends whose clients were served until they ended so
abbrev pub ending_told : ClientsEnd → Ending
ending_told clients_ends.Served = endings.Served
ending_told clients_ends.NoMemory = endings.NoMemory
ending_told (clients_ends.ClientFault client) = endings.ClientFault client
ending_told (clients_ends.InputLimit client) = endings.InputLimit client

-- where there was no memory to begin, nobody was served
abbrev pub ending_of : Option ClientsEnd → Ending
ending_of None = endings.NoMemory
ending_of (Some end) = ending_told end

-- how a run ends whose client of this number couldn't be opened
abbrev pub ending_unopened : ℕ → DeskFault → Ending
ending_unopened client desk_faults.Failed = endings.ClientFault client
ending_unopened client desk_faults.NoMemory = endings.NoMemory

module _ {B S K C : Type 0} (outside : Outside B S K C) (first count : ℕ) (before after : DeskSeen B S K C)
    (left_over : LeftOver B S K C) where
  -- All clients were handed out and served until their loops ended, by the entries of the books. The ending is that of
  -- these ends.
  pub record AreServedUntil (ending : Ending) : Type 0 where
    pub end : ClientsEnd
    pub ending_is : ending ≡ ending_told end
    pub handed : List (Client S K C)
    pub count_is : length handed ≡ count
    pub handed_out : HandsOut before after handed
    pub served : AreServed outside.left outside.taken outside.source_faults outside.written outside.sink_faults
        outside.given left_over.names left_over.books first end handed left_over.clients
    pub quiet : after.faults ≡ before.faults

  -- All clients were handed out, and there was no memory to serve them: they are as they were, and no book has a turn
  -- of theirs.
  pub record AreStarved (ending : Ending) : Type 0 where
    pub ending_is : ending ≡ endings.NoMemory
    pub count_is : length left_over.clients ≡ count
    pub handed_out : HandsOut before after left_over.clients
    pub none : HaveNoTurns count left_over.books
    pub quiet : after.faults ≡ before.faults

  -- This client couldn't be opened, and those before it are as they were handed out. Nobody was served. The desk's
  -- count rose exactly where it failed.
  pub record StopsAt (client : ℕ) (fault : DeskFault) : Type 0 where
    pub client_is : client ≡ first + length left_over.clients
    pub fewer : length left_over.clients < count
    pub handed_out : HandsOut before after left_over.clients
    pub none : HaveNoTurns count left_over.books
    pub cause : HasCause before.faults after.faults (fault ≡ desk_faults.Failed)

  pub record StaysUnserved (ending : Ending) : Type 0 where
    pub client : ℕ
    pub fault : DeskFault
    pub ending_is : ending ≡ ending_unopened client fault
    pub stops : StopsAt client fault

  -- how serving went
  abbrev pub EndsSo : Ending → Type 0
  EndsSo ending = AreServedUntil ending ⊎ AreStarved ending ⊎ StaysUnserved ending
