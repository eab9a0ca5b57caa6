-- How a run ends whose clients were all served, by the ends of their loops.
use Rattle.std.specs.Prelude.{◌≡◌, ℕ, ◌+◌, Bool, true, false, List, ◌∷◌, ◌++◌, length, Option, None, Some}
use Rattle.std.specs.List.{AllByRecursion, position_from}
use Rattle.request_loop.specs.declared.serve.LoopEnd.{LoopEnd}
use Rattle.request_loop.specs.declared.serve.LoopEnd.TheVariants as loops
use Rattle.client_threads.specs.declared.ending.Mark.{Mark}
use Rattle.client_threads.specs.declared.ending.Mark.TheVariants as marks
use Rattle.client_threads.specs.declared.ending.ClientsEnd.{ClientsEnd}
use Rattle.client_threads.specs.declared.ending.ClientsEnd.TheVariants.{Served, NoMemory, ClientFault, InputLimit}

-- what an end asks: the source or the sink failed, the input limit was met, or there was no memory
abbrev pub is_marked : Mark → LoopEnd → Bool
is_marked marks.Fault loops.End = false
is_marked marks.Fault loops.SourceFault = true
is_marked marks.Fault loops.SinkFault = true
is_marked marks.Fault loops.InputLimit = false
is_marked marks.Fault loops.NoMemory = false
is_marked marks.Limit loops.End = false
is_marked marks.Limit loops.SourceFault = false
is_marked marks.Limit loops.SinkFault = false
is_marked marks.Limit loops.InputLimit = true
is_marked marks.Limit loops.NoMemory = false
is_marked marks.Starved loops.End = false
is_marked marks.Starved loops.SourceFault = false
is_marked marks.Starved loops.SinkFault = false
is_marked marks.Starved loops.InputLimit = false
is_marked marks.Starved loops.NoMemory = true

-- the least number of a client whose loop ended so, where the first has this number
abbrev pub least : Mark → ℕ → List LoopEnd → Option ℕ
least mark first ended = position_from (is_marked mark) first ended

-- a fault, else a limit, else want of memory
abbrev pub first_told : Option ℕ → Option ℕ → Option ℕ → ClientsEnd
first_told (Some client) limit starved = ClientFault client
first_told None (Some client) starved = InputLimit client
first_told None None (Some client) = NoMemory
first_told None None None = Served

-- how the clients ended whose loops ended so
abbrev pub ends_from : ℕ → List LoopEnd → ClientsEnd
ends_from first ended =
    first_told (least marks.Fault first ended) (least marks.Limit first ended) (least marks.Starved first ended)

-- no client's loop ended so
abbrev pub HasNone : Mark → List LoopEnd → Type 0
HasNone mark ended = AllByRecursion (λ end. is_marked mark end ≡ false) ended

-- the client's loop ended so, and none before it
pub record IsLeast (mark : Mark) (first : ℕ) (ended : List LoopEnd) (client : ℕ) : Type 0 where
  pub before : List LoopEnd
  pub end : LoopEnd
  pub after : List LoopEnd
  pub ends_are : ended ≡ before ++ end ∷ after
  pub client_is : client ≡ first + length before
  pub none : HasNone mark before
  pub one : is_marked mark end ≡ true

-- the program's status
abbrev pub status_of : ClientsEnd → ℕ
status_of Served = 0
status_of NoMemory = 5
status_of (ClientFault client) = 6
status_of (InputLimit client) = 8
