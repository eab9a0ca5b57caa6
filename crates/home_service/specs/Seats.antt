-- Clients that are served by their seats of a home.
use Rattle.std.specs.Prelude.{◌≡◌, ℕ, Bool, List, Option, map}
use Rattle.std.specs.List.{AllByRecursion}
use Rattle.request_loop.specs.Exchange.{Exchange}
use Rattle.request_loop.specs.declared.serve.LoopEnd.{LoopEnd}
use Rattle.client_output.specs.Grown.{SeatSeen, Grew}
use Rattle.client_output.specs.Seats.{BareSeat}
use Rattle.client_threads.specs.declared.line_job.LineJob.{LineJob}
use Rattle.run_desk.specs.declared.desk.Client.{Client}
use Rattle.home_service.specs.Served.{ServesEnds}

-- a job's client
abbrev pub client_of : {S K C V : Type 0} → LineJob S K C V → Client S K C
client_of job = record { source = job.source; sink = job.sink; clock = job.clock }

-- A client that was served by its seat: how its loop ended, its lines with their replies, and its ends and its seat
-- before and after.
pub record SeatServing (T S K C : Type 0) : Type 0 where
  pub end : LoopEnd
  pub exchanges : List Exchange
  pub before : Client S K C
  pub after : Client S K C
  pub first : T
  pub last : T

module _ {T S K C : Type 0} (left : S → Option (List ℕ)) (taken source_faults : S → ℕ)
    (written : K → Option (List ℕ)) (sink_faults : K → ℕ) (given : C → Option (List ℕ))
    (pins : Bool) (seen : T → SeatSeen) (bare : T → List (Option BareSeat)) where
  -- the lines were answered by the seat, which is the same but for what it knows
  pub record ServesSeat (serving : SeatServing T S K C) : Type 0 where
    pub loop : ServesEnds left taken source_faults written sink_faults given serving.end serving.exchanges
        serving.before serving.after
    pub same : bare serving.last ≡ bare serving.first
    pub grew : Grew pins (seen serving.first) (seen serving.last) serving.exchanges

  -- Clients with these ends and seats were served in their order until their loops ended so. They are left with those.
  pub record ServesSeats (ended : List LoopEnd) (befores afters : List (Client S K C)) (firsts lasts : List T)
      : Type 0 where
    pub servings : List (SeatServing T S K C)
    pub ended_is : ended ≡ map (λ serving. serving.end) servings
    pub befores_are : befores ≡ map (λ serving. serving.before) servings
    pub afters_are : afters ≡ map (λ serving. serving.after) servings
    pub firsts_are : firsts ≡ map (λ serving. serving.first) servings
    pub lasts_are : lasts ≡ map (λ serving. serving.last) servings
    pub each : AllByRecursion ServesSeat servings
