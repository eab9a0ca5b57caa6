-- What serving a client did to its ends.
use Rattle.std.specs.Prelude.{◌≡◌, ℕ, ◌+◌, ◌-◌, ◌^◌, ◌≤◌, min, List, Option, map}
use Rattle.fault_count.specs.Causes.{HasCause}
use Rattle.fault_count.specs.Told.{Becomes, Gives}
use Rattle.request_loop.specs.Exchange.{Exchange}
use Rattle.request_loop.specs.Served.{TakesLines, WritesReplies}
use Rattle.request_loop.specs.declared.serve.LoopEnd.{LoopEnd}
use Rattle.request_loop.specs.declared.serve.LoopEnd.TheVariants as loops
use Rattle.run_desk.specs.declared.desk.Client.{Client}

module _ {S K C : Type 0} (left : S → Option (List ℕ)) (taken source_faults : S → ℕ)
    (written : K → Option (List ℕ)) (sink_faults : K → ℕ) (given : C → Option (List ℕ)) where
  -- The client's loop ended so over these lines with their replies. The earlier ones are those before the last read.
  pub record ServesEnds (end : LoopEnd) (exchanges : List Exchange) (before after : Client S K C) : Type 0 where
    pub earlier : List Exchange
    pub moments : Gives (given before.clock) (given after.clock) (map (λ x. x.moment) exchanges)
    pub lines : Becomes (left before.source) (left after.source) (TakesLines end earlier exchanges)
    pub replies : Becomes (written before.sink) (written after.sink) (WritesReplies end earlier exchanges)
    -- the input limit is met where 2^32 bytes were taken, and never more are
    pub limit : end ≡ loops.InputLimit → min (taken before.source + 2 ^ 32) (2 ^ 64 - 1) ≤ taken after.source
    pub most : taken after.source ≤ taken before.source + 2 ^ 32
    -- a fault ends the loop exactly where that object's count rose
    pub source_cause : HasCause (source_faults before.source) (source_faults after.source) (end ≡ loops.SourceFault)
    pub sink_cause : HasCause (sink_faults before.sink) (sink_faults after.sink) (end ≡ loops.SinkFault)
