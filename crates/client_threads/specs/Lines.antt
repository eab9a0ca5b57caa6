-- What serving a client's lines does to its ends and to its service.
use Rattle.std.specs.Prelude.{◌≡◌, ℕ, ◌+◌, ◌-◌, ◌^◌, ◌≤◌, min, List, Option}
use Rattle.fault_count.specs.Causes.{HasCause}
use Rattle.request_loop.specs.Exchange.{Exchange}
use Rattle.request_loop.specs.Served.{IsServed}
use Rattle.request_loop.specs.declared.serve.LoopEnd.TheVariants.{SourceFault, SinkFault, InputLimit}
use Rattle.client_threads.specs.declared.line_job.LineJob.{LineJob}

module _ {S K C V : Type 0} (left : S → Option (List ℕ)) (taken source_faults : S → ℕ)
    (written : K → Option (List ℕ)) (sink_faults : K → ℕ) (given : C → Option (List ℕ))
    (answered : V → V → List Exchange → Type 0) where
  -- the client's loop ended so over these lines, which its service answered
  pub record ServesLines (before after : LineJob S K C V) : Type 0 where
    pub exchanges : List Exchange
    pub served : IsServed after.end (λ start. answered start before.service) (λ start. answered start after.service)
        (left before.source) (left after.source) (written before.sink) (written after.sink)
        (given before.clock) (given after.clock) exchanges
    -- the input limit is met where 2^32 bytes were taken, and never more are
    pub limit : after.end ≡ InputLimit → min (taken before.source + 2 ^ 32) (2 ^ 64 - 1) ≤ taken after.source
    pub most : taken after.source ≤ taken before.source + 2 ^ 32
    -- a fault ends the loop exactly where that object's count rose
    pub source_cause : HasCause (source_faults before.source) (source_faults after.source) (after.end ≡ SourceFault)
    pub sink_cause : HasCause (sink_faults before.sink) (sink_faults after.sink) (after.end ≡ SinkFault)
