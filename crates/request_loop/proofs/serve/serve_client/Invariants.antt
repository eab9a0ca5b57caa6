use Rattle.std.proofs.Common.{◌≡◌, ◌≤◌, ◌+◌, ◌-◌, ◌^◌, min, ℕ, List, [], ◌++◌, length, vec_capacity}
use Rattle.fault_count.specs.Told.{Becomes}
use Rattle.request_loop.specs.Lines.{ended_seen}
use Rattle.request_loop.specs.Exchange.{Exchange}
use Rattle.request_loop.specs.Served.{WritesAll, lines_answered}
use Rattle.request_loop.specs.Cut.{HoldsPart, Serves}
use Rattle.request_loop.proofs.serve.serve_client.Given as goal

-- so far the whole lines of what was taken were answered, all replies were written, and none waits
abbrev pub invariant-loop-taken : goal.invariant-loop-taken
invariant-loop-taken g l = record {
  room : 256 ≤ vec_capacity l.reply;
  none : l.replies.bytes.items ≡ [];
  within : l.taken ≤ 2 ^ 32;
  counted : min (g.S.Source.taken l.initial.source + l.taken) (2 ^ 64 - 1) ≤ g.S.Source.taken l.source;
  most : g.S.Source.taken l.source ≤ g.S.Source.taken l.initial.source + l.taken;
  source_count : g.S.Source.faults l.source ≡ g.S.Source.faults l.initial.source;
  sink_count : g.K.Sink.faults l.sink ≡ g.K.Sink.faults l.initial.sink;
  bytes : List ℕ;
  count : length bytes ≡ l.taken;
  left : Becomes (g.S.Source.left l.initial.source) (g.S.Source.left l.source) (λ input rest. input ≡ bytes ++ rest);
  exchanges : List Exchange;
  lines : lines_answered exchanges ≡ ended_seen bytes;
  served : Serves (λ start. g.V.Service.answered start l.initial.service) (λ start. g.V.Service.answered start l.service) (g.K.Sink.written l.initial.sink) (g.K.Sink.written l.sink)
      (g.C.Clock.given l.initial.clock) (g.C.Clock.given l.clock) WritesAll exchanges;
  part : HoldsPart l.part.is_long l.part.bytes.items bytes;
}

abbrev pub decreases-loop-taken : goal.decreases-loop-taken
decreases-loop-taken g l = 2 ^ 32 - l.taken
