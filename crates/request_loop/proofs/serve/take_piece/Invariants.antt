use Rattle.std.proofs.Common.{◌≡◌, ◌≤◌, ℕ, List, ◌++◌, take, vec_capacity}
use Rattle.request_loop.specs.Lines.{ended_seen}
use Rattle.request_loop.specs.Exchange.{Exchange, written_for}
use Rattle.request_loop.specs.Served.{lines_answered}
use Rattle.request_loop.specs.Cut.{HoldsPart, Queues, Serves}
use Rattle.request_loop.proofs.serve.take_piece.Given as goal

-- so far each line that ended was answered, and its reply was written or waits
abbrev pub invariant-loop-byte : goal.invariant-loop-byte
invariant-loop-byte g l = record {
  room : 256 ≤ vec_capacity l.reply;
  count : g.K.Sink.faults l.sink ≡ g.K.Sink.faults l.initial.sink;
  served : (xs : List Exchange)
      × Serves (λ start. g.V.Service.answered start l.initial.service) (λ start. g.V.Service.answered start l.service) (g.K.Sink.written l.initial.sink) (g.K.Sink.written l.sink)
      (g.C.Clock.given l.initial.clock) (g.C.Clock.given l.clock) (λ exchanges. Queues l.initial.replies.bytes.items l.replies.bytes.items (written_for exchanges)) xs
      × ((taken : List ℕ) → HoldsPart l.initial.part.is_long l.initial.part.bytes.items taken
      → ended_seen (taken ++ take l.byte-index l.piece) ≡ ended_seen taken ++ lines_answered xs);
  part : (taken : List ℕ) → HoldsPart l.initial.part.is_long l.initial.part.bytes.items taken
      → HoldsPart l.part.is_long l.part.bytes.items (taken ++ take l.byte-index l.piece);
}
