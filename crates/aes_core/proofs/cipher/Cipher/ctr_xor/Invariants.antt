use Rattle.std.proofs.Common.{◌≡◌, length}
use Rattle.aes_core.specs.Counter.{counter}
use Rattle.aes_core.specs.Words.{state_bytes}
use Rattle.aes_core.proofs.StreamLemmas.{IsDone}
use Rattle.aes_core.proofs.cipher.Cipher.ctr_xor.Given as goal

abbrev pub invariant-turns : goal.invariant-turns
invariant-turns g l = record {
  len : length l.buf ≡ l.len;
  counter : state_bytes l.a l.b l.c l.d ≡ counter l.fn.first l.i;
  done : IsDone g.row.NK g.row.NR l.self l.fn.first l.initial.buf l.i l.buf;
}
