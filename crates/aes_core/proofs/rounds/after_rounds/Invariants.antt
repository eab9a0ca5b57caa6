use Rattle.std.proofs.Common.{◌≡◌}
use Rattle.aes_core.specs.Aes.{rounds}
use Rattle.aes_core.specs.Words.{state_bytes}
use Rattle.aes_core.proofs.rounds.after_rounds.Given as goal

abbrev pub invariant-rounds : goal.invariant-rounds
invariant-rounds l =
    state_bytes l.e l.f l.g l.h ≡ rounds l.words (state_bytes l.a l.b l.c l.d) l.r
