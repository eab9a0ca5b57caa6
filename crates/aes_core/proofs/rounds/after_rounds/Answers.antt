use Rattle.std.proofs.Common.{arith}
use Rattle.aes_core.specs.Words.{state_bytes}
use Rattle.aes_core.proofs.RoundLemmas.{rounds_first, rounds_next, rounds_last}
use Rattle.aes_core.proofs.rounds.after_rounds.Goals as goal

pub rounds-init : goal.rounds-init
rounds-init c = rounds_first c.args.words.now c.args.a c.args.b c.args.c c.args.d

pub rounds-preserved : goal.rounds-preserved
rounds-preserved c =
    let block = state_bytes c.args.a c.args.b c.args.c c.args.d in
    rounds_next c.args.words.now block c.rounds.r c.rounds.e c.rounds.f c.rounds.g c.rounds.h _ _ _ _
    c.rounds.invariant c.column-a.ensures c.column-b.ensures c.column-c.ensures c.column-d.ensures

pub returns : goal.returns
returns c =
    let block = state_bytes c.args.a c.args.b c.args.c c.args.d in
    rounds_last c.args.words.now block c.args.nr c.rounds.r
    c.rounds.e c.rounds.f c.rounds.g c.rounds.h _ _ _ _ (omega arith) c.rounds.invariant
    c.last_column.ensures c.last_column-2.ensures c.last_column-3.ensures c.last_column-4.ensures
