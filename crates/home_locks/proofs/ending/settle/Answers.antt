-- The joined seat has all numbers, and knows the steps of each account.
use Rattle.std.proofs.Common.{sym, ◌∙◌, subst}
use Rattle.home_locks.specs.Closing.{Closes, KnowsEnds}
use Rattle.home_locks.proofs.SettleLemmas.{knows_numbers, settles, moved_books, recalled_books}
use Rattle.home_locks.proofs.ending.settle.Goals as goal

pub close-platform-requires-clause-numbers : goal.close-platform-requires-clause-numbers
close-platform-requires-clause-numbers g c =
    let closes = c.close_all.ensures.closes in
    knows_numbers c.args.shared.id closes.ends c.unwrap-seat.result
    (subst (KnowsEnds c.args.shared.id closes.ends) c.unwrap-seat.ensures closes.knows)
    (sym closes.accounts_are ∙ c.requires.numbers)

pub returns : goal.returns
returns g c =
    let device = c.args.shared.first.device in
    let rules = g.K.AccountTurns.rules (g.K.Platform.Device.seen device).era in
    let chain = c.close-platform.result.1 in
    let closes = subst (Closes rules c.args.shared.id _ _ _ _ _) c.unwrap-seat.ensures c.close_all.ensures.closes in
    record {
      settled = (
        chain,
        c.close-platform.ensures.stands,
        moved_books rules c.args.shared.id _ _ _ _ _ c.unwrap-seat.result chain closes c.requires.empty
            c.requires.numbers c.close-platform.ensures.entries,
        λ opened. settles rules c.args.shared.id _ _ _ _ _ c.unwrap-seat.result chain _ _ _ _
            closes c.requires.empty c.requires.numbers c.close-platform.ensures.entries
            (g.met.K.AccountTurns.recovers device c.close-platform.result.0.device chain opened
            c.close-platform.ensures.stands.chain_stands)
            (g.met.K.AccountTurns.lasts device c.close-platform.result.0.device chain opened
            c.close-platform.ensures.stands.chain_stands),
      );
      own = recalled_books rules c.args.shared.id _ _ _ _ _ _ c.close_all.ensures.closes c.requires.empty;
    }
