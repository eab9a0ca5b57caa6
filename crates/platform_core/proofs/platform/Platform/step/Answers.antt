use Rattle.std.proofs.Common.{sym, subst}
use Rattle.image_path.proofs.StandLemmas.{lawful, stands-step, since-step}
use Rattle.share_api.specs.Steps.{Does}
use Rattle.platform_core.specs.Records.{Shows}
use Rattle.platform_core.specs.Standing.{IsRight, number_of}
use Rattle.platform_core.specs.Held.{board_of, accounts_of, memory_of, is_unsettled}
use Rattle.platform_core.specs.Kept as kept
use Rattle.platform_core.proofs.ChainLemmas.{chain_step}
use Rattle.platform_core.proofs.platform.Platform.step.Goals as goal

pub returns-clause-right : goal.returns-clause-right
returns-clause-right g c = λ right.
    subst (IsRight (g.B.Board.disk c.work-reply.new.records.cabinet.board) (kept.memory_of c.work-reply.new.records))
    (sym c.has_failed-self.ensures) (c.work-reply.ensures.right right)

pub returns-clause-goes : goal.returns-clause-goes
returns-clause-goes g c = λ era right.
    c.work-reply.ensures.goes era c.args.moment c.args.self.now.distinct right

pub returns-clause-stands : goal.returns-clause-stands
returns-clause-stands g c = λ era since first chain right stands.
    let old = board_of c.args.self.now in
    let new = c.work-reply.new.records.cabinet.board in
    stands-step number_of (Does era) (Shows (accounts_of c.args.self.now)) since first (g.B.Board.disk old)
    (g.B.Board.disk new) _ chain
    (returns-clause-goes g c era right)
    (lawful (g.B.Board.disk old) (g.met.B.Board.counts_now old) (g.met.B.Board.only_now old))
    (lawful (g.B.Board.disk new) (g.met.B.Board.counts_now new) (g.met.B.Board.only_now new)) stands

pub returns-clause-images : goal.returns-clause-images
returns-clause-images g c = λ era since tick ended first chain right stands was sooner fits.
    let old = board_of c.args.self.now in
    let new = c.work-reply.new.records.cabinet.board in
    since-step number_of (Does era) (Shows (accounts_of c.args.self.now)) since first (g.B.Board.disk old)
    (g.B.Board.disk new) _ chain
    (returns-clause-goes g c era right)
    (lawful (g.B.Board.disk old) (g.met.B.Board.counts_now old) (g.met.B.Board.only_now old))
    (lawful (g.B.Board.disk new) (g.met.B.Board.counts_now new) (g.met.B.Board.only_now new)) stands tick ended was fits
    (λ i left. g.met.B.Board.since_earlier new since tick i sooner left)

pub returns-clause-chain : goal.returns-clause-chain
returns-clause-chain g c = λ era first chain stands.
    let old = board_of c.args.self.now in
    let new = c.work-reply.new.records.cabinet.board in
    chain_step era (accounts_of c.args.self.now) c.args.self.now.distinct (g.B.Board.disk (board_of first))
    (g.B.Board.disk old) (g.B.Board.disk new)
    (memory_of first) (memory_of c.args.self.now) (kept.memory_of c.work-reply.new.records)
    (is_unsettled c.args.self.now) c.has_failed-self.result _ chain
    (lawful (g.B.Board.disk old) (g.met.B.Board.counts_now old) (g.met.B.Board.only_now old))
    (lawful (g.B.Board.disk new) (g.met.B.Board.counts_now new) (g.met.B.Board.only_now new))
    c.requires.own c.work-reply.ensures.edits.any_moment (returns-clause-right g c) (returns-clause-goes g c era) stands

pub returns-clause-shown : goal.returns-clause-shown
returns-clause-shown g c = λ right all image left.
    let goes = returns-clause-goes g c (record { boot = 0; start = 0 }) right in
    let from = goes.moments.each image left in
    let was = all from.0 from.1 in
    let to = from.2 was.0 was.1 in
    (to.0, to.1)

pub returns-clause-shown_after : goal.returns-clause-shown_after
returns-clause-shown_after g c = λ right all image left.
    let goes = returns-clause-goes g c (record { boot = 0; start = 0 }) right in
    let from = goes.ended image left in
    let was = all from.0 from.1 in
    let to = from.2 was.0 was.1 in
    (to.0, to.1)
