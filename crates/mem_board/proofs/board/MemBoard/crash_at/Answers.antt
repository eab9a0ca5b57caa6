use Rattle.std.proofs.Common.{refl, sym, ap, ◌∙◌, subst}
use Rattle.std.proofs.lemmas.Result.{IfOk-weaker}
use Rattle.mem_board.specs.Images.{IsImage, WasImage}
use Rattle.mem_board.specs.Crash.{calls_to, synced_to}
use Rattle.mem_board.specs.Memory.{Memory, memory_of}
use Rattle.mem_board.proofs.CrashLemmas.{image_chosen_at, since_then}
use Rattle.mem_board.proofs.board.MemBoard.crash_at.Goals as goal

-- the image that is chosen is one of those at that tick
pub returns-clause-left : goal.returns-clause-left
returns-clause-left c =
    let m = memory_of c.args.self.now in
    let calls = calls_to m c.args.tick in
    let left = image_chosen_at (synced_to calls) m.first calls c.args.pick refl in
    IfOk-weaker c.begin.result _ _ (λ board is.
    subst (IsImage m.first calls) (sym (ap (λ (n : Memory). n.first) is ∙ c.in_ok-content.ensures.value)) left) c.begin.ensures.starts

-- and so of those since that tick
pub returns-clause-since : goal.returns-clause-since
returns-clause-since c =
    let m = memory_of c.args.self.now in
    let calls = calls_to m c.args.tick in
    let left = image_chosen_at (synced_to calls) m.first calls c.args.pick refl in
    let since = since_then m.first m.calls c.args.tick _ c.requires left in
    IfOk-weaker c.begin.result _ _ (λ board is.
    subst (WasImage m.first m.calls c.args.tick) (sym (ap (λ (n : Memory). n.first) is ∙ c.in_ok-content.ensures.value)) since) c.begin.ensures.starts
