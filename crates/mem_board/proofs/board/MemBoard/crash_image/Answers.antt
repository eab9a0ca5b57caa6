use Rattle.std.proofs.Common.{◌≡◌, get_or, length, ◌-◌, ◌<◌, rules}
use Rattle.mem_board.proofs.CrashLemmas.{left_more}
use Rattle.mem_board.proofs.board.MemBoard.crash_image.Goals as goal

-- the next call is the oldest of those that are left
pub loop-number-preserved : goal.loop-number-preserved
loop-number-preserved c =
    let calls = c.args.self.now.calls.items in
    let number = c.loop-number.number in
    let call = c.index-call.result.now in
    let within : number < length calls = search rules in
    let here : get_or calls (length calls - 1 - number) call ≡ call = search rules in
    let step = c.in_ok-step.ensures in
    left_more _ calls number _ _ call _ _ _ _ within here c.loop-number.invariant step.choice step.content
