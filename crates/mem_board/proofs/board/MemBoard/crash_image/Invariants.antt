use Rattle.std.proofs.Common.{◌-◌, drop, length}
use Rattle.mem_board.specs.CrashState.{choice_of}
use Rattle.mem_board.specs.Content.{image_of}
use Rattle.mem_board.proofs.CrashLemmas.{LeftBy}
use Rattle.mem_board.proofs.board.MemBoard.crash_image.Given as goal

-- the calls so far are the oldest
abbrev pub invariant-loop-number : goal.invariant-loop-number
invariant-loop-number l =
    let calls = l.fn.self.calls.items in
    LeftBy (image_of l.fn.self.first) (drop (length calls - l.number) calls) l.synced l.fn.pick
    (choice_of l.crash) (image_of l.crash.content)
