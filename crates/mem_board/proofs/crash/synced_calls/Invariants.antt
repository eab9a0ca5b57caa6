use Rattle.std.proofs.Common.{◌≡◌, drop}
use Rattle.mem_board.specs.Crash.{synced_to}
use Rattle.mem_board.proofs.crash.synced_calls.Given as goal

-- no call so far is a sync of the directory
abbrev pub invariant-loop-at : goal.invariant-loop-at
invariant-loop-at l =
    synced_to (drop l.at l.fn.calls.items) ≡ synced_to (drop l.newest l.fn.calls.items)
