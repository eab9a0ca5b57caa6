use Rattle.std.proofs.Common.{◌≡◌}
use Rattle.std.specs.FinMap.{empty}
use Rattle.mem_board.specs.FileList.{with_files}
use Rattle.mem_board.proofs.file_map.FileMap.copy.Given as goal

-- with the files that are left put as well, the copy has them all
abbrev pub invariant-loop-name : goal.invariant-loop-name
invariant-loop-name l = with_files l.copy l.name-iterator ≡ with_files empty l.initial.name-iterator
