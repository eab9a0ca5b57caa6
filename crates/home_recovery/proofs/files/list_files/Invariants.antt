use Rattle.std.proofs.Common.{take}
use Rattle.home_recovery.specs.Parts.{AreFiles}
use Rattle.home_recovery.proofs.files.list_files.Given as goal

-- the files are those among the names so far
abbrev pub invariant-loop-name : goal.invariant-loop-name
invariant-loop-name l = AreFiles l.fn.account (take l.name-index l.fn.listed) l.files
