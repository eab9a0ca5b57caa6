use Rattle.std.proofs.Common.{ℕ, List, take}
use Rattle.std.specs.Prelude.{Contains, bytes_eq}
use Rattle.std.specs.List.{IsDistinct}
use Rattle.record_names.specs.Names.{IsRecordName}
use Rattle.cabinet.proofs.opening.record_names.Given as goal

-- the names are those among the files so far
abbrev pub invariant-loop-file : goal.invariant-loop-file
invariant-loop-file l = record {
  found : (q : List ℕ) → IsRecordName q → Contains (take l.file-index l.files) q → Contains l.names.items q;
  only : (q : List ℕ) → Contains l.names.items q → IsRecordName q × Contains (take l.file-index l.files) q;
  once : IsDistinct bytes_eq l.files → IsDistinct bytes_eq l.names.items;
}
