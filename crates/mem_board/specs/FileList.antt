-- Files that are given as a list.
use Rattle.std.specs.Prelude.{ℕ, List, [], ◌∷◌}
use Rattle.std.specs.FinMap.{insert}
use Rattle.board_model.specs.Files.{Files}

-- the files with those of a list put one after the other, so that of one name the last stands
abbrev pub with_files : Files → List (List ℕ × List ℕ) → Files
with_files files [] = files
with_files files (file ∷ rest) = with_files (insert files file.0 file.1) rest
