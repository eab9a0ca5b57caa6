use Rattle.std.proofs.Common.{sym, ap, ◌∙◌}
use Rattle.std.specs.FinMap.{empty}
use Rattle.mem_board.specs.FileList.{with_files}
use Rattle.mem_board.proofs.FileMapLemmas.{with_sorted}
use Rattle.mem_board.proofs.file_map.FileMap.copy.Goals as goal

-- the tree's entries are in order
pub returns : goal.returns
returns c =
    let tree = c.self.inside.entries.entries in
    let gives = c.into_iter-name-iterator.ensures.into_iter_gives in
    record {
      value =
          ap (with_files c.loop-name.copy) (sym c.in-None.ensures.steps.0)
          ∙ c.loop-name.invariant
          ∙ ap (with_files empty) gives.0
          ∙ with_sorted tree gives.5
          ∙ c.self.view_is;
    }
