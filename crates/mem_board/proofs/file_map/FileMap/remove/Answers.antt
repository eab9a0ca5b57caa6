use Rattle.std.proofs.Common.{ap, ◌∙◌}
use Rattle.std.specs.FinMap.{remove}
use Rattle.mem_board.proofs.FileMapLemmas.{removed}
use Rattle.mem_board.proofs.file_map.FileMap.remove.Goals as goal

-- the tree's removal is the map's
pub returns : goal.returns
returns c =
    let old = c.self.inside.entries in
    record {
      value =
          removed old c.remove.new.self c.args.name.now c.remove.ensures.updates
          ∙ ap (λ m. remove m c.args.name.now) c.self.view_is;
    }
