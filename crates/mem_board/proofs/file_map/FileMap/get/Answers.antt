use Rattle.std.proofs.Common.{ap, sym, ◌∙◌}
use Rattle.std.specs.FinMap.{get}
use Rattle.mem_board.proofs.FileMapLemmas.{get_lookup}
use Rattle.mem_board.proofs.file_map.FileMap.get.Goals as goal

-- the tree's look-up is the map's
pub returns : goal.returns
returns c = record {
  value =
      c.get.ensures.value
      ∙ sym (get_lookup c.args.name.now c.self.inside.entries.entries)
      ∙ ap (λ m. get m c.args.name.now) c.self.view_is;
}
