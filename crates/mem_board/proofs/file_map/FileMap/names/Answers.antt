use Rattle.std.proofs.Common.{◌≡◌, map, ap, sym, ◌∙◌, rules}
use Rattle.std.specs.FinMap.{keys}
use Rattle.mem_board.proofs.FileMapLemmas.{sorted_keys}
use Rattle.mem_board.proofs.file_map.FileMap.names.Goals as goal

-- the tree's names are in order
pub returns : goal.returns
returns c =
    let tree = c.self.inside.entries.entries in
    let all : c.loop-name.names.items ≡ map (λ e. e.0) tree = search rules in
    record {
      value =
          all ∙ sym (sorted_keys tree c.keys-name-items.ensures.ordered) ∙ ap keys c.self.view_is;
    }
