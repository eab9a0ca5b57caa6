use Rattle.std.proofs.Common.{ap, ◌∙◌}
use Rattle.std.specs.FinMap.{insert}
use Rattle.mem_board.proofs.FileMapLemmas.{inserted}
use Rattle.mem_board.proofs.file_map.FileMap.insert.Goals as goal

-- the tree's update is the map's
pub returns-clause-ok : goal.returns-clause-ok
returns-clause-ok c =
    let old = c.self.inside.entries in
    let updates = c.in_ok-insert.ensures.updates in
    inserted old c.insert.new.self c.args.name c.args.bytes updates
    ∙ ap (λ m. insert m c.args.name c.args.bytes) c.self.view_is
