use Rattle.std.proofs.Common.{◌≡◌, ◌≢◌, rules, Some}
use Rattle.std.specs.FinMap.{get}
use Rattle.mem_board.proofs.FileMapLemmas.{moved, moved_to_itself}
use Rattle.mem_board.proofs.file_map.FileMap.rename.Goals as goal

pub returns-in_ok-insert-clause-ok : goal.returns-in_ok-insert-clause-ok
returns-in_ok-insert-clause-ok c =
    let there : get c.args.self.now c.args.from.now ≡ Some c.in-Some.bytes.now = search rules in
    let ne : c.args.from.now ≢ c.args.to.now = search rules in
    let goes = moved c.args.self.now c.args.from.now c.args.to.now c.in-Some.bytes.now there ne in
    search rules

pub returns-else-ne-clause-ok : goal.returns-else-ne-clause-ok
returns-else-ne-clause-ok c =
    let there : get c.args.self.now c.args.from.now ≡ Some c.in-Some.bytes.now = search rules in
    let same : c.args.from.now ≡ c.args.to.now = search rules in
    let goes = moved_to_itself c.args.self.now c.args.from.now c.in-Some.bytes.now there in
    search rules
