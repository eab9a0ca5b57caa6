use Rattle.std.proofs.Common.{sym, ◌∙◌, ap, arith, ◌<◌, ◌≤◌, length, drop, ◌+◌, ◌/◌}
use Rattle.pw_path.specs.Path.{climb}
use Rattle.pw_path.proofs.PathLemmas.{climb_more, climb_end}
use Rattle.pw_path.proofs.path.root_of.Goals as goal

-- the node of the next level is what the way up goes on from
pub loop-level-preserved : goal.loop-level-preserved
loop-level-preserved c =
    let aux = c.args.aux.now in
    let level = c.loop-level.level in
    let inside : level < length aux = omega arith in
    ap (λ hash. climb (level + 1) (c.loop-level.index / 4) hash (drop (level + 1) aux)) c.node-above.ensures
    ∙ sym (climb_more aux level c.loop-level.index c.loop-level.hash inside) ∙ c.loop-level.invariant

pub returns : goal.returns
returns c =
    let all : length c.args.aux.now ≤ c.loop-level.level = omega arith in
    sym (climb_end c.args.aux.now c.loop-level.level c.loop-level.index c.loop-level.hash all) ∙ c.loop-level.invariant
