use Rattle.random_values.proofs.generator.fill.Goals as goal
use Rattle.random_values.proofs.StretchLemmas.{filled_by}

pub returns-clause-bytes : goal.returns-clause-bytes
returns-clause-bytes c =
    (filled_by c.args.rng.now c.fill_bytes_via_u32.new.rng c.args.words _ c.fill_bytes_via_u32.new.dst
    c.requires.stream c.requires.below c.requires.whole c.fill_bytes_via_u32.ensures).0

pub returns-clause-moves : goal.returns-clause-moves
returns-clause-moves c =
    (filled_by c.args.rng.now c.fill_bytes_via_u32.new.rng c.args.words _ c.fill_bytes_via_u32.new.dst
    c.requires.stream c.requires.below c.requires.whole c.fill_bytes_via_u32.ensures).1
