use Rattle.std.proofs.Common.{◌+◌}
use Rattle.pw_leaf.specs.Contents.{no_stamp}
use Rattle.pw_leaf.proofs.ChangeLemmas.{leaf_bytes-with_tries}
use Rattle.pw_leaf.proofs.laws.changed_count_changes_nothing_else.Goals as goal

pub returns : goal.returns
returns c =
    record {
      bumped = λ keys bytes x now. leaf_bytes-with_tries keys bytes x (x.wrong + 1) now;
      cleared = λ keys bytes x. leaf_bytes-with_tries keys bytes x 0 no_stamp;
    }
