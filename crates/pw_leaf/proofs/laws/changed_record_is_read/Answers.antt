use Rattle.pw_leaf.proofs.ChangeLemmas.{check_at-bumped, check_at-cleared}
use Rattle.pw_leaf.proofs.laws.changed_record_is_read.Goals as goal

pub returns : goal.returns
returns c = record { bumped = check_at-bumped; cleared = check_at-cleared }
