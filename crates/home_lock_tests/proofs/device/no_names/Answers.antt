-- All three lists are empty.
use Rattle.std.proofs.Common.{rules}
use Rattle.home_lock_tests.proofs.NoNames.{listed_of_nothing}
use Rattle.home_lock_tests.proofs.device.no_names.Goals as goal

pub returns : goal.returns
returns c = listed_of_nothing _ _ _ (search rules) (search rules) (search rules)
