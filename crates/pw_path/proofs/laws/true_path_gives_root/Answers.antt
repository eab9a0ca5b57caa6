use Rattle.pw_path.proofs.TreeLemmas.{root_of_true}
use Rattle.pw_path.proofs.laws.true_path_gives_root.Goals as goal

pub returns : goal.returns
returns c = root_of_true
