use Rattle.std.proofs.Common.{cond, eqb}
use Rattle.pw_path.specs.Tree.{AgreeBut}
use Rattle.pw_path.proofs.TreeLemmas.{root_of_changed, set_value_other, set_value_same}
use Rattle.pw_path.proofs.laws.changed_value_gives_new_root.Goals as goal

pub returns : goal.returns
unfolding AgreeBut
returns c = λ values label value within.
    root_of_changed values (λ i. cond (eqb i label) value (values i)) label value within
    (set_value_other values label value) (set_value_same values label value)
