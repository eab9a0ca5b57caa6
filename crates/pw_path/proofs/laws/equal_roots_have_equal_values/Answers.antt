use Rattle.std.proofs.Common.{inl, inr, ◌⊎◌}
use Rattle.pw_path.specs.Path.{OnTree}
use Rattle.pw_path.proofs.TreeLemmas.{one_tree}
use Rattle.pw_path.proofs.laws.equal_roots_have_equal_values.Goals as goal

pub returns : goal.returns
returns c = λ values others label within hashes hashes' apart same.
    one_tree (λ a. OnTree values a ⊎ OnTree others a) apart values others hashes hashes' (λ a on. inl on) (λ a on. inr on) same label within
