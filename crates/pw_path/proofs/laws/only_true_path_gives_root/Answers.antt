use Rattle.std.proofs.Common.{inl, inr, ◌⊎◌}
use Rattle.pw_path.specs.Path.{OnPath, OnTree}
use Rattle.pw_path.proofs.TreeLemmas.{true_value}
use Rattle.pw_path.proofs.laws.only_true_path_gives_root.Goals as goal

pub returns : goal.returns
returns c = λ values label value aux within hashes size shape apart same.
    true_value (λ a. OnPath 0 label value aux a ⊎ OnTree values a) apart values label value aux within hashes size shape
    (λ a on. inl on) (λ a on. inr on) same
