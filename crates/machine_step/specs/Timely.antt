-- Accounts whose moments are below 2^40, as every clock's are.
use Rattle.std.specs.Prelude.{◌≡◌, ℕ, ◌<◌, ◌^◌, List, Some, IfSome}
use Rattle.std.specs.Ordering.{nat_cmp}
use Rattle.std.specs.Cmp.Lexicographic.{slice_cmp}
use Rattle.std.specs.FinMap.{FinMap, get}
use Rattle.account_machine.specs.declared.factor.Factor.{Factor}
use Rattle.account_machine.specs.declared.user.User.{User}
use Rattle.pw_types.specs.declared.era.Era.{Era}

-- the last wrong try of each factor was at such a moment
abbrev pub AreTimely : FinMap (slice_cmp nat_cmp) Factor → Type 0
AreTimely factors = (label : List ℕ) (factor : Factor) → get factors label ≡ Some factor → factor.stamp.at < 2 ^ 40

pub record IsTimely (era : Era) (user : User) : Type 0 where
  pub start : era.start < 2 ^ 40
  pub last : user.last < 2 ^ 40
  pub stamps : AreTimely user.durable.factors
  pub other_stamps : IfSome user.other (λ durable. AreTimely durable.factors)
