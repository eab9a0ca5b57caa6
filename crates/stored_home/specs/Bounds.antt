-- What the machine's rows keep of a home with factors.
use Rattle.std.specs.Prelude.{◌≡◌, ◌≤◌, Some}
use Rattle.std.specs.FinMap.{get, len}
use Rattle.account_machine.specs.declared.factor.Kind.TheVariants.{Password}
use Rattle.account_machine.specs.declared.factor.Factor.{Factor}
use Rattle.account_machine.specs.declared.user.Durable.{Durable}
use Rattle.account_machine.specs.Outline.{Bytes, pins}
use Rattle.account_machine.specs.User.{home_of}

pub record HasBounds (durable : Durable) : Type 0 where
  pub factors : len (home_of durable).marks ≤ 32
  pub pins : pins (home_of durable).marks ≤ 8
  -- a password is there
  pub label : Bytes
  pub factor : Factor
  pub there : get durable.factors label ≡ Some factor
  pub is_password : factor.kind ≡ Password
  pub files : len durable.files ≤ 256
