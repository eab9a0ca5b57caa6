-- PINs that are loaded.
use Rattle.std.specs.Prelude.{◌≡◌, IfSome}
use Rattle.std.specs.FinMap.{get}
use Rattle.account_machine.specs.declared.factor.Kind.TheVariants.{Pin}
use Rattle.share_api.specs.Contents.{Bytes}
use Rattle.stored_home.specs.declared.stored.Stored.{Stored}

-- the label's factor, where one is loaded, is a PIN
abbrev pub IsPinAt : Stored → Bytes → Type 0
IsPinAt stored label = IfSome (get stored.factors label) (λ row. row.kind ≡ Pin)
