use Rattle.std.proofs.Common.{◌≡◌, Bool, true, false, refl}
use Rattle.record_names.specs.Names.{is_account_name}
use Rattle.record_names.proofs.NameLemmas.{IsUtf8-account}
use Rattle.record_names.proofs.reading.is_account.Goals as goal

-- an account's name would be text
pub returns-in-Err : goal.returns-in-Err
returns-in-Err c = never (is_account_name c.args.bytes.now) (λ is. c.in-Err.ensures.cases.0 (IsUtf8-account c.args.bytes.now is))
  where
    never : (b : Bool) → (b ≡ true → ⊥) → false ≡ b
    never true h = absurd (h refl)
    never false h = refl
