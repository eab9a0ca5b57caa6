-- The cost of the factor records that are put.
use Rattle.std.specs.Prelude.{◌≡◌, ℕ, List, ◌++◌, Some}
use Rattle.std.specs.List.{AllByRecursion}
use Rattle.factor_files.specs.Record.{factor_at}
use Rattle.factor_files.specs.declared.factor.FactorRecord.{FactorRecord}
use Rattle.record_names.specs.Names.{factor_name}
use Rattle.share_api.specs.Contents.{Bytes}
use Rattle.share_api.specs.Places.{steps_of}
use Rattle.share_api.specs.Seen.{ShareSeen}
use Rattle.share_api.specs.declared.step.Op.TheVariants.{Do}
use Rattle.share_api.specs.declared.step.Step.{Step}
use Rattle.share_api.specs.declared.step.Write.TheVariants.{Put}

-- where the step puts a factor's record, it has this cost
abbrev pub HasCost : Bytes → ℕ → Step → Type 0
HasCost account cost step = (label : Bytes) (edition : ℕ) (bytes : Bytes) (row : FactorRecord)
    → step.op ≡ Do (Put (factor_name account label edition) bytes) → factor_at bytes ≡ Some row → row.cost ≡ cost

-- each factor's record that the share's steps put has this cost
abbrev pub PutsCost : ShareSeen → ShareSeen → Bytes → ℕ → Type 0
PutsCost old new account cost = (own : List (ℕ × Step)) → new.own ≡ old.own ++ own
    → AllByRecursion (HasCost account cost) (steps_of own)
