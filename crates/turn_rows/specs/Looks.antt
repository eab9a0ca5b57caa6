-- What a look shows.
use Rattle.std.specs.Prelude.{ℕ, List, Option, None, Some}
use Rattle.std.specs.FinMap.{get}
use Rattle.random_values.specs.Stretches.{stretch}
use Rattle.factor_files.specs.declared.factor.FactorRecord.{FactorRecord}
use Rattle.user_state.specs.declared.state.Seen.{Seen}
use Rattle.user_state.specs.declared.state.UserState.{UserState}

-- of a factor's record, and of none, beside a new salt
abbrev pub seen_by : Option FactorRecord → ℕ → List ℕ → Seen
seen_by (Some row) cost fresh = record { edition = Some row.edition; salt = row.salt; cost = row.cost; fresh = fresh }
seen_by None cost fresh = record { edition = None; salt = fresh; cost = cost; fresh = fresh }

-- what a look at a label shows: the new salt is the next stretch of the account's generator
abbrev pub seen_of : UserState → List ℕ → Seen
seen_of state label =
    seen_by (get state.stored.factors label) state.cost (stretch state.generator.key state.generator.position 4)
