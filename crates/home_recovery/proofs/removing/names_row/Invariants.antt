use Rattle.std.proofs.Common.{◌≡◌, ◌≢◌, ℕ, ◌<◌, Some}
use Rattle.std.specs.Prelude.{slice_get}
use Rattle.record_names.specs.Names.{factor_name}
use Rattle.home_recovery.specs.Home.{Row}
use Rattle.home_recovery.proofs.removing.names_row.Given as goal

-- no row so far has the name
abbrev pub invariant-loop-row : goal.invariant-loop-row
invariant-loop-row l = (k : ℕ) (row : Row) → k < l.row-index → slice_get l.row-items k ≡ Some row
    → factor_name l.fn.account row.0 row.1.edition ≢ l.fn.name
