use Rattle.std.proofs.Common.{◌≤◌, ℕ, ◌*◌, List}
use Rattle.std.specs.Prelude.{IsSome}
use Rattle.std.specs.FinMap.{get}
use Rattle.home_recovery.specs.Reading.{Reads}
use Rattle.home_recovery.proofs.RowLemmas.{IsBefore, AreSoundRows, AreFittingRows}
use Rattle.home_recovery.proofs.rows.read_rows.Given as goal

-- the blocks so far have their records
abbrev pub invariant-blocks-2 : goal.invariant-blocks-2
invariant-blocks-2 g l = record {
  within : l.at ≤ 32;
  read : Reads (g.S.Share.seen l.fn.share) (g.S.Share.seen l.share) (Unit {0}) ⊥ (2 * l.at) (λ c. AreSoundRows l.fn.lost c l.fn.account l.fn.stash l.rows);
  all : (q : List ℕ) → IsBefore l.fn.stash l.at q → IsSome (get l.rows q);
  fits : AreFittingRows l.fn.stash l.rows;
  goes : g.S.Share.goes l.fn.share l.share;
}
