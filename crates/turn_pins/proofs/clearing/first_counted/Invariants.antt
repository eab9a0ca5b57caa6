use Rattle.turn_secrets.specs.Listing.{Looks}
use Rattle.turn_pins.proofs.FirstCounted.{NoneBefore}
use Rattle.turn_pins.proofs.clearing.first_counted.Given as goal

-- no factor so far has a count
abbrev pub invariant-rows : goal.invariant-rows
invariant-rows g l = record {
  looks : Looks (g.S.Share.seen l.fn.share) (g.S.Share.seen l.share) ⊥ l.row-index
      (λ c. NoneBefore l.rows c l.row-index);
  goes : g.S.Share.goes l.fn.share l.share;
}
