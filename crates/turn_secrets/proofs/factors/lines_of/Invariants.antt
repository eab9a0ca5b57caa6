use Rattle.std.proofs.Common.{◌≡◌, map, take}
use Rattle.turn_secrets.specs.Listing.{Looks, line_in}
use Rattle.turn_secrets.proofs.factors.lines_of.Given as goal

-- the lines so far are those of the rows so far
abbrev pub invariant-rows : goal.invariant-rows
invariant-rows g l = record {
  looks : Looks (g.S.Share.seen l.fn.share) (g.S.Share.seen l.share) ⊥ l.row-index
      (λ c. l.lines ≡ map (line_in l.fn.lost c.leaves) (take l.row-index l.rows));
  goes : g.S.Share.goes l.fn.share l.share;
}
