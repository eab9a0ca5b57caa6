use Rattle.std.proofs.Common.{◌≡◌, ℕ, true, false, List, not, refl, sym, ◌∙◌, ap, arith}
use Rattle.std.specs.Prelude.{bytes_eq}
use Rattle.std.proofs.lemmas.Slice.Eq.{bytes_eq-Decides}
use Rattle.machine_step.proofs.Listed.{agree-all, at-map}
use Rattle.machine_step.proofs.fits.names.Goals as goal

-- this name is another
pub returns-then-ne : goal.returns-then-ne
returns-then-ne c = (
  λ h. cc,
  λ made.
      let same : c.index-names-at.result ≡ c.index-rows-at.result.0 =
      c.index-names-at.is
      ∙ at-map (λ (row : List ℕ × List ℕ). row.0) c.args.names.now c.args.rows.now c.loop-at.at c.index-names-at.result c.index-rows-at.result made c.loop-at-test.true
      ∙ ap (λ (row : List ℕ × List ℕ). row.0) (sym c.index-rows-at.is) in
      let equal : bytes_eq c.index-names-at.result c.index-rows-at.result.0 ≡ true = (bytes_eq-Decides _ _).1 same in
      let differs : true ≡ not (bytes_eq c.index-names-at.result c.index-rows-at.result.0) = sym c.if-ne.true ∙ c.ne.ensures in
      let clash : true ≡ false = differs ∙ ap not equal in cc,
)

-- all names were compared
pub returns : goal.returns
returns c =
    (λ h. agree-all (λ (row : List ℕ × List ℕ). row.0) c.args.names.now c.args.rows.now c.if-names-rows.false (λ k below. c.loop-at.invariant k (omega (arith, c.loop-at-test.false, below))), λ h. refl)
