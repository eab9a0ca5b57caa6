use Rattle.std.proofs.Common.{◌≡◌, refl, arith, ap, ◌∙◌, sym}
use Rattle.std.specs.Simd.Lanes.{zip2}
use Rattle.scrypt_kdf.specs.Salsa.{double_rounds, salsa, row_round, column_round, add32}
use Rattle.scrypt_kdf.specs.Lanes.{in_order}
use Rattle.scrypt_kdf.proofs.RoundLemmas.{double_rounds_next}
use Rattle.scrypt_kdf.proofs.salsa.salsa.Goals as goal

pub rounds-init : goal.rounds-init
unfolding double_rounds
rounds-init c = refl

pub rounds-preserved : goal.rounds-preserved
rounds-preserved c = c.double_round-z.ensures ∙ ap (λ x. row_round (column_round x)) c.rounds.invariant ∙ sym (double_rounds_next c.rounds.round (in_order c.args.x))

-- after four double rounds, each word has the one that it began with added
pub returns : goal.returns
unfolding salsa
returns c =
    let four : c.rounds.round ≡ 4 = omega arith in
    let x = in_order c.args.x in
    rw (c.sums.ensures, c.sums-2.ensures, c.sums-3.ensures, c.sums-4.ensures)
    (ap (λ s. zip2 add32 s x) (c.rounds.invariant ∙ ap (λ n. double_rounds n x) four))
