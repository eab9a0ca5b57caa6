use Rattle.std.proofs.Common.{◌≡◌, ◌^◌, ◌<◌, ◌∙◌, sym, arith}
use Rattle.std.proofs.lemmas.Bool.{leb-false}
use Rattle.scrypt_kdf.proofs.PowerLemmas.{power_of_test, test_of_power, below_for_r}
use Rattle.scrypt_kdf.proofs.params.Params.is_allowed.Goals as goal
use Rattle.scrypt_kdf.proofs.params.Params.is_allowed.Goals.{then-self-eq1, else-self-eq1}

-- all other bounds were tested before the bits of n are counted
pub returns : goal.returns
returns c =
    let params = c.args.self.now in
    let at_one : params.r ≡ 1 → params.n < 2 ^ 16 = λ one. elim c.if-self-eq1.branch [
      | then-self-eq1 w ↦ leb-false 65536 params.n (sym w.value-is ∙ c.if-self-2.false)
      | else-self-eq1 w ↦ absurd (w.if-self-eq1.false one)
    ] in (
      λ test. record {
        power = power_of_test params.n (sym c.is_power_of_two.ensures ∙ test);
        n = (omega arith, omega arith);
        n_for_r = below_for_r params.n params.r (omega arith) (omega arith) at_one;
        r = (omega arith, omega arith);
        p = (omega arith, omega arith);
        output = (omega arith, omega arith);
      },
      λ allowed. c.is_power_of_two.ensures ∙ test_of_power params.n allowed.power,
    )
