use Rattle.std.proofs.Common.{◌≡◌, ◌^◌, ◌*◌, ◌%◌, ◌≤◌, refl, arith}
use Rattle.std.proofs.Math.Pow.{pow_mono}
use Rattle.scrypt_kdf.specs.Derive.{derive}
use Rattle.scrypt_kdf.proofs.derivation.derive.Goals as goal

-- each cost from 1 to 16 gives parameters that are allowed
pub scrypt_in-requires-clause-allowed : goal.scrypt_in-requires-clause-allowed
scrypt_in-requires-clause-allowed c =
    let cost = c.args.cost in
    let low : 2 ^ 1 ≤ 2 ^ cost = pow_mono c.requires.0 in
    let high : 2 ^ cost ≤ 2 ^ 16 = pow_mono c.requires.1 in
    let n : 1 * 2 ^ cost % 2 ^ 64 ≡ 2 ^ cost = omega (arith, high) in
    rw n record {
      power = (cost, refl);
      n = (low, omega (arith, high));
      n_for_r = omega (arith, high);
      r = (omega arith, omega arith);
      p = (omega arith, omega arith);
      output = (omega arith, omega arith);
    }

-- the shift by the cost gives 2^cost
pub returns : goal.returns
unfolding derive
returns c =
    let cost = c.args.cost in
    let high : 2 ^ cost ≤ 2 ^ 16 = pow_mono c.requires.1 in
    let n : 1 * 2 ^ cost % 2 ^ 64 ≡ 2 ^ cost = omega (arith, high) in
    rw n at c.in_ok-scrypt_in.ensures.ok
