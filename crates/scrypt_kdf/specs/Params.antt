-- The parameters of scrypt.
use Rattle.std.specs.Prelude.{ℕ, ◌*◌, ◌^◌, ◌<◌, ◌≤◌}
use Rattle.std.specs.Int.{IsPowerOfTwo}
use Rattle.scrypt_kdf.specs.declared.params.Params.{Params}

-- the parameters are within their bounds, for an output of len bytes
pub record IsAllowed (params : Params) (len : ℕ) : Type 0 where
  pub power : IsPowerOfTwo params.n
  pub n : (2 ≤ params.n) × (params.n ≤ 2 ^ 20)
  pub n_for_r : params.n < 2 ^ (16 * params.r)
  pub r : (1 ≤ params.r) × (params.r ≤ 8)
  pub p : (1 ≤ params.p) × (params.p ≤ 64)
  pub output : (1 ≤ len) × (len ≤ 1024)
