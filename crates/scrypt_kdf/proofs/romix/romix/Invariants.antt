use Rattle.std.proofs.Common.{◌≡◌, ◌*◌, ◌≤◌, length}
use Rattle.std.specs.Vec.{vec_len, vec_capacity}
use Rattle.scrypt_kdf.specs.Lists.{joined}
use Rattle.scrypt_kdf.specs.Romix.{filled, turned_by}
use Rattle.scrypt_kdf.proofs.romix.romix.Given as goal

-- b is V i, and the rows are those before it
abbrev pub invariant-fill : goal.invariant-fill
invariant-fill l = record {
  b_len : length l.b ≡ 32 * l.r;
  y_len : length l.y ≡ 256;
  x : l.b ≡ filled l.r l.fn.b l.i;
  rows : l.rows.items ≡ joined (filled l.r l.fn.b) l.i;
  rows_len : vec_len l.rows ≡ 32 * l.r * l.i;
  room : 32 * l.r * l.n ≤ vec_capacity l.rows;
}

-- b is X after i turns, and the rows are all of V
abbrev pub invariant-mix : goal.invariant-mix
invariant-mix l = record {
  b_len : length l.b ≡ 32 * l.r;
  y_len : length l.y ≡ 256;
  x : l.b ≡ turned_by l.r l.fn.b l.n l.i;
  rows : l.rows.items ≡ joined (filled l.r l.fn.b) l.n;
}
