use Rattle.std.proofs.Common.{◌≡◌, ◌*◌, ◌≤◌, length, take, drop}
use Rattle.std.specs.Vec.{vec_capacity}
use Rattle.scrypt_kdf.specs.Scrypt.{mixed_blocks}
use Rattle.scrypt_kdf.proofs.blocks.mix_blocks.Given as goal

-- the blocks so far are mixed, and those after them are as they were
abbrev pub invariant-mixed : goal.invariant-mixed
invariant-mixed l = record {
  len : length l.blocks ≡ l.size * l.p;
  done : take (l.size * l.i) l.blocks ≡ mixed_blocks l.r l.n l.initial.blocks l.i;
  left : drop (l.size * l.i) l.blocks ≡ drop (l.size * l.i) l.initial.blocks;
  room : 32 * l.r * l.n ≤ vec_capacity l.rows;
}
