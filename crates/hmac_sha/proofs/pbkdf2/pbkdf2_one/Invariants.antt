use Rattle.std.proofs.Common.{◌≡◌, length}
use Rattle.hmac_sha.specs.Pieces.{HasTaken}
use Rattle.hmac_sha.proofs.BlockLemmas.{IsWritten}
use Rattle.hmac_sha.proofs.pbkdf2.pbkdf2_one.Given as goal

-- the blocks so far are at the front of the output
abbrev pub invariant-blocks_written : goal.invariant-blocks_written
invariant-blocks_written l = record {
  len : length l.out ≡ l.len;
  salted : HasTaken l.salted l.password l.salt;
  done : IsWritten l.password l.salt l.len l.i l.out;
}
