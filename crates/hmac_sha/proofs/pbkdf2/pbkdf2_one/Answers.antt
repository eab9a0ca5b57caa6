use Rattle.std.proofs.Common.{arith, length, refl, rules}
use Rattle.std.proofs.lemmas.Slice.{overwrites}
use Rattle.hmac_sha.proofs.BlockLemmas.{written_none, written_next, written_all}
use Rattle.hmac_sha.proofs.pbkdf2.pbkdf2_one.Goals as goal

pub blocks_written-init : goal.blocks_written-init
blocks_written-init c = record {
  len = refl;
  salted = c.update.ensures _ _ c.new-salted.ensures;
  done = written_none c.args.password.now c.args.salt.now _ c.args.out.now;
}

-- the next block stands after those before it, cut where the output ends
pub blocks_written-preserved : goal.blocks_written-preserved
blocks_written-preserved c =
    let held = c.blocks_written.invariant in
    let copied = rw (← c.copy-mac.ensures) at held.salted in
    let block = rw (c.to_be_bytes.ensures) at (c.finish-block.ensures _ _ (c.update-in-blocks_written.ensures _ _ copied)) in
    record {
      len = search (rules, overwrites);
      salted = held.salted;
      done = written_next c.args.password.now c.args.salt.now (length c.args.out.now) c.blocks_written.i _ c.blocks_written.out c.finish-block.result _ held.done (omega arith) held.len (omega arith) block c.copy_from_slice.ensures.after;
    }

pub returns : goal.returns
returns c =
    written_all c.args.password.now c.args.salt.now (length c.args.out.now) c.blocks_written.i _ c.blocks_written.invariant.done c.blocks_written.invariant.len (omega arith)
