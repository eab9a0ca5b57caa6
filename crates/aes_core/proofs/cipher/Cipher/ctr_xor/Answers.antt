use Rattle.std.proofs.Common.{◌≡◌, ◌+◌, ◌/◌, length, arith, refl, ◌∙◌, ap, rules}
use Rattle.std.proofs.lemmas.Slice.{overwrites}
use Rattle.aes_core.specs.Aes.{cipher}
use Rattle.aes_core.specs.Counter.{counter}
use Rattle.aes_core.proofs.StreamLemmas.{done_none, done_next, done_all, counter_next}
use Rattle.aes_core.proofs.RoundLemmas.{loaded}
use Rattle.aes_core.proofs.cipher.Cipher.ctr_xor.Goals as goal

pub turns-init : goal.turns-init
unfolding counter
turns-init g c = record {
  len = refl;
  counter = loaded _ _ _ _ c.args.first (omega arith) c.load_word-a.ensures.bytes
      c.load_word-b.ensures.bytes c.load_word-c.ensures.bytes c.load_word-d.ensures.bytes;
  done = done_none g.row.NK g.row.NR c.args.self.now c.args.first c.args.buf.now;
}

pub turns-preserved : goal.turns-preserved
turns-preserved g c =
    let held = c.turns.invariant in
    let key = c.args.self.now in
    record {
      len = search (rules, overwrites);
      counter = counter_next c.args.first c.turns.i c.load_word-a.result c.load_word-b.result
          c.load_word-c.result c.turns.d _ (omega arith) held.counter refl;
      done = done_next g.row.NK g.row.NR key c.args.first c.args.buf.now c.turns.i c.turns.buf _
          c.encrypt_words-block.result _ held.done (omega arith) (omega arith)
          (c.encrypt_words-block.ensures ∙ ap (cipher g.row.NK g.row.NR key) held.counter)
          c.xor_part.ensures;
    }

pub returns : goal.returns
returns g c =
    let done : c.turns.i ≡ (length c.args.buf.now + 15) / 16 = omega arith in
    done_all g.row.NK g.row.NR c.args.self.now c.args.first c.args.buf.now c.turns.i _
    c.turns.invariant.done done
