use Rattle.std.proofs.Common.{List, ℕ, ◌∙◌, ap, arith}
use Rattle.aes_core.specs.Counter.{gctr}
use Rattle.gcm_seal.specs.Gcm.{decrypted}
use Rattle.gcm_seal.proofs.GcmLemmas.{text_block}
use Rattle.gcm_seal.proofs.gcm.unseal.Goals as goal

pub returns-clause-ok : goal.returns-clause-ok
unfolding decrypted
returns-clause-ok g c =
    let key = c.args.cipher.now in
    let first = c.counter_block.ensures ∙ text_block c.args.iv.now (omega arith) in
    c.ctr_xor.ensures ∙ ap (λ (b : List ℕ). gctr g.row.NK g.row.NR key b c.args.buf.now) first
