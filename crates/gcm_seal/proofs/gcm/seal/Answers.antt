use Rattle.std.proofs.Common.{ℕ, List, ◌∙◌, ap, arith}
use Rattle.aes_core.specs.Counter.{gctr}
use Rattle.gcm_seal.specs.Gcm.{encrypted, tag_of}
use Rattle.gcm_seal.proofs.GcmLemmas.{text_block}
use Rattle.gcm_seal.proofs.gcm.seal.Goals as goal

pub returns : goal.returns
unfolding encrypted
returns g c =
    let key = c.args.cipher.now in
    let iv = c.args.iv.now in
    let first = c.counter_block.ensures ∙ text_block iv (omega arith) in
    let text = c.ctr_xor.ensures ∙ ap (λ (b : List ℕ). gctr g.row.NK g.row.NR key b c.args.buf.now) first in
    record {
      text = text;
      tag = c.computed_tag.ensures ∙ ap (tag_of g.row.NK g.row.NR key iv c.args.aad.now) text;
    }
