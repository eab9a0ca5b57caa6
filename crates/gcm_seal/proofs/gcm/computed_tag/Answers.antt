use Rattle.std.proofs.Common.{ℕ, ◌∙◌, ap, ap₂}
use Rattle.std.specs.Int.{w128, to_be_bytes}
use Rattle.aes_core.specs.Counter.{gctr}
use Rattle.gcm_seal.specs.Ghash.{ghash, hashed}
use Rattle.gcm_seal.specs.Gcm.{tag_of}
use Rattle.gcm_seal.proofs.gcm.computed_tag.Goals as goal

pub returns : goal.returns
unfolding tag_of
returns g c =
    let input = hashed c.args.aad.now c.args.text.now in
    let digest = c.hash.ensures ∙ ap (λ (h : ℕ). ghash h input) c.hash_key.ensures in
    c.ctr_xor.ensures
    ∙ ap₂ (gctr g.row.NK g.row.NR c.args.cipher.now) c.counter_block.ensures
    (c.to_be_bytes-tag.ensures ∙ ap (to_be_bytes w128) digest)
