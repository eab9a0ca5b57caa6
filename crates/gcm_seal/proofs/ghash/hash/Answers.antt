use Rattle.gcm_seal.proofs.GhashLemmas.{ghash_of_parts}
use Rattle.gcm_seal.proofs.ghash.hash.Goals as goal

pub returns : goal.returns
returns c =
    ghash_of_parts c.args.key.now c.args.aad.now c.args.text.now _ _ _ _ c.absorbed-after_aad.ensures
    c.absorbed-after_text.ensures c.lengths_number.ensures c.product.ensures
