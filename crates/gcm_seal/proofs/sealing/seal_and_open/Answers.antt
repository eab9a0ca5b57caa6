use Rattle.std.proofs.Common.{◌∙◌, ap}
use Rattle.gcm_seal.specs.Gcm.{decrypted}
use Rattle.gcm_seal.proofs.GcmLemmas.{decrypted-encrypted}
use Rattle.gcm_seal.proofs.sealing.seal_and_open.Goals as goal

-- the tag is that of the ciphertext, so that it opens
pub returns-clause-same : goal.returns-clause-same
returns-clause-same c =
    let key = c.args.key.now in
    let iv = c.args.iv.now in
    c.in_ok-open_in_place.ensures.ok ∙ ap (decrypted 8 14 key iv) c.seal_in_place-tag.ensures.text
    ∙ decrypted-encrypted 8 14 key iv c.args.buf.now

pub returns-clause-law : goal.returns-clause-law
returns-clause-law c = decrypted-encrypted 8 14 c.args.key.now c.args.iv.now c.args.buf.now
