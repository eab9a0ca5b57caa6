use Rattle.std.proofs.Common.{◌∙◌, ap, length}
use Rattle.hmac_sha.specs.Pbkdf2.{pbkdf2_one}
use Rattle.scrypt_kdf.specs.Scrypt.{scrypt, mixed_blocks}
use Rattle.scrypt_kdf.proofs.derivation.scrypt_in.Goals as goal

-- the blocks are those of the password and the salt, each mixed
pub returns-clause-ok : goal.returns-clause-ok
unfolding scrypt
returns-clause-ok c =
    let params = c.args.params in
    let filled = rw c.requires.blocks at c.pbkdf2_one.ensures in
    let mixed = c.mix_blocks.ensures ∙ ap (λ b. mixed_blocks params.r params.n b params.p) filled in
    c.pbkdf2_one-2.ensures ∙ ap (λ b. pbkdf2_one c.args.password.now b (length c.args.out.now)) mixed
