use Rattle.std.proofs.Common.{◌≡◌, ◌≤◌, ◌++◌, ℕ, List, length, sym, subst, arith}
use Rattle.std.proofs.lemmas.List.{length-append}
use Rattle.sealed_text.specs.Sealing.{sealed_under}
use Rattle.sealed_text.proofs.SizeLemmas.{length-encrypted, length-tag_of}
use Rattle.vault_crypt.specs.VaultFile.{file_bytes, file_extra}
use Rattle.vault_crypt.proofs.FileLemmas.{opened-sealed}
use Rattle.stored_home.specs.Holds.{IsFileOf}
use Rattle.home_edits.proofs.record_put.file_bytes.Goals as goal

-- a record has 29 bytes besides the file's
size_of : (key iv extra bytes : List ℕ) → length iv ≡ 12 → length bytes ≤ 49152
    → length (file_bytes (sealed_under key iv extra bytes)) ≤ 49181
size_of key iv extra bytes size few =
    let sealed = sealed_under key iv extra bytes in
    omega (
      arith,
      length-append (iv ++ sealed.text) sealed.tag,
      length-append iv sealed.text,
      length-encrypted 8 14 key iv bytes,
      length-tag_of 8 14 key iv extra sealed.text,
    )

-- it opens to them
pub returns-in-Ok-clause-opens : goal.returns-in-Ok-clause-opens
returns-in-Ok-clause-opens c =
    subst (λ (sealed : List ℕ). IsFileOf c.args.vault.now c.args.account.now c.args.name.now sealed c.args.bytes.now)
    (sym c.in-Ok.ensures.value)
    (opened-sealed c.args.vault.now c.args.iv.now c.args.account.now c.args.name.now c.args.bytes.now c.told-iv
    c.requires.size)

pub returns-in-Ok-clause-size : goal.returns-in-Ok-clause-size
returns-in-Ok-clause-size c =
    subst (λ (sealed : List ℕ). length sealed ≤ 49181) (sym c.in-Ok.ensures.value)
    (size_of c.args.vault.now c.args.iv.now (file_extra c.args.account.now c.args.name.now) c.args.bytes.now c.told-iv
    c.requires.size)
