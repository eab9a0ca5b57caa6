use Rattle.std.proofs.Common.{refl}
use Rattle.gcm_seal.proofs.GcmLemmas.{decrypted-encrypted}
use Rattle.sealed_text.proofs.laws.sealed_text_opens.Goals as goal

pub returns : goal.returns
returns c = λ key iv extra plain. record { tag = refl; text = decrypted-encrypted 8 14 key iv plain }
