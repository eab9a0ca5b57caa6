-- The counter blocks of a text, and opening what was sealed.
use Rattle.std.proofs.Common.{◌≡◌, ℕ, List, [], ◌∷◌, ◌++◌, length, refl}
use Rattle.std.proofs.lemmas.List.{take_at, drop_at}
use Rattle.aes_core.specs.Counter.{inc32}
use Rattle.aes_core.proofs.StreamLemmas.{gctr-gctr}
use Rattle.gcm_seal.specs.Gcm.{first_block, encrypted, decrypted}

-- a text is counted from 2
pub text_block : (iv : List ℕ) → length iv ≡ 12
    → iv ++ 0 ∷ 0 ∷ 0 ∷ 2 ∷ [] ≡ inc32 (first_block iv)
text_block iv len =
    let one : List ℕ = 0 ∷ 0 ∷ 0 ∷ 1 ∷ [] in
    rw (take_at iv one 12 len, drop_at iv one 12 len) refl

-- what was sealed gives the text
pub decrypted-encrypted : (nk nr : ℕ) (key iv text : List ℕ)
    → decrypted nk nr key iv (encrypted nk nr key iv text) ≡ text
unfolding decrypted encrypted
decrypted-encrypted nk nr key iv text = gctr-gctr nk nr key (inc32 (first_block iv)) text
