use Rattle.std.proofs.Common.{ℕ, List, ap, ◌∙◌}
use Rattle.aes_core.specs.Aes.{cipher}
use Rattle.aes_core.specs.Words.{state_bytes, key_of}
use Rattle.aes_core.proofs.RoundLemmas.{stored, cipher_from_words}
use Rattle.aes_core.proofs.cipher.Cipher.encrypt_words.Goals as goal

-- the schedule is of the key that callers see
pub returns : goal.returns
returns g c =
    let words = c.self.inside.words in
    let block = state_bytes c.args.a c.args.b c.args.c c.args.d in
    stored _ _ _ _ _ _ _ _ c.to_be_bytes.ensures c.to_be_bytes-2.ensures c.to_be_bytes-3.ensures
    c.to_be_bytes-4.ensures
    ∙ c.after_rounds-a.ensures
    ∙ cipher_from_words g.row.NK g.row.NR words (key_of g.row.NK words) block c.self.invariant.schedule
    ∙ ap (λ (key : List ℕ). cipher g.row.NK g.row.NR key block) c.self.view_is
