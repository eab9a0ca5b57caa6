use Rattle.std.proofs.Common.{arith, ◌∙◌, ap}
use Rattle.aes_core.specs.Aes.{cipher}
use Rattle.aes_core.proofs.RoundLemmas.{loaded}
use Rattle.aes_core.proofs.cipher.Cipher.encrypt.Goals as goal

pub returns : goal.returns
returns g c =
    c.encrypt_words.ensures
    ∙ ap (cipher g.row.NK g.row.NR c.args.self.now)
    (loaded _ _ _ _ c.args.block (omega arith) c.load_word-a.ensures.bytes
    c.load_word-b.ensures.bytes c.load_word-c.ensures.bytes c.load_word-d.ensures.bytes)
