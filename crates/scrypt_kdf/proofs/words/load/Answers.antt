use Rattle.std.proofs.Common.{◌≡◌, ◌∙◌, ap, sym, refl, arith, length}
use Rattle.std.proofs.lemmas.List.{take_all, length-set}
use Rattle.scrypt_kdf.specs.Lists.{joined}
use Rattle.scrypt_kdf.specs.Bytes.{word_at, words_of}
use Rattle.scrypt_kdf.proofs.PartLemmas.{joined_set}
use Rattle.scrypt_kdf.proofs.words.load.Goals as goal

pub loaded-init : goal.loaded-init
unfolding joined
loaded-init c = record { len = refl; done = refl }

-- the next word stands after those before it
pub loaded-preserved : goal.loaded-preserved
loaded-preserved c =
    let held = c.loaded.invariant in
    record {
      len = length-set _ _ _ ∙ held.len;
      done = joined_set (word_at c.args.bytes.now) c.loaded.i _ c.loaded.words held.done (omega arith) c.word_at.ensures;
    }

pub returns : goal.returns
returns c =
    let held = c.loaded.invariant in
    let all : c.loaded.i ≡ length c.args.words.now = omega arith in
    sym (take_all c.loaded.i c.loaded.words (omega (arith, held.len, all))) ∙ held.done ∙ ap (words_of c.args.bytes.now) all
