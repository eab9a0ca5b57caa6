use Rattle.std.proofs.Common.{◌≡◌, ◌*◌, ◌∙◌, ap, sym, refl, arith, rules, length}
use Rattle.std.proofs.lemmas.List.{take_all}
use Rattle.std.proofs.lemmas.Slice.{overwrites}
use Rattle.scrypt_kdf.specs.Bytes.{bytes_of}
use Rattle.scrypt_kdf.proofs.PartLemmas.{bytes_put}
use Rattle.scrypt_kdf.proofs.words.store.Goals as goal

pub stored-init : goal.stored-init
stored-init c = record { len = c.requires; done = refl }

-- the bytes of the next word stand after those before it
pub stored-preserved : goal.stored-preserved
stored-preserved c =
    let held = c.stored.invariant in
    record {
      len = search (rules, overwrites);
      done = bytes_put c.args.words.now c.stored.bytes _ c.stored.i _ held.done (omega arith) (omega arith) (c.copy_from_slice.ensures.after ∙ c.to_le_bytes.ensures);
    }

pub returns : goal.returns
returns c =
    let held = c.stored.invariant in
    let all : c.stored.i ≡ length c.args.words.now = omega arith in
    sym (take_all (4 * c.stored.i) c.stored.bytes (omega (arith, held.len, all))) ∙ held.done ∙ ap bytes_of (take_all c.stored.i c.args.words.now (omega arith))
