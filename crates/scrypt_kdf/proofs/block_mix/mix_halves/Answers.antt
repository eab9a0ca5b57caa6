use Rattle.std.proofs.Common.{◌≡◌, ◌+◌, ◌-◌, ◌*◌, ◌∙◌, length, arith, refl, rules, sym, ap}
use Rattle.std.proofs.lemmas.List.{take_all}
use Rattle.std.proofs.lemmas.Slice.{overwrites}
use Rattle.scrypt_kdf.specs.Lists.{joined}
use Rattle.scrypt_kdf.specs.BlockMix.{chained}
use Rattle.scrypt_kdf.specs.Lanes.{in_order}
use Rattle.scrypt_kdf.proofs.PartLemmas.{joined_put}
use Rattle.scrypt_kdf.proofs.MixLemmas.{chained_next}
use Rattle.scrypt_kdf.proofs.block_mix.mix_halves.Goals as goal

pub pairs-init : goal.pairs-init
unfolding chained joined
pairs-init c =
    let e : length c.args.b.now - 16 * (2 * c.args.r - 1) ≡ 16 = omega arith in
    record { evens_len = omega arith; odds_len = omega arith; x = rw e at c.block_of-x.ensures; evens = refl; odds = refl }

-- X goes through two more blocks, one for each half
pub pairs-preserved : goal.pairs-preserved
pairs-preserved c =
    let held = c.pairs.invariant in
    let r = c.args.r in
    let b = c.args.b.now in
    let i = c.pairs.i in
    let w1 : 16 * (2 * i) + 16 - 16 * (2 * i) ≡ 16 = omega arith in
    let w2 : 16 * (2 * i + 1) + 16 - 16 * (2 * i + 1) ≡ 16 = omega arith in
    let x1 = chained_next r b (2 * i) (2 * i + 1) (in_order c.pairs.x) (in_order c.xored.result) (in_order c.salsa-x.result) (omega arith) held.x (rw w1 at c.xored.ensures) c.salsa-x.ensures in
    let x2 = chained_next r b (2 * i + 1) (2 * i + 2) (in_order c.salsa-x.result) (in_order c.xored-in-pairs.result) (in_order c.salsa-x-in-pairs.result) (omega arith) x1 (rw w2 at c.xored-in-pairs.ensures) c.salsa-x-in-pairs.ensures in
    let next : 2 * i + 2 ≡ 2 * (i + 1) = omega arith in
    record {
      evens_len = search (rules, overwrites);
      odds_len = search (rules, overwrites);
      x = x2 ∙ ap (chained r b) next;
      evens = joined_put (λ k. chained r b (2 * k + 1)) 16 i _ c.pairs.evens _ held.evens (omega arith) (omega arith) (c.copy_from_slice.ensures.after ∙ c.words_of.ensures ∙ x1);
      odds = joined_put (λ k. chained r b (2 * k + 2)) 16 i _ c.pairs.odds _ held.odds (omega arith) (omega arith) (c.copy_from_slice-in-pairs.ensures.after ∙ c.words_of-in-pairs.ensures ∙ x2);
    }

pub returns : goal.returns
returns c =
    let held = c.pairs.invariant in
    let r = c.args.r in
    let b = c.args.b.now in
    let done : c.pairs.i ≡ r = omega arith in
    record {
      evens = sym (take_all (16 * c.pairs.i) c.pairs.evens (omega arith)) ∙ held.evens ∙ ap (joined (λ k. chained r b (2 * k + 1))) done;
      odds = sym (take_all (16 * c.pairs.i) c.pairs.odds (omega arith)) ∙ held.odds ∙ ap (joined (λ k. chained r b (2 * k + 2))) done;
    }
