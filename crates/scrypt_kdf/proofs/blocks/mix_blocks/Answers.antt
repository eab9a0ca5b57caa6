use Rattle.std.proofs.Common.{◌≡◌, ℕ, ◌+◌, ◌-◌, ◌*◌, ◌<◌, ◌≤◌, ◌∙◌, ap, sym, refl, arith, rules, length, take, drop, length-drop}
use Rattle.std.proofs.lemmas.List.{length-take-le}
use Rattle.std.proofs.lemmas.Nat.{column_fits}
use Rattle.std.proofs.lemmas.Slice.{overwrites}
use Rattle.scrypt_kdf.specs.Lists.{joined}
use Rattle.scrypt_kdf.specs.Scrypt.{mixed_block}
use Rattle.scrypt_kdf.proofs.PartLemmas.{joined_put, drop_put}
use Rattle.scrypt_kdf.proofs.blocks.mix_blocks.Goals as goal

pub mixed-init : goal.mixed-init
unfolding joined
mixed-init c =
    let none : 128 * c.args.r * 0 ≡ 0 = omega arith in
    record { len = c.requires.blocks; done = rw none refl; left = refl; room = c.requires.room }

-- the block that is mixed next is as it was
pub mixed-preserved : goal.mixed-preserved
mixed-preserved c =
    let held = c.mixed.invariant in
    let size : ℕ = 128 * c.args.r in
    let i = c.mixed.i in
    let b0 = c.args.blocks.now in
    let below : i < c.args.p = omega arith in
    let fits : size * i + size ≤ size * c.args.p = column_fits size i size c.args.p below (omega arith) in
    let width : size * i + size - size * i ≡ size = omega arith in
    let same : take size (drop (size * i) c.mixed.blocks) ≡ take size (drop (size * i) b0) = ap (take size) held.left in
    let block = (rw width at c.mix_block.ensures.value) ∙ ap (mixed_block c.args.r c.args.n) same in
    let len : length c.mix_block.new.block ≡ size = c.mix_block.auto.block ∙ rw width (length-take-le size (drop (size * i) c.mixed.blocks) (omega (arith, held.len, fits, length-drop (size * i) c.mixed.blocks))) in
    record {
      len = search (rules, overwrites);
      done = joined_put (λ j. mixed_block c.args.r c.args.n (take size (drop (size * j) b0))) size i _ c.mixed.blocks c.mix_block.new.block held.done (omega arith) len block;
      left = drop_put size i _ c.mixed.blocks b0 c.mix_block.new.block held.left (omega arith) (len ∙ sym width) width;
      room = c.mix_block.ensures.room;
    }
