use Rattle.std.proofs.Common.{◌≡◌, ◌*◌, ◌-◌, ap, arith, refl, ◌∙◌, bit_xor, slice_index, take}
use Rattle.std.proofs.lemmas.List.{length-set, take_all, take-set-le}
use Rattle.std.specs.List.{flat_map}
use Rattle.std.specs.Int.{to_be_bytes, w32}
use Rattle.aes_core.specs.Aes.{key_words}
use Rattle.aes_core.proofs.ScheduleLemmas.{key_words_first, key_words_more, key_of_first}
use Rattle.aes_core.proofs.schedule.expanded.Goals as goal

pub first-init : goal.first-init
unfolding key_words
first-init c = record { len = refl; schedule = refl; key = refl }

pub first-preserved : goal.first-preserved
first-preserved c =
    let held = c.first.invariant in
    record {
      len = length-set _ _ _ ∙ held.len;
      schedule = key_words_first c.args.nk c.args.key.now c.first.words c.first.i _ (omega arith)
          (omega arith) held.schedule c.load_word.ensures.value;
      key = key_of_first c.args.key.now c.first.words c.first.i _ (omega arith) (omega arith)
          held.key c.load_word.ensures.bytes;
    }

-- the first words are the key
pub more-init : goal.more-init
more-init c =
    let done : c.first.i ≡ c.args.nk = omega arith in
    let whole : take (4 * c.args.nk) c.args.key.now ≡ c.args.key.now = take_all (4 * c.args.nk) c.args.key.now (omega arith) in
    record {
      len = c.first.invariant.len;
      schedule = rw done at c.first.invariant.schedule;
      key = (rw done at c.first.invariant.key) ∙ whole;
    }

-- later words leave them as they are
pub more-preserved : goal.more-preserved
more-preserved c =
    let held = c.more.invariant in
    record {
      len = length-set _ _ _ ∙ held.len;
      schedule = key_words_more c.args.nk c.args.key.now c.more.words c.more.i _ (omega arith)
          (omega arith) (omega arith) held.schedule
          (ap (bit_xor (slice_index c.more.words (c.more.i - c.args.nk))) c.added.ensures);
      key = ap (flat_map (to_be_bytes w32)) (take-set-le c.args.nk c.more.words c.more.i _ (omega arith)) ∙ held.key;
    }
