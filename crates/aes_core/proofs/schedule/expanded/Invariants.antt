use Rattle.std.proofs.Common.{◌≡◌, ◌*◌, take, length}
use Rattle.std.specs.List.{flat_map}
use Rattle.std.specs.Int.{to_be_bytes, w32}
use Rattle.aes_core.specs.Aes.{key_words}
use Rattle.aes_core.specs.Words.{key_of}
use Rattle.aes_core.proofs.schedule.expanded.Given as goal

abbrev pub invariant-first : goal.invariant-first
invariant-first l = record {
  len : length l.words ≡ 60;
  schedule : take l.i l.words ≡ key_words l.nk l.key l.i;
  key : flat_map (to_be_bytes w32) (take l.i l.words) ≡ take (4 * l.i) l.key;
}

abbrev pub invariant-more : goal.invariant-more
invariant-more l = record {
  len : length l.words ≡ 60;
  schedule : take l.i l.words ≡ key_words l.nk l.key l.i;
  key : key_of l.nk l.words ≡ l.key;
}
