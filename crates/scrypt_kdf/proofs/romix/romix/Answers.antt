use Rattle.std.proofs.Common.{◌≡◌, ℕ, List, ◌-◌, ◌%◌, slice_index, ◌+◌, ◌*◌, ◌∙◌, ap, length, take, drop, arith, refl, sym, ◌<◌, ◌≤◌, length-append, length-drop}
use Rattle.std.proofs.lemmas.List.{take_at}
use Rattle.std.proofs.lemmas.Nat.{pow_pos, column_fits}
use Rattle.std.specs.Vec.{vec_len}
use Rattle.std.specs.Result.{IsOk}
use Rattle.scrypt_kdf.specs.Lists.{joined}
use Rattle.scrypt_kdf.specs.Romix.{filled, turned_by, romix}
use Rattle.scrypt_kdf.proofs.PowerLemmas.{exponent_below}
use Rattle.scrypt_kdf.proofs.PartLemmas.{joined_more, length-joined}
use Rattle.scrypt_kdf.proofs.MixLemmas.{filled_next, turned_next, length-block_mix, length-filled}
use Rattle.scrypt_kdf.proofs.romix.romix.Goals as goal

pub fill-init : goal.fill-init
unfolding filled joined
fill-init c =
    let none : 32 * c.args.r * 0 ≡ 0 = omega arith in
    record {
      b_len = c.requires.b;
      y_len = refl;
      x = refl;
      rows = c.clear.ensures.items;
      rows_len = c.clear.ensures.len ∙ sym none;
      room = omega (arith, c.clear.ensures.capacity, c.requires.room);
    }

-- there is room for one more row
pub unwrap-requires : goal.unwrap-requires
unwrap-requires c =
    let held = c.fill.invariant in
    let below : c.fill.i < c.args.n = omega arith in
    let fits : 32 * c.args.r * c.fill.i + 32 * c.args.r ≤ 32 * c.args.r * c.args.n = column_fits (32 * c.args.r) c.fill.i (32 * c.args.r) c.args.n below (omega arith) in
    c.extend_from_slice.ensures.succeeds (omega (arith, fits, held.rows_len, held.room, held.b_len))

-- the row that is appended is V i, and b becomes V (i + 1)
pub fill-preserved : goal.fill-preserved
fill-preserved c =
    let held = c.fill.invariant in
    let r = c.args.r in
    let b0 = c.args.b.now in
    let i = c.fill.i in
    let below : i < c.args.n = omega arith in
    let fits : 32 * r * i + 32 * r ≤ 32 * r * c.args.n = column_fits (32 * r) i (32 * r) c.args.n below (omega arith) in
    let ok : IsOk c.extend_from_slice.result = c.extend_from_slice.ensures.succeeds (omega (arith, fits, held.rows_len, held.room, held.b_len)) in
    let ly : length c.block_mix.new.y ≡ 32 * r = ap length c.block_mix.ensures ∙ length-block_mix r c.fill.b (omega arith) held.b_len in
    let copied = c.copy_from_slice.ensures.after ∙ take_at c.block_mix.new.y (drop (32 * r) c.fill.y) (32 * r) ly in
    let grown : vec_len c.extend_from_slice.new.self ≡ vec_len c.fill.rows + length c.fill.b = rw ok at c.extend_from_slice.ensures.len in
    let next : 32 * r * (i + 1) ≡ 32 * r * i + 32 * r = grind arith in
    record {
      b_len = c.copy_from_slice.ensures.len ∙ held.b_len;
      y_len = omega (arith, length-append c.block_mix.new.y (drop (32 * r) c.fill.y), length-drop (32 * r) c.fill.y);
      x = filled_next r b0 i c.fill.b c.copy_from_slice.new.self held.x (copied ∙ c.block_mix.ensures);
      rows = joined_more (filled r b0) i c.fill.rows.items c.fill.b c.extend_from_slice.new.self.items held.rows held.x (rw ok at c.extend_from_slice.ensures.items);
      rows_len = omega (arith, grown, next, held.rows_len, held.b_len);
      room = omega (arith, held.room, c.extend_from_slice.ensures.capacity);
    }

pub mix-init : goal.mix-init
unfolding turned_by
mix-init c =
    let done : c.fill.i ≡ c.args.n = omega arith in
    record {
      b_len = c.fill.invariant.b_len;
      y_len = c.fill.invariant.y_len;
      x = c.fill.invariant.x ∙ ap (filled c.args.r c.args.b.now) done;
      rows = c.fill.invariant.rows ∙ ap (joined (filled c.args.r c.args.b.now)) done;
    }

-- b becomes X after one more turn, by the row that its last block names
pub mix-preserved : goal.mix-preserved
mix-preserved c =
    let held = c.mix.invariant in
    let r = c.args.r in
    let b0 = c.args.b.now in
    let i = c.mix.i in
    let k = c.requires.power.0 in
    let power = c.requires.power.1 in
    let at : ℕ = slice_index c.mix.b (32 * r - 16) % c.args.n in
    let ly : length c.block_mix-in-mix.new.y ≡ 32 * r = ap length c.block_mix-in-mix.ensures ∙ length-block_mix r c.xor_row.new.b (omega arith) (omega arith) in
    let copied = c.copy_from_slice-in-mix.ensures.after ∙ take_at c.block_mix-in-mix.new.y (drop (32 * r) c.mix.y) (32 * r) ly in
    let picked = c.row.ensures.row ∙ ap (λ (l : List ℕ). take (32 * r) (drop (32 * r * at) l)) c.deref.ensures.value in
    record {
      b_len = omega (arith, c.copy_from_slice-in-mix.ensures.len);
      y_len = omega (arith, length-append c.block_mix-in-mix.new.y (drop (32 * r) c.mix.y), length-drop (32 * r) c.mix.y);
      x = turned_next r k c.args.n i at (32 * r) b0 c.mix.b c.xor_row.new.b c.copy_from_slice-in-mix.new.self c.fill.rows.items c.row.result.now
          (omega arith) c.requires.b held.b_len (exponent_below k c.args.n power c.requires.n) power (rw power (pow_pos k)) refl
          held.rows held.x refl picked c.xor_row.ensures (copied ∙ c.block_mix-in-mix.ensures);
      rows = held.rows;
    }

pub returns-clause-value : goal.returns-clause-value
unfolding romix
returns-clause-value c =
    let done : c.mix.i ≡ c.args.n = omega arith in
    c.mix.invariant.x ∙ ap (turned_by c.args.r c.args.b.now c.args.n) done

-- there are n rows
pub row-requires-clause-rows : goal.row-requires-clause-rows
row-requires-clause-rows c =
    ap length c.deref.ensures.value ∙ ap length c.mix.invariant.rows
    ∙ length-joined (filled c.args.r c.args.b.now) (32 * c.args.r) c.args.n (λ i lt. length-filled c.args.r c.args.b.now i (omega arith) c.requires.b)

pub xor_row-requires : goal.xor_row-requires
xor_row-requires c = c.mix.invariant.b_len ∙ sym c.row.ensures.len
