use Rattle.std.proofs.Common.{◌≡◌, ◌≤◌, ◌+◌, ◌++◌, length, get_or, drop, arith, refl, sym, ◌∙◌, ap, rules, take-append-drop}
use Rattle.std.specs.Int.{w32, to_be_bytes}
use Rattle.std.proofs.lemmas.Result.{IfOk-at_ok}
use Rattle.ct_bytes.specs.Writing.{written, behind}
use Rattle.pw_leaf.specs.LeafBytes.{pairs_bytes, pairs_field}
use Rattle.pw_leaf.proofs.FieldLemmas.{pairs_bytes-more, zeros_behind, pairs_field-parts}
use Rattle.pw_leaf.proofs.write.pairs_field.Goals as goal

pub loop-attempts-init : goal.loop-attempts-init
unfolding pairs_bytes
loop-attempts-init c = record {
  same = refl;
  front = c.new-writer.ensures.written;
  room = omega (arith, ap length c.new-writer.ensures.behind);
  rest = c.new-writer.ensures.behind;
}

-- there is room for 16 pairs
pub unwrap-requires : goal.unwrap-requires
unwrap-requires c =
    let few : length c.pairs-attempts-items.result.now ≤ 16 = rw c.pairs-attempts-items.ensures.value (let rules = c.pairs-attempts-items.ensures.rules in rules.few) in
    let room = c.loop-attempts.invariant.room in
    c.put_u32.ensures.succeeds (omega arith)

-- both numbers of a pair stand behind the ones before
pub loop-attempts-preserved : goal.loop-attempts-preserved
loop-attempts-preserved c =
    let held = c.loop-attempts.invariant in
    let pairs = c.pairs-attempts-items.result.now in
    let n = c.loop-attempts.attempts-index in
    let first = IfOk-at_ok (λ _. written c.put_u32.new.self ≡ written c.loop-attempts.writer ++ to_be_bytes w32 (get_or pairs n (0, 0)).0) c.unwrap.ensures c.put_u32.ensures.ok in
    let second = IfOk-at_ok (λ _. written c.put_u32-in-loop-attempts.new.self ≡ written c.put_u32.new.self ++ to_be_bytes w32 (get_or pairs n (0, 0)).1) c.unwrap-in-loop-attempts.ensures c.put_u32-in-loop-attempts.ensures.ok in
    let behind1 = IfOk-at_ok (λ _. behind c.put_u32.new.self ≡ drop 4 (behind c.loop-attempts.writer)) c.unwrap.ensures c.put_u32.ensures.behind in
    let behind2 = IfOk-at_ok (λ _. behind c.put_u32-in-loop-attempts.new.self ≡ drop 4 (behind c.put_u32.new.self)) c.unwrap-in-loop-attempts.ensures c.put_u32-in-loop-attempts.ensures.behind in
    let room1 = IfOk-at_ok (λ _. length (behind c.put_u32.new.self) + 4 ≡ length (behind c.loop-attempts.writer)) c.unwrap.ensures c.put_u32.ensures.room in
    let room2 = IfOk-at_ok (λ _. length (behind c.put_u32-in-loop-attempts.new.self) + 4 ≡ length (behind c.put_u32.new.self)) c.unwrap-in-loop-attempts.ensures c.put_u32-in-loop-attempts.ensures.room in
    record {
      same = c.put_u32-in-loop-attempts.ensures.same_bytes ∙ c.put_u32.ensures.same_bytes ∙ held.same;
      front = second ∙ (λ i. (first ∙ ap (λ z. z ++ to_be_bytes w32 (get_or pairs n (0, 0)).0) held.front) i ++ to_be_bytes w32 (get_or pairs n (0, 0)).1)
          ∙ sym (pairs_bytes-more pairs n c.loop-attempts-test.true);
      room = omega (arith, held.room, room1, room2);
      rest = behind2 ∙ ap (drop 4) (behind1 ∙ ap (drop 4) held.rest) ∙ zeros_behind n;
    }

pub returns : goal.returns
returns c =
    let held = c.loop-attempts.invariant in
    let all = c.loop-attempts-test.false in
    let w = c.loop-attempts.writer in
    let parts = pairs_field-parts c.pairs-attempts-items.result.now c.loop-attempts.attempts-index (written w) (behind w) all (omega arith) held.front held.rest in
    let whole : w.bytes.now ≡ pairs_field c.args.schedule.now = sym (take-append-drop w.used w.bytes.now) ∙ parts ∙ ap pairs_field c.pairs-attempts-items.ensures.value in
    search (rules, whole)
