-- A seat that is split has its numbers in two parts, and the one given away knows no entry.
use Rattle.std.proofs.Common.{rules, arith, ◌≡◌, ℕ, List, [], ◌∷◌, length, ap, ◌∙◌, refl}
use Rattle.std.proofs.lemmas.List.Elements.{All-push, All-same}
use Rattle.shared_sum.specs.Callers.{HasSeat, IsNewCaller}
use Rattle.shared_sum.proofs.Counts.{count_in-last}
use Rattle.shared_sum.proofs.seats.callers_of.Goals as goal

none_of_length : (numbers : List ℕ) → length numbers ≡ 0 → numbers ≡ []
none_of_length [] none = refl
none_of_length (x ∷ xs) none = absurd (omega arith)

pub loop-number-preserved : goal.loop-number-preserved
loop-number-preserved c =
    let id = c.args.lock.now.id in
    let given = c.split-kept.result.1 in
    let kept = c.split-kept.ensures.kept in
    let blank = c.split-kept.ensures.given in
    let of_lock : given.lock ≡ id = ap (λ seat. seat.lock) blank ∙ c.loop-number.invariant.0 in
    let items = c.in_ok-push.ensures.items in (
      search rules,
      search rules,
      All-same (HasSeat id) _ _ items
          (All-push (HasSeat id) _ _ c.loop-number.invariant.2 of_lock),
      λ number.
          let parts = c.split-kept.ensures.numbers number in
          let pushed = count_in-last _ _ _ given items refl number in
          let was = c.loop-number.invariant.3 number in omega arith,
      ap (λ seat. seat.own) kept ∙ c.loop-number.invariant.4,
      ap (λ seat. seat.joined) kept ∙ c.loop-number.invariant.5,
      All-same (IsNewCaller c.args.turns) _ _ items
          (All-push (IsNewCaller c.args.turns) _ _ c.loop-number.invariant.6 (
            refl,
            c.new.ensures.items,
            (ap (λ seat. seat.own) blank, ap (λ seat. seat.joined) blank, ap (λ seat. seat.spare) blank),
          )),
    )

pub returns-clause-numbers : goal.returns-clause-numbers
returns-clause-numbers c number =
    let pushed = count_in-last _ _ _ c.loop-number.seat c.in_ok-push-2.ensures.items refl number in
    let was = c.loop-number.invariant.3 number in omega arith

pub returns-clause-fresh : goal.returns-clause-fresh
returns-clause-fresh c own joined =
    let left = c.loop-number.invariant.1 in
    let ended = c.loop-number-test.false in
    let none : length c.loop-number.seat.spare ≡ 0 = omega arith in
    All-same (IsNewCaller c.args.turns) _ _ c.in_ok-push-2.ensures.items
    (All-push (IsNewCaller c.args.turns) _ _ c.loop-number.invariant.6 (
      refl,
      c.new-2.ensures.items,
      (
        c.loop-number.invariant.4 ∙ own,
        c.loop-number.invariant.5 ∙ joined,
        none_of_length c.loop-number.seat.spare none,
      ),
    ))
