-- What the rules of a schedule mean for pairs that are not neighbours, and the rules as a test.
use Rattle.std.proofs.Common.{◌≡◌, ℕ, zero, suc, ◌+◌, ◌-◌, ◌<◌, ◌≤◌, ◌↔◌, inl, inr, Bool, true, false, cond, eqb, ltb, leb, ◌&&◌, ◌||◌, List, ◌++◌, length, drop, replicate, not, refl, sym, ◌∙◌, ap, arith}
use Rattle.std.specs.Bool.{Decides}
use Rattle.std.proofs.lemmas.Bool.{true≢false, or_cases, and_parts, eqb-true, eq-eqb, ltb-true, lt-ltb, leb-true, le-leb, cases_eq, or_left, or_right, and_from}
use Rattle.std.proofs.lemmas.Bool.Decides.{Decides-eqb, Decides-below_and}
use Rattle.std.proofs.lemmas.List.{drop-replicate, length-replicate, length-append, drop_at, take_at}
use Rattle.pw_types.specs.Kept.{IsKept}
use Rattle.pw_types.specs.Schedule.{locked, pair_at, KeepsRules, IsSchedule, keeps_rules, keep_rules_below, is_schedule}

-- seconds rise along the pairs
pub seconds_rise : (pairs : List (ℕ × ℕ)) (j n : ℕ) → IsSchedule pairs → j + n < length pairs → (pair_at pairs j).1 ≤ (pair_at pairs (j + n)).1
seconds_rise pairs j zero s h = let e : j + 0 ≡ j = omega arith in rw e (omega arith)
seconds_rise pairs j (suc n) s h =
    let rules = s.rules (j + suc n) h in
    omega (arith, seconds_rise pairs j n s (omega arith), rules.seconds_rise (j + n) (omega arith))

pub seconds_no_less : (pairs : List (ℕ × ℕ)) (j k : ℕ) → IsSchedule pairs → j ≤ k → k < length pairs → (pair_at pairs j).1 ≤ (pair_at pairs k).1
seconds_no_less pairs j k s h l =
    let gap : j + (k - j) ≡ k = omega arith in
    let rises = seconds_rise pairs j (k - j) s (omega arith) in
    rw gap at rises

-- no pair's seconds are above those that lock
pub seconds_at_most_locked : (pairs : List (ℕ × ℕ)) (k : ℕ) → IsSchedule pairs → k < length pairs → (pair_at pairs k).1 ≤ locked
seconds_at_most_locked pairs k s h =
    let rules = s.rules (length pairs - 1) (omega arith) in
    omega (arith, seconds_no_less pairs k (length pairs - 1) s (omega arith) (omega arith), rules.locks.1 (omega arith))

-- ---- the rules as a test

-- what the test says of the pair in front
rises_at : (pairs : List (ℕ × ℕ)) (k : ℕ) → (eqb k 0 || (ltb (pair_at pairs (k - 1)).0 (pair_at pairs k).0 && ltb (pair_at pairs (k - 1)).1 (pair_at pairs k).1)) ≡ true
    → (j : ℕ) → j + 1 ≡ k → ((pair_at pairs j).0 < (pair_at pairs k).0) × ((pair_at pairs j).1 < (pair_at pairs k).1)
rises_at pairs k h j e =
    let before : k - 1 ≡ j = omega arith in
    let some : (eqb k 0 ≡ true) → ⊥ = λ z. omega (arith, eqb-true k 0 z) in
    elim (or_cases (eqb k 0) (ltb (pair_at pairs (k - 1)).0 (pair_at pairs k).0 && ltb (pair_at pairs (k - 1)).1 (pair_at pairs k).1) h) [
      | inl z ↦ absurd (some z)
      | inr both ↦
          let p = and_parts (ltb (pair_at pairs (k - 1)).0 (pair_at pairs k).0) (ltb (pair_at pairs (k - 1)).1 (pair_at pairs k).1) both in
          rw (← before) (ltb-true (pair_at pairs (k - 1)).0 (pair_at pairs k).0 p.0, ltb-true (pair_at pairs (k - 1)).1 (pair_at pairs k).1 p.1)
    ]

locks_at : (locks last : Bool) (P Q : Type 0) → Decides locks P → Decides last Q → cond last locks (not locks) ≡ true → P ↔ Q
locks_at true true P Q p q h = (λ x. q.0 refl, λ x. p.0 refl)
locks_at true false P Q p q h = absurd (true≢false (sym h))
locks_at false true P Q p q h = absurd (true≢false (sym h))
locks_at false false P Q p q h = (λ x. absurd (true≢false (sym (p.1 x))), λ x. absurd (true≢false (sym (q.1 x))))

locks_test : (locks last : Bool) (P Q : Type 0) → Decides locks P → Decides last Q → P ↔ Q → cond last locks (not locks) ≡ true
locks_test true true P Q p q h = refl
locks_test true false P Q p q h = absurd (true≢false (sym (q.1 (h.0 (p.0 refl)))))
locks_test false true P Q p q h = absurd (true≢false (sym (p.1 (h.1 (q.0 refl)))))
locks_test false false P Q p q h = refl

pub KeepsRules-from_test : (pairs : List (ℕ × ℕ)) (k : ℕ) → keeps_rules pairs k ≡ true → KeepsRules pairs k
KeepsRules-from_test pairs k h =
    let least = leb 1 (pair_at pairs k).0 in
    let most = leb (pair_at pairs k).0 1000 in
    let rises = eqb k 0 || (ltb (pair_at pairs (k - 1)).0 (pair_at pairs k).0 && ltb (pair_at pairs (k - 1)).1 (pair_at pairs k).1) in
    let locks = cond (eqb (k + 1) (length pairs)) (eqb (pair_at pairs k).1 locked) (not (eqb (pair_at pairs k).1 locked)) in
    let all = and_parts (least && most && rises) locks h in
    let front = and_parts (least && most) rises all.0 in
    let ends = and_parts least most front.0 in
    record {
      least = leb-true 1 (pair_at pairs k).0 ends.0;
      most = leb-true (pair_at pairs k).0 1000 ends.1;
      attempts_rise = λ j e. (rises_at pairs k front.1 j e).0;
      seconds_rise = λ j e. (rises_at pairs k front.1 j e).1;
      locks = locks_at (eqb (pair_at pairs k).1 locked) (eqb (k + 1) (length pairs)) ((pair_at pairs k).1 ≡ locked) (k + 1 ≡ length pairs)
          (Decides-eqb (pair_at pairs k).1 locked) (Decides-eqb (k + 1) (length pairs)) all.1;
    }

rises_test : (pairs : List (ℕ × ℕ)) (k : ℕ) → KeepsRules pairs k → (eqb k 0 || (ltb (pair_at pairs (k - 1)).0 (pair_at pairs k).0 && ltb (pair_at pairs (k - 1)).1 (pair_at pairs k).1)) ≡ true
rises_test pairs k h =
    elim (cases_eq k 0) [
      | inl e ↦ or_left (eqb k 0) (ltb (pair_at pairs (k - 1)).0 (pair_at pairs k).0 && ltb (pair_at pairs (k - 1)).1 (pair_at pairs k).1) (eq-eqb k 0 e)
      | inr ne ↦
          let before : k - 1 + 1 ≡ k = omega arith in
          or_right (eqb k 0) (ltb (pair_at pairs (k - 1)).0 (pair_at pairs k).0 && ltb (pair_at pairs (k - 1)).1 (pair_at pairs k).1)
          (and_from (ltb (pair_at pairs (k - 1)).0 (pair_at pairs k).0) (ltb (pair_at pairs (k - 1)).1 (pair_at pairs k).1)
          (lt-ltb (pair_at pairs (k - 1)).0 (pair_at pairs k).0 (h.attempts_rise (k - 1) before))
          (lt-ltb (pair_at pairs (k - 1)).1 (pair_at pairs k).1 (h.seconds_rise (k - 1) before)))
    ]

pub keeps_rules-true : (pairs : List (ℕ × ℕ)) (k : ℕ) → KeepsRules pairs k → keeps_rules pairs k ≡ true
keeps_rules-true pairs k h =
    let least = leb 1 (pair_at pairs k).0 in
    let most = leb (pair_at pairs k).0 1000 in
    let rises = eqb k 0 || (ltb (pair_at pairs (k - 1)).0 (pair_at pairs k).0 && ltb (pair_at pairs (k - 1)).1 (pair_at pairs k).1) in
    let locks = cond (eqb (k + 1) (length pairs)) (eqb (pair_at pairs k).1 locked) (not (eqb (pair_at pairs k).1 locked)) in
    and_from (least && most && rises) locks
    (and_from (least && most) rises
    (and_from least most (le-leb 1 (pair_at pairs k).0 h.least) (le-leb (pair_at pairs k).0 1000 h.most))
    (rises_test pairs k h))
    (locks_test (eqb (pair_at pairs k).1 locked) (eqb (k + 1) (length pairs)) ((pair_at pairs k).1 ≡ locked) (k + 1 ≡ length pairs)
    (Decides-eqb (pair_at pairs k).1 locked) (Decides-eqb (k + 1) (length pairs)) h.locks)

-- what fails the test breaks a rule
pub KeepsRules-not : (pairs : List (ℕ × ℕ)) (k : ℕ) → keeps_rules pairs k ≡ false → ¬ KeepsRules pairs k
KeepsRules-not pairs k e h = true≢false (sym (keeps_rules-true pairs k h) ∙ e)

-- the whole test tells whether pairs are a schedule
keep_rules_below-Decides : (pairs : List (ℕ × ℕ)) (n : ℕ) → Decides (keep_rules_below pairs n) ((k : ℕ) → k < n → KeepsRules pairs k)
keep_rules_below-Decides pairs n =
    Decides-below_and (keeps_rules pairs) (KeepsRules pairs) (keep_rules_below pairs)
    (λ k. (KeepsRules-from_test pairs k, keeps_rules-true pairs k)) refl (λ _. refl) n

pub is_schedule-Decides : (pairs : List (ℕ × ℕ)) → Decides (is_schedule pairs) (IsSchedule pairs)
unfolding is_schedule
is_schedule-Decides pairs =
    let some = leb 1 (length pairs) in
    let few = leb (length pairs) 16 in
    let rules = keep_rules_below-Decides pairs (length pairs) in (
      λ h.
          let all = and_parts (some && few) (keep_rules_below pairs (length pairs)) h in
          let counts = and_parts some few all.0 in
          record {
            some = leb-true 1 (length pairs) counts.0;
            few = leb-true (length pairs) 16 counts.1;
            rules = rules.0 all.1;
          },
      λ s. and_from (some && few) (keep_rules_below pairs (length pairs))
          (and_from some few (le-leb 1 (length pairs) s.some) (le-leb (length pairs) 16 s.few)) (rules.1 s.rules),
    )

-- ---- how a schedule is kept

-- pairs put before what is left of zero pairs
pub IsKept-append : (pairs : List (ℕ × ℕ)) → IsSchedule pairs → IsKept (pairs ++ drop (length pairs) (replicate 16 (0, 0))) (length pairs)
IsKept-append pairs s =
    let zeros : List (ℕ × ℕ) = drop (length pairs) (replicate 16 (0, 0)) in
    let few = s.few in
    let left : zeros ≡ replicate (16 - length pairs) (0, 0) = drop-replicate (length pairs) 16 (0, 0) in
    let count : length zeros ≡ 16 - length pairs = ap length left ∙ length-replicate (16 - length pairs) (0, 0) in
    record {
      size = length-append pairs zeros ∙ omega arith;
      inside = few;
      unused = drop_at pairs zeros (length pairs) refl ∙ left;
      schedule = rw (take_at pairs zeros (length pairs) refl) s;
    }
