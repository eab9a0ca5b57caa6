-- The deciding pair, and the laws of the delay rule.
use Rattle.std.proofs.Common.{◌≡◌, ◌≢◌, ℕ, zero, suc, ◌+◌, ◌-◌, ◌<◌, ◌≤◌, ◌↔◌, inl, inr, Bool, true, false, cond, eqb, ltb, leb, Option, Some, None, MatchOption, List, [], ◌∷◌, ◌++◌, length, reverse, find, refl, sym, ◌∙◌, ap, arith}
use Rattle.std.specs.Option.{option_or}
use Rattle.std.proofs.lemmas.Bool.{true≢false, cases_Bool, cases_lt, leb-true, leb-false, eqb-true, ltb-true, lt-ltb, eq-eqb}
use Rattle.std.proofs.lemmas.List.{reverse-append}
use Rattle.std.proofs.lemmas.List.Folds.{find-append}
use Rattle.pw_types.specs.declared.stamp.Stamp.{Stamp}
use Rattle.pw_types.specs.declared.delay.Readiness.TheVariants.{Ready, Delayed, Locked}
use Rattle.pw_types.specs.Schedule.{locked, pair_at, IsSchedule, limit_of}
use Rattle.pw_types.specs.Delay.{deciding, moment_after, readiness_under, readiness, waiting_until, IsLastReached, NoneReached, NoSooner}
use Rattle.pw_types.proofs.ScheduleLemmas.{seconds_no_less, seconds_at_most_locked}

-- ---- the deciding pair

-- a later pair decides first, else the one in front
deciding-cons : (pair : ℕ × ℕ) (pairs : List (ℕ × ℕ)) (wrong : ℕ) → deciding (pair ∷ pairs) wrong ≡ option_or (deciding pairs wrong) (cond (leb pair.0 wrong) (Some pair) None)
unfolding deciding
deciding-cons pair pairs wrong =
    ap (find (λ p. leb p.0 wrong)) (reverse-append (pair ∷ []) pairs) ∙ find-append (λ p. leb p.0 wrong) (reverse pairs) (pair ∷ [])

-- a pair behind decides where it is reached
pub deciding_push : (pairs : List (ℕ × ℕ)) (pair : ℕ × ℕ) (wrong : ℕ) → deciding (pairs ++ pair ∷ []) wrong ≡ cond (leb pair.0 wrong) (Some pair) (deciding pairs wrong)
unfolding deciding
deciding_push pairs pair wrong = ap (find (λ p. leb p.0 wrong)) (reverse-append pairs (pair ∷ []))

-- what the law says of an answer
unfoldable pub IsDeciding : List (ℕ × ℕ) → ℕ → Option (ℕ × ℕ) → Type 0
IsDeciding pairs wrong o = MatchOption o (NoneReached pairs wrong) (λ pair. (k : ℕ) × ((pair ≡ pair_at pairs k) × IsLastReached pairs wrong k))

none_before : (pair : ℕ × ℕ) (pairs : List (ℕ × ℕ)) (wrong : ℕ) → NoneReached pairs wrong → wrong < pair.0 → NoneReached (pair ∷ pairs) wrong
none_before pair pairs wrong none h zero l = h
none_before pair pairs wrong none h (suc k) l = none k (omega arith)

first_reached : (pair : ℕ × ℕ) (pairs : List (ℕ × ℕ)) (wrong : ℕ) → NoneReached pairs wrong → (j : ℕ) → 0 < j → j < length (pair ∷ pairs) → wrong < (pair_at (pair ∷ pairs) j).0
first_reached pair pairs wrong none zero h l = absurd (omega arith)
first_reached pair pairs wrong none (suc j) h l = none j (omega arith)

later_reached : (pair : ℕ × ℕ) (pairs : List (ℕ × ℕ)) (wrong k : ℕ) → IsLastReached pairs wrong k → (j : ℕ) → suc k < j → j < length (pair ∷ pairs) → wrong < (pair_at (pair ∷ pairs) j).0
later_reached pair pairs wrong k last zero h l = absurd (omega arith)
later_reached pair pairs wrong k last (suc j) h l = last.later j (omega arith) (omega arith)

one_more : (pair : ℕ × ℕ) (pairs : List (ℕ × ℕ)) (wrong : ℕ) (o : Option (ℕ × ℕ)) → IsDeciding pairs wrong o → IsDeciding (pair ∷ pairs) wrong (option_or o (cond (leb pair.0 wrong) (Some pair) None))
unfolding IsDeciding
one_more pair pairs wrong (Some x) h =
    let last = h.1.1 in
    (suc h.0, (h.1.0, record { inside = omega (arith, last.inside); reached = last.reached; later = later_reached pair pairs wrong h.0 last }))
one_more pair pairs wrong None none =
    elim (cases_Bool (leb pair.0 wrong)) [
      | inl e ↦ rw e (0, (refl, record { inside = omega arith; reached = leb-true pair.0 wrong e; later = first_reached pair pairs wrong none }))
      | inr e ↦ rw e (none_before pair pairs wrong none (leb-false pair.0 wrong e))
    ]

pub deciding_is : (pairs : List (ℕ × ℕ)) (wrong : ℕ) → IsDeciding pairs wrong (deciding pairs wrong)
unfolding IsDeciding deciding
deciding_is [] wrong = λ k h. absurd (omega arith)
deciding_is (pair ∷ pairs) wrong = rw (deciding-cons pair pairs wrong) (one_more pair pairs wrong (deciding pairs wrong) (deciding_is pairs wrong))

-- ---- the laws

-- more wrong tries reach a later pair or the same
reaches_later : (pairs : List (ℕ × ℕ)) (wrong more j k : ℕ) → IsLastReached pairs wrong j → IsLastReached pairs more k → wrong ≤ more → j ≤ k
reaches_later pairs wrong more j k first second h =
    elim (cases_lt k j) [
      | inl l ↦ absurd (omega (arith, second.later j l first.inside, first.reached))
      | inr l ↦ l
    ]

-- a wait that is no shorter, and locks where the first does
slower : (locks locks' early early' : Bool) (until until' : ℕ) → (locks ≡ true → locks' ≡ true) → (early ≡ true → early' ≡ true) → until ≤ until'
    → NoSooner (cond locks Locked (cond early (Delayed until) Ready)) (cond locks' Locked (cond early' (Delayed until') Ready))
slower true true early early' until until' l e h = tt
slower true false early early' until until' l e h = absurd (true≢false (sym (l refl)))
slower false true true early' until until' l e h = tt
slower false true false early' until until' l e h = tt
slower false false true true until until' l e h = h
slower false false true false until until' l e h = absurd (true≢false (sym (e refl)))
slower false false false true until until' l e h = tt
slower false false false false until until' l e h = tt

slower_under : (p q : ℕ × ℕ) (last now : Stamp) (start : ℕ) → p.1 ≤ q.1 → q.1 ≤ locked → NoSooner (readiness_under (Some p) last now start) (readiness_under (Some q) last now start)
slower_under p q last now start h most =
    let from = cond (eqb last.boot now.boot) last.at start in
    slower (eqb p.1 locked) (eqb q.1 locked) (ltb now.at (from + p.1)) (ltb now.at (from + q.1)) (from + p.1) (from + q.1)
    (λ e. eq-eqb q.1 locked (let same : p.1 ≡ locked = eqb-true p.1 locked e in omega arith))
    (λ e. lt-ltb now.at (from + q.1) (let early : now.at < from + p.1 = ltb-true now.at (from + p.1) e in omega arith))
    (omega arith)

slower_of : (pairs : List (ℕ × ℕ)) (wrong more : ℕ) (last now : Stamp) (start : ℕ) (o o' : Option (ℕ × ℕ)) → IsSchedule pairs → wrong ≤ more
    → IsDeciding pairs wrong o → IsDeciding pairs more o' → NoSooner (readiness_under o last now start) (readiness_under o' last now start)
unfolding IsDeciding
slower_of pairs wrong more last now start None o' s h d d' = tt
slower_of pairs wrong more last now start (Some p) None s h d d' = absurd (let reached = d.1.1 in omega (arith, d' d.0 reached.inside, reached.reached))
slower_of pairs wrong more last now start (Some p) (Some q) s h d d' =
    let reached = d.1.1 in
    let reached' = d'.1.1 in
    let later : d.0 ≤ d'.0 = reaches_later pairs wrong more d.0 d'.0 reached reached' h in
    let rises = seconds_no_less pairs d.0 d'.0 s later reached'.inside in
    let e = ap (λ (x : ℕ × ℕ). x.1) d.1.0 in
    let e' = ap (λ (x : ℕ × ℕ). x.1) d'.1.0 in
    slower_under p q last now start (omega (arith, rises, e, e')) (omega (arith, seconds_at_most_locked pairs d'.0 s reached'.inside, e'))

pub more_tries_wait : (pairs : List (ℕ × ℕ)) (wrong more : ℕ) (last now : Stamp) (start : ℕ) → IsSchedule pairs → wrong ≤ more
    → NoSooner (readiness pairs wrong last now start) (readiness pairs more last now start)
unfolding readiness
more_tries_wait pairs wrong more last now start s h =
    slower_of pairs wrong more last now start (deciding pairs wrong) (deciding pairs more) s h (deciding_is pairs wrong) (deciding_is pairs more)

-- the limit is reached exactly where the deciding pair locks
locks_of : (pairs : List (ℕ × ℕ)) (wrong : ℕ) (last now : Stamp) (start : ℕ) (o : Option (ℕ × ℕ)) → IsSchedule pairs
    → IsDeciding pairs wrong o → limit_of pairs ≤ wrong → readiness_under o last now start ≡ Locked
unfolding IsDeciding
locks_of pairs wrong last now start None s d h = absurd (let few = d (length pairs - 1) (omega (arith, s.some)) in omega arith)
locks_of pairs wrong last now start (Some p) s d h =
    let reached = d.1.1 in
    let rules = s.rules d.0 reached.inside in
    let at_end : d.0 + 1 ≡ length pairs =
    elim (cases_lt d.0 (length pairs - 1)) [
      | inl l ↦ absurd (omega (arith, reached.later (length pairs - 1) l (omega (arith, s.some))))
      | inr l ↦ omega (arith, reached.inside)
    ] in
    let locks : p.1 ≡ locked = ap (λ (x : ℕ × ℕ). x.1) d.1.0 ∙ rules.locks.1 at_end in
    rw (eq-eqb p.1 locked locks) refl

waits_not_locked : (early : Bool) (until : ℕ) → cond early (Delayed until) Ready ≡ Locked → ⊥
waits_not_locked true until e = cc
waits_not_locked false until e = cc

at_limit : (pairs : List (ℕ × ℕ)) (wrong : ℕ) (last now : Stamp) (start : ℕ) (o : Option (ℕ × ℕ)) → IsSchedule pairs
    → IsDeciding pairs wrong o → readiness_under o last now start ≡ Locked → limit_of pairs ≤ wrong
unfolding IsDeciding
at_limit pairs wrong last now start None s d h = absurd (cc)
at_limit pairs wrong last now start (Some p) s d h =
    let reached = d.1.1 in
    let rules = s.rules d.0 reached.inside in
    elim (cases_Bool (eqb p.1 locked)) [
      | inl e ↦
          let locks : (pair_at pairs d.0).1 ≡ locked = sym (ap (λ (x : ℕ × ℕ). x.1) d.1.0) ∙ eqb-true p.1 locked e in
          let at_end : d.0 + 1 ≡ length pairs = rules.locks.0 locks in
          let same : d.0 ≡ length pairs - 1 = omega arith in
          omega (arith, ap (λ m. (pair_at pairs m).0) same, reached.reached)
      | inr e ↦ absurd (waits_not_locked (ltb now.at (moment_after p.1 last now start)) (moment_after p.1 last now start) (rw e at h))
    ]

pub limit_is_locked : (pairs : List (ℕ × ℕ)) (wrong : ℕ) (last now : Stamp) (start : ℕ) → IsSchedule pairs → (readiness pairs wrong last now start ≡ Locked) ↔ (limit_of pairs ≤ wrong)
unfolding readiness
limit_is_locked pairs wrong last now start s = (
  at_limit pairs wrong last now start (deciding pairs wrong) s (deciding_is pairs wrong),
  locks_of pairs wrong last now start (deciding pairs wrong) s (deciding_is pairs wrong),
)

-- a try that may come, now or later, is below the limit
pub below_limit : (pairs : List (ℕ × ℕ)) (wrong : ℕ) (last now : Stamp) (start : ℕ) → IsSchedule pairs → readiness pairs wrong last now start ≢ Locked → wrong < limit_of pairs
below_limit pairs wrong last now start s open_still =
    elim (cases_lt wrong (limit_of pairs)) [
      | inl l ↦ l
      | inr l ↦ absurd (open_still ((limit_is_locked pairs wrong last now start s).1 l))
    ]

-- a schedule that locks stays locked
pub lock_stays : (pairs : List (ℕ × ℕ)) (wrong more : ℕ) (last now later_last later : Stamp) (start later_start : ℕ) → IsSchedule pairs → wrong ≤ more
    → readiness pairs wrong last now start ≡ Locked → readiness pairs more later_last later later_start ≡ Locked
lock_stays pairs wrong more last now later_last later start later_start s h locks =
    let reached = (limit_is_locked pairs wrong last now start s).0 locks in
    (limit_is_locked pairs more later_last later later_start s).1 (omega arith)

-- ---- how a wait ends

-- a wait that is told is the wait of the pair, which doesn't lock
told_wait : (locks early : Bool) (until told : ℕ) → cond locks Locked (cond early (Delayed until) Ready) ≡ Delayed told → (locks ≡ false) × (until ≡ told)
told_wait true early until told e = absurd (cc)
told_wait false true until told e = (refl, cc)
told_wait false false until told e = absurd (cc)

wait_of : (o : Option (ℕ × ℕ)) (last now later : Stamp) (start until : ℕ) → readiness_under o last now start ≡ Delayed until → later.boot ≡ now.boot
    → readiness_under o last later start ≡ waiting_until until later
wait_of None last now later start until e same = absurd (cc)
wait_of (Some p) last now later start until e same =
    let told = told_wait (eqb p.1 locked) (ltb now.at (moment_after p.1 last now start)) (moment_after p.1 last now start) until e in
    rw (told.0, same, told.1) refl

pub wait_ends : (pairs : List (ℕ × ℕ)) (wrong : ℕ) (last now later : Stamp) (start until : ℕ) → readiness pairs wrong last now start ≡ Delayed until → later.boot ≡ now.boot
    → readiness pairs wrong last later start ≡ waiting_until until later
unfolding readiness
wait_ends pairs wrong last now later start until e same = wait_of (deciding pairs wrong) last now later start until e same
