-- The answers that may be given to a settled user, from what the code found of them.
use Rattle.std.proofs.Common.{◌≡◌, ◌⊎◌, Bool, true, false, Option, Some, None, inl, inr, refl, ap, sym, ◌∙◌}
use Rattle.std.specs.Prelude.{is_some, IsSome}
use Rattle.account_machine.specs.declared.answer.Answer.{Answer}
use Rattle.account_machine.specs.declared.answer.Answer.TheVariants as answers
use Rattle.account_machine.specs.declared.request.Turn.{Turn}
use Rattle.account_machine.specs.declared.user.User.{User}
use Rattle.pw_types.specs.declared.era.Era.{Era}
use Rattle.account_machine.specs.Effect.{gives}
use Rattle.account_machine.specs.Step.{outcome, Row, MayFail, Unsettles, Loses, HidesCounts, IsStandIn, Given, by_row, unsettles, loses, hides, stands_in}
use Rattle.machine_step.specs.Done.{tail_in, IsDone}
use Rattle.machine_step.proofs.Tails.{answer_given, some_outcome, outcome_tail}

module _ (era : Era) (user : User) (turn : Turn) (answer : Answer) where
  -- the row's answer
  pub given_by_row : (done : User) → IsDone (outcome era (tail_in answer) user turn) answer done (Some true) → Given era user turn answer done
  given_by_row done is = by_row (tail_in answer, is.1 ∙ ap (λ a. gives a done) (sym (is.2.0 refl)))

  -- a device failed
  pub given_unsettled : (done : User) (found : Option Bool) → IsDone (outcome era (tail_in answer) user turn) answer done found → IsSome found → MayFail turn → answer ≡ answers.StorageFault
      → Given era user turn answer (record user { other = Some done.durable })
  given_unsettled done None is gave may fault = cc
  given_unsettled done (Some fits) is gave may fault =
      unsettles (record { may = may; fault = fault; due = is.0; done = done; row = (tail_in answer, is.1); after_is = refl })

  -- the user may stay as it is
  abbrev pub Stays : Type 0
  Stays = Loses user turn answer user ⊎ HidesCounts user turn answer user ⊎ (MayFail turn × IsStandIn answer)

  pub given_stay : Stays → Given era user turn answer user
  given_stay (inl lost) = loses lost
  given_stay (inr (inl hidden)) = hides hidden
  given_stay (inr (inr stand)) = stands_in (record { may = stand.0; answer_is = stand.1; after_is = refl })

  -- the row gives another answer, or nothing
  not_by_row : (done : User) (found : Option Bool) → IsDone (outcome era (tail_in answer) user turn) answer done found → (found ≡ Some true → ⊥) → (after : User) → Row era user turn answer after → ⊥
  not_by_row done None is other after row =
      let clash : None ≡ gives answer after = sym is ∙ outcome_tail era user turn row.0 answer after row.1 in cc
  not_by_row done (Some true) is other after row = other refl
  not_by_row done (Some false) is other after row =
      let same : is.0 ≡ answer = answer_given is.0 answer done after (sym is.1 ∙ outcome_tail era user turn row.0 answer after row.1) in
      let clash : false ≡ true = is.2.1 (sym same) in cc

  -- and so no device can fail in it
  not_unsettled : (done : User) (found : Option Bool) → IsDone (outcome era (tail_in answer) user turn) answer done found
      → (IsSome found → MayFail turn → answer ≡ answers.StorageFault → ⊥) → (after : User) → Unsettles era user turn answer after → ⊥
  not_unsettled done None is fails after u =
      let gives_some : is_some (outcome era u.row.0 user turn) ≡ true = ap is_some u.row.1 in
      let gives_none : is_some (outcome era (tail_in answer) user turn) ≡ false = ap is_some is in
      let same : is_some (outcome era u.row.0 user turn) ≡ is_some (outcome era (tail_in answer) user turn) = some_outcome era user turn u.row.0 (tail_in answer) in cc
  not_unsettled done (Some fits) is fails after u = fails refl u.may u.fault

  -- nothing may be given where none of the alternatives stands
  pub not_given : (done : User) (found : Option Bool) → IsDone (outcome era (tail_in answer) user turn) answer done found
      → (found ≡ Some true → ⊥)
      → (IsSome found × MayFail turn × (answer ≡ answers.StorageFault) → ⊥)
      → (Stays → ⊥)
      → (after : User) → Given era user turn answer after → ⊥
  not_given done found is row fails stays after (by_row r) = not_by_row done found is row after r
  not_given done found is row fails stays after (unsettles u) = not_unsettled done found is (λ gave may fault. fails (gave, may, fault)) after u
  not_given done found is row fails stays after (loses l) = stays (inl (record { named = l.named; none = l.none; host = l.host; chip = l.chip; answer_is = l.answer_is; after_is = refl }))
  not_given done found is row fails stays after (hides h) = stays (inr (inl (record { account = h.account; turn_is = h.turn_is; none = h.none; answer_is = h.answer_is; after_is = refl })))
  not_given done found is row fails stays after (stands_in s) = stays (inr (inr (s.may, s.answer_is)))
