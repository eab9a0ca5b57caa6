-- A clearing where there is no PIN.
use Rattle.std.proofs.Common.{◌≡◌, ℕ, ◌+◌, ◌≤◌, cond, List, [], ◌∷◌, Bool, true, false, None, Some, refl, sym, ap, ◌∙◌, subst, arith}
use Rattle.std.specs.Prelude.{if◌then◌else◌, ◌==◌}
use Rattle.std.specs.List.{fold}
use Rattle.std.specs.FinMap.{entries}
use Rattle.account_machine.specs.declared.answer.Answer.TheVariants as answers
use Rattle.account_machine.specs.declared.factor.Factor.{Factor}
use Rattle.account_machine.specs.declared.request.Turn.TheVariants.{Clear}
use Rattle.account_machine.specs.declared.session.Token.{Token}
use Rattle.account_machine.specs.declared.user.User.{User}
use Rattle.account_machine.specs.Effect.{first_counted, cleared_by}
use Rattle.account_machine.specs.Outline.{Bytes, pins, is_pin_kind}
use Rattle.account_machine.specs.Step.{by_row}
use Rattle.account_machine.specs.User.{mark_of, outline_of}
use Rattle.share_api.specs.Seen.{ShareSeen}
use Rattle.user_state.specs.Outlines.{outline_in}
use Rattle.user_state.specs.Turns.{IsGiven}
use Rattle.user_state.specs.declared.state.UserState.{UserState}
use Rattle.user_state.proofs.OutlineLemmas.{same_outline}
use Rattle.user_state.proofs.RowLemmas.{pins_marked}
use Rattle.turn_rows.specs.Due.{IsReady, IsDue}
use Rattle.user_turn.specs.Acts.{IsMade}
use Rattle.user_turn.proofs.Moving.{made_still, draws_same}
use Rattle.turn_rows.proofs.Quiet.{quiet_given, row_by, as_user}

-- how many PINs there are, counted on from a number
abbrev counts : ℕ → List (Bytes × Factor) → ℕ
counts start es = fold (λ n row. n + cond (is_pin_kind row.1.kind) 1 0) start es

at_least : (start : ℕ) (es : List (Bytes × Factor)) → start ≤ counts start es
at_least start [] = omega arith
at_least start (e ∷ es) = omega (arith, at_least (start + cond (is_pin_kind e.1.kind) 1 0) es)

-- among rows of which none is a PIN none has a count
none_counted : (es : List (Bytes × Factor)) → counts 0 es ≡ 0 → first_counted es ≡ None
none_counted [] none = refl
none_counted (e ∷ es) none = by (is_pin_kind e.1.kind) refl (λ rest. none_counted es rest)
  where
    by : (b : Bool) → is_pin_kind e.1.kind ≡ b → (counts 0 es ≡ 0 → first_counted es ≡ None)
        → first_counted (e ∷ es) ≡ None
    by true is more = let z : counts 1 es ≡ 0 = subst (λ (x : Bool). counts (0 + cond x 1 0) es ≡ 0) is none in
        absurd (omega (arith, at_least 1 es, z))
    by false is more =
        ap (λ (x : Bool). if x then (if e.1.wrong == 0 then first_counted es else Some e) else first_counted es) is
        ∙ more (subst (λ (x : Bool). counts (0 + cond x 1 0) es ≡ 0) is none)

-- an outline without PINs is one of a user without a counted PIN
no_counted : (user : User) → pins (outline_of user).home.marks ≡ 0
    → first_counted (entries user.durable.factors) ≡ None
no_counted user none =
    none_counted (entries user.durable.factors) (sym (pins_marked mark_of user.durable.factors) ∙ none)

-- nothing is cleared
clear_given : (state : UserState) → IsReady state → (token : Token) → IsDue state (Clear token)
    → pins (outline_in state).home.marks ≡ 0 → (share : ShareSeen)
    → IsGiven share share state state (Clear token) answers.PinsClear
clear_given state ready token due none share =
    quiet_given share state state (Clear token) answers.PinsClear
    (λ e. let k : ◌≡◌ {A = ℕ} 0 1 = cc in omega (arith, k))
    (record { account = refl; cost = refl; lost = refl })
    (λ seen contents user keys p.
    let same = same_outline state contents user keys ready.plain p.fits ready.settled p.holds in
    record {
      next = user;
      given = by_row (row_by share.era user (Clear token) [] answers.PinsClear user
          (as_user state ready contents user keys (Clear token) None p.fits p.holds due)
          (ap (λ o. cleared_by o user) (no_counted user (subst (λ o. pins o.home.marks ≡ 0) same none))));
      fits = p.fits;
      durable = refl;
      other = refl;
    })

pub clear_made : (state : UserState) → IsReady state → (token : Token) → IsDue state (Clear token)
    → pins (outline_in state).home.marks ≡ 0 → (share : ShareSeen)
    → IsMade share share state state (Clear token) answers.PinsClear
clear_made state ready token due none share =
    made_still share state state (Clear token) answers.PinsClear answers.PinsClear
    (clear_given state ready token due none share) due refl (refl, refl) (λ name e. cc e) (draws_same state state refl)
