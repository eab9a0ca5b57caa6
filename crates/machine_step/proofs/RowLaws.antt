-- Rows of the table from what their code found and changed.
use Rattle.std.proofs.Common.{◌≡◌, ℕ, zero, suc, ◌≤◌, Bool, true, false, cond, Some, None, List, [], ◌∷◌, refl, ap, sym, ◌∙◌, arith}
use Rattle.std.specs.Prelude.{option_and_then}
use Rattle.std.specs.FinMap.{FinMap, get, insert}
use Rattle.account_machine.specs.declared.answer.Answer.TheVariants as answers
use Rattle.account_machine.specs.declared.answer.Refused.{Refused}
use Rattle.account_machine.specs.declared.factor.Factor.{Factor}
use Rattle.account_machine.specs.declared.factor.Kind.{Kind}
use Rattle.pw_types.specs.declared.era.Era.{Era}
use Rattle.account_machine.specs.declared.session.Session.{Session}
use Rattle.account_machine.specs.declared.session.Token.{Token}
use Rattle.account_machine.specs.declared.user.User.{User}
use Rattle.account_machine.specs.Outline.{Bytes, is_of, session_at}
use Rattle.account_machine.specs.Sessions.{changed, replaced}
use Rattle.account_machine.specs.Row.{first_refusal}
use Rattle.account_machine.specs.Effect.{gives, extended, extended_end, proved, proved_end, right_password, right_pin, set_factor, cleared, first_proved, tried, authenticated}
use Rattle.account_machine.proofs.Places.{changed-replaced}
use Rattle.name_map.proofs.RowLemmas.{order}

-- ---- refusals that don't apply

abbrev applies_at : List (Bool × Refused) → ℕ → Bool
applies_at [] n = false
applies_at (test ∷ tests) zero = test.0
applies_at (test ∷ tests) (suc n) = applies_at tests n

first_none : (b : Bool) (r : Refused) (tests : List (Bool × Refused)) → first_refusal ((b, r) ∷ tests) ≡ None → (b ≡ false) × (first_refusal tests ≡ None)
first_none true r tests none = cc
first_none false r tests none = (refl, none)

-- where no refusal applies the n-th doesn't
pub test_at : (tests : List (Bool × Refused)) → first_refusal tests ≡ None → (n : ℕ) → applies_at tests n ≡ false
test_at [] none n = refl
test_at (test ∷ tests) none zero = (first_none test.0 test.1 tests none).0
test_at (test ∷ tests) none (suc n) = test_at tests (first_none test.0 test.1 tests none).1 n

-- ---- sessions

pub changed-none : (sessions : List Session) (token : Token) (f : Session → Session) → session_at sessions token ≡ None → changed token f sessions ≡ sessions
changed-none [] token f none = refl
changed-none (session ∷ sessions) token f none =
    elim (is_of token session) as (λ b. cond b (Some session) (session_at sessions token) ≡ None
    → cond b (f session ∷ sessions) (session ∷ changed token f sessions) ≡ session ∷ sessions) [
      | true ↦ λ h. cc
      | false ↦ λ h. ap (λ more. session ∷ more) (changed-none sessions token f h)
    ] none

module _ (user : User) (token : Token) (session : Session) (there : session_at user.sessions token ≡ Some session) where
  pub extended-by : (seconds ends : ℕ) (sessions : List Session) → ends ≡ extended_end seconds user.last session
      → sessions ≡ replaced token (record session { ends = ends }) user.sessions
      → extended user token seconds ≡ gives (answers.OkEnds ends) (record user { sessions = sessions })
  extended-by seconds ends sessions ends_is sessions_is =
      let moved : changed token (λ s. record s { ends = extended_end seconds user.last s }) user.sessions ≡ sessions =
      changed-replaced user.sessions token (λ s. record s { ends = extended_end seconds user.last s }) session there
      ∙ ap (λ e. replaced token (record session { ends = e }) user.sessions) (sym ends_is) ∙ sym sessions_is in
      ap (option_and_then (λ (s : Session). gives (answers.OkEnds (extended_end seconds user.last s))
      (record user { sessions = changed token (λ s. record s { ends = extended_end seconds user.last s }) user.sessions }))) there
      ∙ ap (λ e. gives (answers.OkEnds e) (record user { sessions = changed token (λ s. record s { ends = extended_end seconds user.last s }) user.sessions })) (sym ends_is)
      ∙ ap (λ ss. gives (answers.OkEnds ends) (record user { sessions = ss })) moved

  proved-by : (after : Session) (sessions : List Session) → after ≡ proved user.last session → sessions ≡ replaced token after user.sessions
      → changed token (proved user.last) user.sessions ≡ sessions
  proved-by after sessions after_is sessions_is =
      changed-replaced user.sessions token (proved user.last) session there ∙ ap (λ s. replaced token s user.sessions) (sym after_is) ∙ sym sessions_is

  pub right_password-by : (after : Session) (sessions : List Session) → after ≡ proved user.last session → sessions ≡ replaced token after user.sessions
      → right_password user token session ≡ gives (answers.OkPassword after.ends) (record user { sessions = sessions })
  right_password-by after sessions after_is sessions_is =
      ap (λ ss. gives (answers.OkPassword (proved_end user.last session)) (record user { sessions = ss })) (proved-by after sessions after_is sessions_is)
      ∙ ap (λ (s : Session). gives (answers.OkPassword s.ends) (record user { sessions = sessions })) (sym after_is)

  pub right_pin-by : (label : Bytes) (factor : Factor) (factors : FinMap order Factor) (after : Session) (sessions : List Session)
      → factors ≡ insert user.durable.factors label (cleared factor) → after ≡ proved user.last session → sessions ≡ replaced token after user.sessions
      → right_pin user token label session factor ≡ gives (answers.OkEnds after.ends) (record user { durable = record user.durable { factors = factors }; sessions = sessions })
  right_pin-by label factor factors after sessions factors_is after_is sessions_is =
      ap (λ fs. gives (answers.OkEnds (proved_end user.last session)) (record user { durable = record user.durable { factors = fs }; sessions = changed token (proved user.last) user.sessions })) (sym factors_is)
      ∙ ap (λ ss. gives (answers.OkEnds (proved_end user.last session)) (record user { durable = record user.durable { factors = factors }; sessions = ss })) (proved-by after sessions after_is sessions_is)
      ∙ ap (λ (s : Session). gives (answers.OkEnds s.ends) (record user { durable = record user.durable { factors = factors }; sessions = sessions })) (sym after_is)

-- the session of a home's first factor
pub first_proved-some : (count : ℕ) (token : Token) (sessions : List Session) (session : Session) → count ≤ 0 → session_at sessions token ≡ Some session
    → first_proved count token sessions ≡ replaced token (record session { authenticated = true }) sessions
first_proved-some count token sessions session bare there =
    let none : count ≡ 0 = omega (arith, bare) in
    ap (λ n. first_proved n token sessions) none ∙ changed-replaced sessions token (λ s. record s { authenticated = true }) session there

pub first_proved-none : (count : ℕ) (token : Token) (sessions : List Session) → count ≤ 0 → session_at sessions token ≡ None
    → first_proved count token sessions ≡ sessions
first_proved-none count token sessions bare none =
    let zero_is : count ≡ 0 = omega (arith, bare) in
    ap (λ n. first_proved n token sessions) zero_is ∙ changed-none sessions token (λ s. record s { authenticated = true }) none

-- ---- factors

-- a factor that was put under an equal label
pub put-same : (factors after : FinMap order Factor) (label name : Bytes) (factor value : Factor) → after ≡ insert factors name value → name ≡ label → value ≡ factor
    → after ≡ insert factors label factor
put-same factors after label name factor value after_is name_is value_is =
    after_is ∙ ap (λ n. insert factors n value) name_is ∙ ap (insert factors label) value_is

pub set_factor-same : (user : User) (label : Bytes) (factor : Factor) (factors : FinMap order Factor) → factors ≡ insert user.durable.factors label factor
    → set_factor user label factor ≡ record user { durable = record user.durable { factors = factors } }
set_factor-same user label factor factors is = ap (λ fs. record user { durable = record user.durable { factors = fs } }) (sym is)

-- a try of a session and a factor that are there
pub authenticated-by : (era : Era) (user : User) (token : Token) (label secret : Bytes) (session : Session) (factor : Factor) (kind : Kind)
    → session_at user.sessions token ≡ Some session → get user.durable.factors label ≡ Some factor → factor.kind ≡ kind
    → authenticated era user token label secret ≡ tried kind era user token label secret session factor
authenticated-by era user token label secret session factor kind there found kind_is =
    ap (option_and_then (λ (s : Session). option_and_then (λ (f : Factor). tried f.kind era user token label secret s f) (get user.durable.factors label))) there
    ∙ ap (option_and_then (λ (f : Factor). tried f.kind era user token label secret session f)) found
    ∙ ap (λ k. tried k era user token label secret session factor) kind_is
