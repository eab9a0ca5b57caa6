-- A password that is tried, over the user of a state.
use Rattle.std.proofs.Common.{◌≡◌, ◌≢◌, ℕ, zero, suc, ◌<◌, List, [], ◌∷◌, Bool, Some, refl, sym, ap, ◌∙◌, length, ⊎_elim, bytes_eq, arith}
use Rattle.std.proofs.lemmas.Slice.Eq.{bytes_eq-Decides}
use Rattle.std.specs.Prelude.{slice_get, option_map, option_and_then, if◌then◌else◌}
use Rattle.std.specs.FinMap.{get}
use Rattle.account_machine.specs.declared.answer.Answer.TheVariants as answers
use Rattle.account_machine.specs.declared.factor.Factor.{Factor}
use Rattle.account_machine.specs.declared.factor.Kind.TheVariants.{Password}
use Rattle.account_machine.specs.declared.session.Session.{Session}
use Rattle.account_machine.specs.declared.session.Token.{Token}
use Rattle.account_machine.specs.declared.user.User.{User}
use Rattle.account_machine.specs.Effect.{gives, right_password, password_tried, tried, authenticated}
use Rattle.account_machine.specs.Outline.{session_at}
use Rattle.account_machine.specs.Sessions.{place_of}
use Rattle.auth_session.specs.Table.{sessions_in}
use Rattle.auth_session.specs.declared.table.Kept.{Kept}
use Rattle.pw_types.specs.declared.era.Era.{Era}
use Rattle.share_api.specs.Contents.{Bytes}
use Rattle.stored_home.proofs.MapLemmas.{either}
use Rattle.turn_rows.proofs.Kept.{at_its_place}

-- what stands at a place inside a list
pub kept_at : (kept : List Kept) (at : ℕ) → at < length kept → (k : Kept) × (slice_get kept at ≡ Some k)
kept_at [] at inside = absurd (omega arith)
kept_at (k ∷ kept) zero inside = (k, refl)
kept_at (k ∷ kept) (suc at) inside = kept_at kept at (omega arith)

-- the token's session is the one at its place
pub session_there : (kept : List Kept) (token : Token) (at : ℕ) (k : Kept) → at ≡ place_of token (sessions_in kept)
    → slice_get kept at ≡ Some k → session_at (sessions_in kept) token ≡ Some k.session
session_there kept token at k place read =
    at_its_place token kept
    ∙ ap (λ p. option_map (λ (x : Kept). x.session) (slice_get kept p)) (sym place)
    ∙ ap (option_map (λ (x : Kept). x.session)) read

module _ (era : Era) (user : User) (token : Token) (label secret : Bytes) (session : Session) (factor : Factor)
    (session_is : session_at user.sessions token ≡ Some session) (factor_is : get user.durable.factors label ≡ Some
    factor)
    (is_password : factor.kind ≡ Password) where
  -- the row compares the secret with the factor's
  tried_effect : authenticated era user token label secret ≡ password_tried user token secret session factor
  tried_effect =
      ap (option_and_then (λ (s : Session). option_and_then (λ (f : Factor). tried f.kind era user token label secret
      s f)
      (get user.durable.factors label))) session_is
      ∙ ap (option_and_then (λ (f : Factor). tried f.kind era user token label secret session f)) factor_is
      ∙ ap (λ k. tried k era user token label secret session factor) is_password

  -- another secret is wrong
  pub wrong_effect : secret ≢ factor.secret → authenticated era user token label secret ≡ gives answers.Wrong user
  wrong_effect apart =
      tried_effect
      ∙ ap (λ (b : Bool). if b then right_password user token session else gives answers.Wrong user)
      (⊎_elim (λ same. absurd (apart ((bytes_eq-Decides secret factor.secret).0 same))) (λ differs. differs)
      (either (bytes_eq secret factor.secret)))

  -- the factor's secret is right
  pub right_effect : secret ≡ factor.secret → authenticated era user token label secret ≡ right_password user token
      session
  right_effect same =
      tried_effect
      ∙ ap (λ (b : Bool). if b then right_password user token session else gives answers.Wrong user)
      ((bytes_eq-Decides secret factor.secret).1 same)
