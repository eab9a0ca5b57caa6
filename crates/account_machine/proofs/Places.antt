-- What stands at the place of a token's session.
use Rattle.std.proofs.Common.{◌≡◌, suc, ◌<◌, ◌≤◌, true, false, cond, Option, Some, None, List, [], ◌∷◌, length, set, refl, ap, arith}
use Rattle.std.specs.Prelude.{slice_get}
use Rattle.std.specs.List.{remove}
use Rattle.account_machine.specs.declared.session.Session.{Session}
use Rattle.account_machine.specs.declared.session.Token.{Token}
use Rattle.account_machine.specs.Outline.{is_of, session_at}
use Rattle.account_machine.specs.Sessions.{place_of, changed, replaced, ended}

-- the token's session stands at its place
pub session_at-place : (sessions : List Session) (token : Token) → session_at sessions token ≡ slice_get sessions (place_of token sessions)
session_at-place [] token = refl
session_at-place (session ∷ sessions) token =
    elim (is_of token session) as (λ b. cond b (Some session) (session_at sessions token) ≡ slice_get (session ∷ sessions) (cond b 0 (suc (place_of token sessions)))) [
      | true ↦ refl
      | false ↦ session_at-place sessions token
    ]

pub replaced-place : (sessions : List Session) (token : Token) (next : Session) → place_of token sessions < length sessions
    → replaced token next sessions ≡ set sessions (place_of token sessions) next
replaced-place [] token next inside = absurd (omega arith)
replaced-place (session ∷ sessions) token next inside =
    elim (is_of token session) as (λ b. cond b 0 (suc (place_of token sessions)) < suc (length sessions)
    → cond b (next ∷ sessions) (session ∷ replaced token next sessions) ≡ set (session ∷ sessions) (cond b 0 (suc (place_of token sessions))) next) [
      | true ↦ λ h. refl
      | false ↦ λ h. ap (λ more. session ∷ more) (replaced-place sessions token next (omega arith))
    ] inside

pub replaced-none : (sessions : List Session) (token : Token) (next : Session) → length sessions ≤ place_of token sessions → replaced token next sessions ≡ sessions
replaced-none [] token next outside = refl
replaced-none (session ∷ sessions) token next outside =
    elim (is_of token session) as (λ b. suc (length sessions) ≤ cond b 0 (suc (place_of token sessions))
    → cond b (next ∷ sessions) (session ∷ replaced token next sessions) ≡ session ∷ sessions) [
      | true ↦ λ h. absurd (omega arith)
      | false ↦ λ h. ap (λ more. session ∷ more) (replaced-none sessions token next (omega arith))
    ] outside

pub ended-place : (sessions : List Session) (token : Token) → place_of token sessions < length sessions
    → ended token sessions ≡ remove sessions (place_of token sessions)
ended-place [] token inside = absurd (omega arith)
ended-place (session ∷ sessions) token inside =
    elim (is_of token session) as (λ b. cond b 0 (suc (place_of token sessions)) < suc (length sessions)
    → cond b sessions (session ∷ ended token sessions) ≡ remove (session ∷ sessions) (cond b 0 (suc (place_of token sessions)))) [
      | true ↦ λ h. refl
      | false ↦ λ h. ap (λ more. session ∷ more) (ended-place sessions token (omega arith))
    ] inside

pub ended-none : (sessions : List Session) (token : Token) → length sessions ≤ place_of token sessions → ended token sessions ≡ sessions
ended-none [] token outside = refl
ended-none (session ∷ sessions) token outside =
    elim (is_of token session) as (λ b. suc (length sessions) ≤ cond b 0 (suc (place_of token sessions))
    → cond b sessions (session ∷ ended token sessions) ≡ session ∷ sessions) [
      | true ↦ λ h. absurd (omega arith)
      | false ↦ λ h. ap (λ more. session ∷ more) (ended-none sessions token (omega arith))
    ] outside

-- a session that is there is changed as it is replaced
pub changed-replaced : (sessions : List Session) (token : Token) (f : Session → Session) (session : Session) → session_at sessions token ≡ Some session
    → changed token f sessions ≡ replaced token (f session) sessions
changed-replaced [] token f session there = refl
changed-replaced (first ∷ sessions) token f session there =
    elim (is_of token first) as (λ b. cond b (Some first) (session_at sessions token) ≡ Some session
    → cond b (f first ∷ sessions) (first ∷ changed token f sessions) ≡ cond b (f session ∷ sessions) (first ∷ replaced token (f session) sessions)) [
      | true ↦ λ h. ap (λ (found : Option Session). elim found [ Some x ↦ f x ∷ sessions | None ↦ sessions ]) h
      | false ↦ λ h. ap (λ more. first ∷ more) (changed-replaced sessions token f session h)
    ] there
