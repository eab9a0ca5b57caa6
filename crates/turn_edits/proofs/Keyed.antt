-- Main keys of kept sessions.
use Rattle.std.proofs.Common.{◌≡◌, ℕ, zero, suc, ◌+◌, drop, length, arith, Bool, true, false, not, List, [], ◌∷◌, Option, None, Some, refl, sym, ap, ◌∙◌, subst, is_some, is_none, option_map, true≢false}
use Rattle.std.specs.Prelude.{IfSome, slice_get, option_and_then, ◌||◌}
use Rattle.std.specs.List.{AllByRecursion, list_any}
use Rattle.account_machine.specs.Outline.{session_at}
use Rattle.account_machine.specs.Row.{is_not_authorised}
use Rattle.account_machine.specs.Sessions.{place_of}
use Rattle.account_machine.specs.declared.session.Session.{Session}
use Rattle.account_machine.specs.declared.session.Token.{Token}
use Rattle.auth_session.specs.Table.{sessions_in, first_proved_kept}
use Rattle.auth_session.specs.declared.table.Kept.{Kept}
use Rattle.share_api.specs.Contents.{Bytes}
use Rattle.stored_home.proofs.MapLemmas.{not_None, from_some}
use Rattle.user_state.specs.Fits.{IsProved}
use Rattle.user_state.specs.Sound.{IsKeyed}
use Rattle.turn_rows.proofs.Kept.{at_its_place}
use Rattle.turn_edits.specs.Sessions.{main_in, has_main}

-- what holds of all kept sessions holds of the one at a place
all_at : (P : Kept → Type 0) (kept : List Kept) (at : ℕ) (k : Kept) → AllByRecursion P kept
    → slice_get kept at ≡ Some k → P k
all_at P [] at k all e = absurd (not_None k (sym e))
all_at P (x ∷ kept) zero k all e = subst P (from_some x k e) all.0
all_at P (x ∷ kept) (suc at) k all e = all_at P kept at k all.1 e

-- a session that is authorised
authorised : (o : Option Session) → is_none o ≡ false → is_not_authorised o ≡ false
    → (s : Session) × (o ≡ Some s) × (s.authenticated ≡ true)
authorised None there test = absurd (true≢false there)
authorised (Some s) there test = (s, refl, by s.authenticated test)
  where
    by : (b : Bool) → not b ≡ false → b ≡ true
    by true e = refl
    by false e = absurd (true≢false e)

module _ (kept : List Kept) (token : Token) where
  -- an authorised session has a main key
  pub main_there : AllByRecursion IsKeyed kept → is_none (session_at (sessions_in kept) token) ≡ false
      → is_not_authorised (session_at (sessions_in kept) token) ≡ false → is_some (main_in kept token) ≡ true
  main_there keyed there test =
      let s = authorised (session_at (sessions_in kept) token) there test in
      by (slice_get kept (place_of token (sessions_in kept))) refl s.0 s.2 (sym (at_its_place token kept) ∙ s.1)
    where
      by : (o : Option Kept) → slice_get kept (place_of token (sessions_in kept)) ≡ o → (s : Session)
          → s.authenticated ≡ true → option_map (λ (k : Kept). k.session) o ≡ Some s
          → is_some (option_and_then (λ (k : Kept). k.main) o) ≡ true
      by None is s auth e = absurd (not_None s (sym e))
      by (Some k) is s auth e =
          sym (all_at IsKeyed kept (place_of token (sessions_in kept)) k keyed is)
          ∙ ap (λ (x : Session). x.authenticated) (from_some k.session s e) ∙ auth

  -- and that is the home's
  pub main_is : (main own : Bytes) → AllByRecursion (IsProved own) kept → main_in kept token ≡ Some main → own ≡ main
  main_is main own proved e = by (slice_get kept (place_of token (sessions_in kept))) refl e
    where
      by : (o : Option Kept) → slice_get kept (place_of token (sessions_in kept)) ≡ o
          → option_and_then (λ (k : Kept). k.main) o ≡ Some main → own ≡ main
      by None is e = absurd (not_None main (sym e))
      by (Some k) is e =
          let p : IsProved own k = all_at (IsProved own) kept (place_of token (sessions_in kept)) k proved is in
          sym (subst (λ o. IfSome o (λ key. key ≡ own)) e p.1)

  -- where no session has the token there is no main key
  pub no_main : session_at (sessions_in kept) token ≡ None → main_in kept token ≡ None
  no_main none = by (slice_get kept (place_of token (sessions_in kept))) (sym (at_its_place token kept) ∙ none)
    where
      by : (o : Option Kept) → option_map (λ (k : Kept). k.session) o ≡ None
          → option_and_then (λ (k : Kept). k.main) o ≡ None
      by None e = refl
      by (Some k) e = absurd (not_None k.session e)

-- ---- no session has a main key

-- without a main key any key may be the home's
pub proved_by_none : (main : Bytes) (kept : List Kept) → has_main kept ≡ false → AllByRecursion IsKeyed kept
    → AllByRecursion (IsProved main) kept
proved_by_none main [] none keyed = tt
proved_by_none main (k ∷ kept) none keyed = (
  (keyed.0, by k.main (first (is_some k.main) (list_any (λ (x : Kept). is_some x.main) kept) none)),
  proved_by_none main kept (second (is_some k.main) (list_any (λ (x : Kept). is_some x.main) kept) none) keyed.1,
)
  where
    first : (a b : Bool) → (a || b) ≡ false → a ≡ false
    first true b e = e
    first false b e = refl

    second : (a b : Bool) → (a || b) ≡ false → b ≡ false
    second true b e = absurd (true≢false e)
    second false b e = e

    by : (o : Option Bytes) → is_some o ≡ false → IfSome o (λ key. key ≡ main)
    by None e = tt
    by (Some key) e = absurd (true≢false e)

-- and the one that is kept first is
pub first_is_proved : (main : Bytes) (k : Kept) → IsProved main k → IsProved main (first_proved_kept main k)
first_is_proved main k p = (refl, refl)

pub first_is_keyed : (main : Bytes) (k : Kept) → IsKeyed k → IsKeyed (first_proved_kept main k)
first_is_keyed main k p = refl

-- ---- looking for a main key

abbrev keeps_main : Kept → Bool
keeps_main k = is_some k.main

-- one that is found is among those from there on
pub main_found : (kept : List Kept) (at : ℕ)
    → is_some (option_and_then (λ (k : Kept). k.main) (slice_get kept at)) ≡ true
    → list_any keeps_main (drop at kept) ≡ true
main_found [] at e = absurd (true≢false (sym e))
main_found (k ∷ kept) zero e = ap (λ b. b || list_any keeps_main kept) e
main_found (k ∷ kept) (suc at) e = main_found kept at e

-- and where there is none, it is among those behind
pub main_behind : (kept : List Kept) (at : ℕ)
    → is_some (option_and_then (λ (k : Kept). k.main) (slice_get kept at)) ≡ false
    → list_any keeps_main (drop (at + 1) kept) ≡ list_any keeps_main (drop at kept)
main_behind kept at e = subst (λ (n : ℕ). list_any keeps_main (drop n kept) ≡ list_any keeps_main (drop at kept))
    (let more : suc at ≡ at + 1 = omega arith in more) (behind kept at e)
  where
    none_left : (at : ℕ) → drop at (let none : List Kept = [] in none) ≡ []
    none_left zero = refl
    none_left (suc at) = refl

    behind : (kept : List Kept) (at : ℕ)
        → is_some (option_and_then (λ (k : Kept). k.main) (slice_get kept at)) ≡ false
        → list_any keeps_main (drop (suc at) kept) ≡ list_any keeps_main (drop at kept)
    behind [] at e = ap (list_any keeps_main) (sym (none_left at))
    behind (k ∷ kept) zero e = sym (ap (λ b. b || list_any keeps_main kept) e)
    behind (k ∷ kept) (suc at) e = behind kept at e

-- behind the last there is none
pub main_at_end : (kept : List Kept) → list_any keeps_main (drop (length kept) kept) ≡ false
main_at_end [] = refl
main_at_end (k ∷ kept) = main_at_end kept
