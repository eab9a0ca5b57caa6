-- Facts of all kept sessions, and the token's session at its place.
use Rattle.std.proofs.Common.{◌≡◌, ℕ, zero, suc, true, false, Some, List, [], ◌∷◌, ◌++◌, drop, length, refl}
use Rattle.std.specs.Prelude.{slice_get, option_map, ◌==◌, if◌then◌else◌}
use Rattle.std.specs.List.{AllByRecursion, remove}
use Rattle.account_machine.specs.declared.session.Token.{Token}
use Rattle.account_machine.specs.Outline.{is_of, session_at}
use Rattle.account_machine.specs.Sessions.{place_of}
use Rattle.auth_session.specs.Table.{sessions_in, with_kept, edit_at}
use Rattle.auth_session.specs.declared.table.Kept.{Kept}

module _ (P : Kept → Type 0) where
  all_append : (kept more : List Kept) → AllByRecursion P kept → AllByRecursion P more → AllByRecursion P (kept ++ more)
  all_append [] more a b = b
  all_append (k ∷ kept) more a b = (a.0, all_append kept more a.1 b)

  all_drop : (kept : List Kept) → AllByRecursion P kept → AllByRecursion P (drop 1 kept)
  all_drop [] a = a
  all_drop (k ∷ kept) a = a.1

  -- what holds of each holds once there is one more
  pub all_with_kept : (kept : List Kept) (k : Kept) → AllByRecursion P kept → P k → AllByRecursion P (with_kept kept k)
  all_with_kept kept k a b =
      all_append (if length kept == 64 then drop 1 kept else kept) (k ∷ [])
      (elim (length kept == 64) as (λ full. AllByRecursion P (if full then drop 1 kept else kept)) [
        | true ↦ all_drop kept a
        | false ↦ a
      ])
      (b, tt)

  -- once one is changed
  pub all_edit : (f : Kept → Kept) → ((k : Kept) → P k → P (f k)) → (kept : List Kept) (place : ℕ)
      → AllByRecursion P kept → AllByRecursion P (edit_at f place kept)
  all_edit f still [] place a = a
  all_edit f still (k ∷ kept) zero a = (still k a.0, a.1)
  all_edit f still (k ∷ kept) (suc place) a = (a.0, all_edit f still kept place a.1)

  -- and once one is gone
  pub all_remove : (kept : List Kept) (place : ℕ) → AllByRecursion P kept → AllByRecursion P (remove kept place)
  all_remove [] zero a = a
  all_remove [] (suc place) a = a
  all_remove (k ∷ kept) zero a = a.1
  all_remove (k ∷ kept) (suc place) a = (a.0, all_remove kept place a.1)

-- the token's session is the one at its place
pub at_its_place : (token : Token) (kept : List Kept)
    → session_at (sessions_in kept) token
    ≡ option_map (λ (k : Kept). k.session) (slice_get kept (place_of token (sessions_in kept)))
at_its_place token [] = refl
at_its_place token (k ∷ kept) =
    elim (is_of token k.session) as (λ b. (if b then Some k.session else session_at (sessions_in kept) token)
    ≡ option_map (λ (x : Kept). x.session)
    (slice_get (k ∷ kept) (if b then 0 else suc (place_of token (sessions_in kept))))) [
      | true ↦ refl
      | false ↦ at_its_place token kept
    ]
