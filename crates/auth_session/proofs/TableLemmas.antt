-- Edits of a table by place, and the machine's by token.
use Rattle.std.proofs.Common.{◌≡◌, ℕ, zero, suc, ◌<◌, true, false, cond, Some, List, [], ◌∷◌, ◌++◌, drop, length, get_or, set, refl, ap, sym, ◌∙◌, arith}
use Rattle.std.specs.Prelude.{slice_get, option_map, ◌==◌}
use Rattle.std.specs.List.{remove}
use Rattle.std.proofs.lemmas.List.{length-map}
use Rattle.account_machine.specs.declared.session.Session.{Session}
use Rattle.account_machine.specs.declared.session.Token.{Token}
use Rattle.account_machine.specs.Outline.{is_of}
use Rattle.account_machine.specs.Sessions.{place_of, changed, ended, with_session}
use Rattle.auth_session.specs.declared.table.Kept.{Kept}
use Rattle.auth_session.specs.Table.{sessions_in, with_kept, edit_at}

-- an edit there writes there
pub edit_at-set : (f : Kept → Kept) (kept : List Kept) (place : ℕ) (d : Kept) → place < length kept → edit_at f place kept ≡ set kept place (f (get_or kept place d))
edit_at-set f [] place d inside = absurd (omega arith)
edit_at-set f (k ∷ kept) zero d inside = refl
edit_at-set f (k ∷ kept) (suc place) d inside = ap (λ more. k ∷ more) (edit_at-set f kept place d (omega arith))

-- what is read there
pub read-at : {A : Type 0} (g : Kept → A) (kept : List Kept) (place : ℕ) (d : Kept) → place < length kept → option_map g (slice_get kept place) ≡ Some (g (get_or kept place d))
read-at g [] place d inside = absurd (omega arith)
read-at g (k ∷ kept) zero d inside = refl
read-at g (k ∷ kept) (suc place) d inside = read-at g kept place d (omega arith)

module _ (token : Token) where
  -- an edit at the token's place is one of the token's session
  pub changed-edit_at : (f : Kept → Kept) (g : Session → Session) → ((k : Kept) → (f k).session ≡ g k.session) → (kept : List Kept)
      → sessions_in (edit_at f (place_of token (sessions_in kept)) kept) ≡ changed token g (sessions_in kept)
  changed-edit_at f g same [] = refl
  changed-edit_at f g same (k ∷ kept) =
      elim (is_of token k.session) as (λ b. sessions_in (edit_at f (cond b 0 (suc (place_of token (sessions_in kept)))) (k ∷ kept))
      ≡ cond b (g k.session ∷ sessions_in kept) (k.session ∷ changed token g (sessions_in kept))) [
        | true ↦ ap (λ s. s ∷ sessions_in kept) (same k)
        | false ↦ ap (λ more. k.session ∷ more) (changed-edit_at f g same kept)
      ]

  pub ended-remove : (kept : List Kept) → place_of token (sessions_in kept) < length kept
      → sessions_in (remove kept (place_of token (sessions_in kept))) ≡ ended token (sessions_in kept)
  ended-remove [] inside = absurd (omega arith)
  ended-remove (k ∷ kept) inside =
      elim (is_of token k.session) as (λ b. cond b 0 (suc (place_of token (sessions_in kept))) < suc (length kept)
      → sessions_in (remove (k ∷ kept) (cond b 0 (suc (place_of token (sessions_in kept))))) ≡ cond b (sessions_in kept) (k.session ∷ ended token (sessions_in kept))) [
        | true ↦ λ h. refl
        | false ↦ λ h. ap (λ more. k.session ∷ more) (ended-remove kept (omega arith))
      ] inside

drop-sessions : (kept : List Kept) → sessions_in (drop 1 kept) ≡ drop 1 (sessions_in kept)
drop-sessions [] = refl
drop-sessions (k ∷ kept) = refl

sessions-append : (kept more : List Kept) → sessions_in (kept ++ more) ≡ sessions_in kept ++ sessions_in more
sessions-append [] more = refl
sessions-append (k ∷ kept) more = ap (λ rest. k.session ∷ rest) (sessions-append kept more)

pub with_session-kept : (kept : List Kept) (k : Kept) → sessions_in (with_kept kept k) ≡ with_session (sessions_in kept) k.session
with_session-kept kept k =
    sessions-append (cond (length kept == 64) (drop 1 kept) kept) (k ∷ [])
    ∙ ap (λ front. front ++ k.session ∷ []) (
    elim (length kept == 64) as (λ b. sessions_in (cond b (drop 1 kept) kept) ≡ cond b (drop 1 (sessions_in kept)) (sessions_in kept)) [
      | true ↦ drop-sessions kept
      | false ↦ refl
    ] ∙ ap (λ n. cond (n == 64) (drop 1 (sessions_in kept)) (sessions_in kept)) (sym (length-map kept (λ k. k.session))))
