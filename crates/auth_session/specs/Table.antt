-- A table of sessions, and its edits by place.
use Rattle.std.specs.Prelude.{ℕ, zero, suc, ◌+◌, List, [], ◌∷◌, ◌++◌, Option, None, Some, Result, Ok, Err, ◌==◌, nat_le, if◌then◌else◌, true, false, map, drop, length}
use Rattle.account_machine.specs.declared.session.Session.{Session}
use Rattle.account_machine.specs.declared.session.Token.{Token}
use Rattle.account_machine.specs.declared.session.Intent.{Intent}
use Rattle.account_machine.specs.Outline.{session_at}
use Rattle.account_machine.specs.Sessions.{place_of}
use Rattle.account_machine.specs.Effect.{extended_end, proved}
use Rattle.auth_session.specs.declared.table.Kept.{Kept}
use Rattle.auth_session.specs.declared.table.SessionFault.{SessionFault}
use Rattle.auth_session.specs.declared.table.SessionFault.TheVariants.{Unknown, Expired}

-- the sessions with their main keys, in the order of their numbers, and the next number
pub record Table : Type 0 where
  pub kept : List Kept
  pub next : ℕ

-- the machine's sessions
abbrev pub sessions_in : List Kept → List Session
sessions_in kept = map (λ k. k.session) kept

-- a session that starts now
abbrev pub new_session : ℕ → List ℕ → Intent → ℕ → Session
new_session number tail intent moment =
    record { number = number; tail = tail; intent = intent; ends = moment + 300; authenticated = false }

-- one more. Of 64 the oldest is dropped
abbrev pub with_kept : List Kept → Kept → List Kept
with_kept kept k = (if length kept == 64 then drop 1 kept else kept) ++ k ∷ []

-- the one at a place, changed
abbrev pub edit_at : (Kept → Kept) → ℕ → List Kept → List Kept
edit_at f place [] = []
edit_at f zero (k ∷ kept) = f k ∷ kept
edit_at f (suc place) (k ∷ kept) = k ∷ edit_at f place kept

-- the place of a token's session at a moment: unknown before expired
abbrev pub found_by : Option Session → ℕ → ℕ → Result ℕ SessionFault
found_by None place moment = Err Unknown
found_by (Some session) place moment = if nat_le session.ends moment then Err Expired else Ok place

abbrev pub found_in : List Kept → Token → ℕ → Result ℕ SessionFault
found_in kept token moment = found_by (session_at (sessions_in kept) token) (place_of token (sessions_in kept)) moment

-- a later end, a proved main key, and the main key of a home's first factor, which leaves the end
abbrev pub extended_kept : ℕ → ℕ → Kept → Kept
extended_kept seconds moment k = record k { session = record k.session { ends = extended_end seconds moment k.session } }

abbrev pub proved_kept : List ℕ → ℕ → Kept → Kept
proved_kept main moment k = record { session = proved moment k.session; main = Some main }

abbrev pub first_proved_kept : List ℕ → Kept → Kept
first_proved_kept main k = record { session = record k.session { authenticated = true }; main = Some main }
