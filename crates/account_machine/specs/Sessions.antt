-- Edits of an account's sessions, which stand in the order of their numbers.
use Rattle.std.specs.Prelude.{ℕ, suc, List, [], ◌∷◌, ◌++◌, ◌==◌, if◌then◌else◌, drop, length}
use Rattle.account_machine.specs.declared.session.Session.{Session}
use Rattle.account_machine.specs.declared.session.Token.{Token}
use Rattle.account_machine.specs.Outline.{is_of}

-- the number of sessions before the token's
abbrev pub place_of : Token → List Session → ℕ
place_of token [] = 0
place_of token (session ∷ sessions) = if is_of token session then 0 else suc (place_of token sessions)

-- the token's session, changed
abbrev pub changed : Token → (Session → Session) → List Session → List Session
changed token f [] = []
changed token f (session ∷ sessions) = if is_of token session then f session ∷ sessions else session ∷ changed token f sessions

-- another session in the place of the token's
abbrev pub replaced : Token → Session → List Session → List Session
replaced token next sessions = changed token (λ session. next) sessions

-- the sessions without the token's
abbrev pub ended : Token → List Session → List Session
ended token [] = []
ended token (session ∷ sessions) = if is_of token session then sessions else session ∷ ended token sessions

-- one session more. Of 64 the oldest is dropped
abbrev pub with_session : List Session → Session → List Session
with_session sessions session = (if length sessions == 64 then drop 1 sessions else sessions) ++ session ∷ []
