use Rattle.std.proofs.Common.{◌≡◌, ◌+◌, drop}
use Rattle.account_machine.specs.Outline.{session_at}
use Rattle.account_machine.specs.Sessions.{place_of}
use Rattle.auth_session.specs.Table.{sessions_in}
use Rattle.auth_session.proofs.table.place_at.Given as goal

-- the sessions so far are others
abbrev pub invariant-loop-place : goal.invariant-loop-place
invariant-loop-place l =
    (place_of l.token (sessions_in l.kept) ≡ l.place + place_of l.token (sessions_in (drop l.place l.kept)))
    × (session_at (sessions_in l.kept) l.token ≡ session_at (sessions_in (drop l.place l.kept)) l.token)
