use Rattle.std.proofs.Common.{◌≡◌, drop}
use Rattle.account_machine.specs.Outline.{session_at}
use Rattle.auth_session.specs.Table.{sessions_in}
use Rattle.auth_session.proofs.table.session_at.Given as goal

-- the sessions so far are others
abbrev pub invariant-loop-known : goal.invariant-loop-known
invariant-loop-known l =
    session_at (sessions_in l.kept) l.token ≡ session_at (sessions_in (drop l.known-index l.kept)) l.token
