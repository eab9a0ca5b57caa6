use Rattle.std.proofs.Common.{◌≡◌, drop}
use Rattle.account_machine.specs.Outline.{session_at}
use Rattle.account_machine.proofs.session.found.Given as goal

-- the sessions so far are others
abbrev pub invariant-loop-session : goal.invariant-loop-session
invariant-loop-session l = session_at l.sessions l.token ≡ session_at (drop l.session-index l.sessions) l.token
