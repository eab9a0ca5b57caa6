use Rattle.std.proofs.Common.{◌≡◌, ◌+◌, drop}
use Rattle.account_machine.specs.Sessions.{place_of}
use Rattle.account_machine.proofs.session.place_of.Given as goal

-- the sessions so far are others
abbrev pub invariant-loop-place : goal.invariant-loop-place
invariant-loop-place l = place_of l.token l.sessions ≡ l.place + place_of l.token (drop l.place l.sessions)
