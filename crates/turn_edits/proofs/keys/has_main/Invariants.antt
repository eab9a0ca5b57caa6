use Rattle.std.proofs.Common.{◌≡◌, drop, is_some}
use Rattle.std.specs.List.{list_any}
use Rattle.auth_session.specs.declared.table.Kept.{Kept}
use Rattle.turn_edits.proofs.keys.has_main.Given as goal

-- no session so far has a main key
abbrev pub invariant-loop-at : goal.invariant-loop-at
invariant-loop-at l =
    list_any (λ (k : Kept). is_some k.main) (drop l.at l.sessions.kept)
    ≡ list_any (λ (k : Kept). is_some k.main) l.sessions.kept
