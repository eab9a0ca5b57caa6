use Rattle.std.proofs.Common.{◌≡◌, map, drop, string_bytes}
use Rattle.serve_words.specs.Words.{each_once}
use Rattle.serve_words.proofs.Names.{gathered}
use Rattle.serve_words.proofs.accounts.each_once.Given as goal

-- with the others of those that are left the accounts are all of them
abbrev pub invariant-loop-name : goal.invariant-loop-name
invariant-loop-name l =
    gathered l.accounts.items (map string_bytes (drop l.name-index l.names)) ≡ each_once (map string_bytes l.fn.names)
