use Rattle.std.proofs.Common.{◌≡◌, map, drop}
use Rattle.record_names.specs.Names.{account_of}
use Rattle.cabinet.specs.Names.{with_names}
use Rattle.cabinet.proofs.accounts.add_found.Given as goal

-- with those that are left the accounts are all of them
abbrev pub invariant-loop-name : goal.invariant-loop-name
invariant-loop-name l = with_names l.accounts.items (map account_of (drop l.name-index l.names)) ≡ with_names l.fn.accounts.items (map account_of l.names)
