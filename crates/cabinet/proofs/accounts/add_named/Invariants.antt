use Rattle.std.proofs.Common.{◌≡◌, drop}
use Rattle.cabinet.specs.Names.{with_names}
use Rattle.cabinet.proofs.accounts.add_named.Given as goal

-- with those that are left the accounts are all of them
abbrev pub invariant-loop-account : goal.invariant-loop-account
invariant-loop-account l = with_names l.accounts.items (drop l.account-index l.named) ≡ with_names l.fn.accounts.items l.named
