use Rattle.std.proofs.Common.{inl}
use Rattle.share_tests.proofs.support.stash_of.Goals as goal

-- a stash's name is one of its account
pub returns-then-is_account_name : goal.returns-then-is_account_name
returns-then-is_account_name c = (c.args.account.now, tt, inl c.stash.ensures.value)
