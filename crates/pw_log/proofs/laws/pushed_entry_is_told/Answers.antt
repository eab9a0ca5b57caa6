use Rattle.std.proofs.Common.{refl}
use Rattle.pw_log.proofs.LogLemmas.{same_root, other_root}
use Rattle.pw_log.proofs.laws.pushed_entry_is_told.Goals as goal

pub returns-clause-told : goal.returns-clause-told
returns-clause-told c log entry differs = rw (other_root entry.root log.newest.root differs, same_root log.newest.root log.newest.root refl) refl

pub returns-clause-stayed : goal.returns-clause-stayed
returns-clause-stayed c log entry same = rw (same_root entry.root log.newest.root same) refl
