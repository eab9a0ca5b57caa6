-- The log of two, and what it answers a host.
use Rattle.std.specs.Prelude.{List, ℕ, bytes_eq, if◌then◌else◌}
use Rattle.pw_log.specs.declared.entry.LogEntry.{LogEntry}
use Rattle.pw_log.specs.declared.answer.LogAnswer.{LogAnswer}
use Rattle.pw_log.specs.declared.answer.LogAnswer.TheVariants.{InStep, One, RootUnknown}
use Rattle.pw_log.specs.Pair.{Entries}

-- the log after one more entry: the older one is dropped
abbrev pub pushed : Entries → LogEntry → Entries
pushed log entry = record { newest = entry; older = log.newest }

-- where the host stands whose tree has this root; the newest root is tested first
abbrev pub answer_to : Entries → List ℕ → LogAnswer
answer_to log host =
    if bytes_eq log.newest.root host then InStep
    else if bytes_eq log.older.root host then One log.newest
    else RootUnknown host log.newest.root log.older.root
