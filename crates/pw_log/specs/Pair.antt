-- What a log of two is seen as.
use Rattle.pw_log.specs.declared.entry.LogEntry.{LogEntry}

-- the newest entry, and the one before it
pub record Entries : Type 0 where
  pub newest : LogEntry
  pub older : LogEntry
