-- The ranges of a log entry.
use Rattle.std.specs.Prelude.{◌≡◌, ◌<◌, ◌≤◌, ◌^◌, ◌↔◌}
use Rattle.pw_log.specs.declared.entry.LogEntry.{LogEntry}
use Rattle.pw_log.specs.declared.entry.TheConstants.{RESET, TRY, WRONG}

-- a known operation at a label, a hash of 32 bytes each, a moment below 2^40, and a verdict exactly for a try
pub record IsEntry (entry : LogEntry) : Type 0 where
  pub operation : entry.operation ≤ RESET
  pub label : entry.label < 16384
  pub verdict : entry.verdict ≤ WRONG
  pub tried : (1 ≤ entry.verdict) ↔ (entry.operation ≡ TRY)
  pub moment : entry.stamp.at < 2 ^ 40
