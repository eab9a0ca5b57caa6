-- What the log's newest entry means for the leaf values of a host.
use Rattle.std.specs.Prelude.{◌≡◌, ℕ, List, ◌==◌, if◌then◌else◌}
use Rattle.pw_path.specs.Tree.{root, no_hash}
use Rattle.pw_log.specs.Pair.{Entries}
use Rattle.pw_log.specs.declared.entry.LogEntry.{LogEntry}
use Rattle.pw_log.specs.declared.entry.TheConstants.{BLANK, RESET_TREE}
use Rattle.pw_leaf.specs.declared.keys.ChipKeys.{ChipKeys}
use Rattle.pw_chip.specs.State.{ChipState, new_state}
use Rattle.pw_chip.specs.Ledger.{Event, new_ledger}
use Rattle.pw_chip.specs.Law.{values}
use Rattle.pw_chip.specs.History.{words_in_the_end, ledger_in_the_end}

-- the leaf values after an entry: an emptied tree has none, a blank entry changes none, and each other entry sets its label's
abbrev pub told : LogEntry → (ℕ → List ℕ) → ℕ → List ℕ
told e values i =
    if e.operation == RESET_TREE then no_hash
    else if e.operation == BLANK then values i
    else if i == e.label then e.mac
    else values i

-- the newest entry made these values of others, whose tree has the older root
pub record IsTold (log : Entries) (values : ℕ → List ℕ) : Type 0 where
  pub before : ℕ → List ℕ
  pub older : log.older.root ≡ root before
  pub newest : (i : ℕ) → values i ≡ told log.newest before i

-- the words of a new chip after these events, and the leaf values of its ledger
abbrev pub words_of_run : ChipKeys → List Event → ChipState
words_of_run keys events = words_in_the_end (new_state keys) events

abbrev pub values_of_run : ChipKeys → List Event → ℕ → List ℕ
values_of_run keys events = values (words_of_run keys events).keys (ledger_in_the_end (new_state keys) new_ledger events).leaves
