-- What the newest log entry asks of the host's tree, over a value for each label.
use Rattle.std.specs.Prelude.{ℕ, List, ◌==◌, if◌then◌else◌}
use Rattle.pw_path.specs.Tree.{root, no_hash}
use Rattle.pw_log.specs.declared.entry.TheConstants.{BLANK, RESET_TREE, REMOVE}
use Rattle.pw_log.specs.declared.answer.LogAnswer.{LogAnswer}
use Rattle.pw_log.specs.declared.answer.LogAnswer.TheVariants.{InStep, One, RootUnknown}
use Rattle.pw_log.specs.Pair.{Entries}
use Rattle.pw_log.specs.Entry.{IsEntry}
use Rattle.pw_log.specs.Entries.{answer_to}
use Rattle.label_tree.specs.Values.{with_value}
use Rattle.log_replay.specs.declared.replaying.Replay.{Replay}
use Rattle.log_replay.specs.declared.replaying.Replay.TheVariants.{Nothing, Put, Drop, Empty, Lost}

-- what each answer of the log asks: of an entry that is missing a remove drops its label, a reset of the tree drops all, and
-- each other one but a blank puts its MAC
abbrev pub plan_of : LogAnswer → Replay
plan_of InStep = Nothing
plan_of (One entry) =
    if entry.operation == BLANK then Nothing
    else if entry.operation == RESET_TREE then Empty
    else if entry.operation == REMOVE then Drop entry.label
    else Put entry
plan_of (RootUnknown host newest older) = Lost host newest

-- the values once that is done
abbrev pub applied : Replay → (ℕ → List ℕ) → ℕ → List ℕ
applied Nothing values = values
applied (Put entry) values = with_value values entry.label entry.mac
applied (Drop label) values = with_value values label no_hash
applied Empty values = λ _. no_hash
applied (Lost host chip) values = values

-- the values of a host that asks the log with its root, and does what the answer asks
abbrev pub replayed : Entries → (ℕ → List ℕ) → ℕ → List ℕ
replayed log values = applied (plan_of (answer_to log (root values))) values

-- ---- ranges

-- an entry that is answered is in its ranges
abbrev pub IsAnswer : LogAnswer → Type 0
IsAnswer InStep = Unit {0}
IsAnswer (One entry) = IsEntry entry
IsAnswer (RootUnknown host newest older) = Unit {0}

-- the log knows the host's root
abbrev pub IsKnown : LogAnswer → Type 0
IsKnown InStep = Unit {0}
IsKnown (One entry) = Unit {0}
IsKnown (RootUnknown host newest older) = ⊥

-- all but a lost plan can be done, and an entry that is put is in its ranges
abbrev pub IsDoable : Replay → Type 0
IsDoable Nothing = Unit {0}
IsDoable (Put entry) = IsEntry entry
IsDoable (Drop label) = Unit {0}
IsDoable Empty = Unit {0}
IsDoable (Lost host chip) = ⊥
