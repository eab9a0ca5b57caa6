-- The ledger: a fold over accepted calls and their replies. It looks at no hash, path or presented record.
use Rattle.std.specs.Prelude.{ℕ, ◌+◌, ◌^◌, ◌-◌, min, Option, Some, None, option_map, if◌then◌else◌, ◌==◌}
use Rattle.pw_types.specs.declared.stamp.Stamp.{Stamp}
use Rattle.pw_leaf.specs.Contents.{Contents, new_contents, bumped, cleared}
use Rattle.pw_chip.specs.declared.reply.Reply.{Reply}
use Rattle.pw_chip.specs.declared.reply.Reply.TheVariants.{Done, Inserted, Released, Cleared, Wrong}
use Rattle.pw_chip.specs.Calls.{CallData, ResetTree, Insert, Remove, Try, Reset}

pub data Event : Type 0 where
  Boots : (moment : ℕ) → Event
  Calls : (call : CallData) → (now : ℕ) → Event

-- the used labels' leaves, with the boots so far and the last one's moment
pub record Ledger : Type 0 where
  pub boot : ℕ
  pub start : ℕ
  pub leaves : ℕ → Option Contents

abbrev pub with_leaf : (ℕ → Option Contents) → ℕ → Option Contents → ℕ → Option Contents
with_leaf leaves label x i = if i == label then x else leaves i

-- the leaves after a call that was answered so
unfoldable pub leaves_after : Stamp → CallData → Reply → (ℕ → Option Contents) → ℕ → Option Contents
leaves_after now ResetTree Done leaves = λ i. None
leaves_after now (Insert label aux mac les hes reset schedule iv) (Inserted leaf) leaves = with_leaf leaves label (Some (new_contents label les hes reset schedule iv))
leaves_after now (Remove label aux mac) Done leaves = with_leaf leaves label None
leaves_after now (Try label aux leaf les) (Released record_ hes) leaves = with_leaf leaves label (option_map cleared (leaves label))
leaves_after now (Try label aux leaf les) (Wrong record_) leaves = with_leaf leaves label (option_map (bumped now) (leaves label))
leaves_after now (Reset label aux leaf reset) (Cleared record_) leaves = with_leaf leaves label (option_map cleared (leaves label))
leaves_after now _ _ leaves = leaves

unfoldable pub noted_call : Ledger → CallData → ℕ → Reply → Ledger
noted_call ledger call now reply = record ledger { leaves = leaves_after (record { boot = ledger.boot; at = now }) call reply ledger.leaves }

abbrev pub noted_boot : Ledger → ℕ → Ledger
noted_boot ledger moment = record ledger { boot = min (ledger.boot + 1) (2 ^ 64 - 1); start = moment }

abbrev pub new_ledger : Ledger
new_ledger = record { boot = 0; start = 0; leaves = λ i. None }
