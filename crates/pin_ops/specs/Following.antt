-- The tree's values after a call or a resync.
use Rattle.std.specs.Prelude.{ℕ, List}
use Rattle.pw_path.specs.Tree.{no_hash}
use Rattle.pw_leaf.specs.Reading.{mac_of}
use Rattle.pw_chip.specs.declared.reply.Reply.{Reply}
use Rattle.pw_chip.specs.declared.reply.Reply.TheVariants as reply
use Rattle.label_tree.specs.Values.{with_value}
use Rattle.pin_ops.specs.declared.answer.Resync.{Resync}
use Rattle.pin_ops.specs.declared.answer.Resync.TheVariants as resync

-- after a call at the label that was answered so the label has the MAC of the reply's record, and none after a remove
abbrev pub values_after : Reply → ℕ → (ℕ → List ℕ) → ℕ → List ℕ
values_after reply.Done label values = with_value values label no_hash
values_after (reply.Inserted leaf) label values = with_value values label (mac_of leaf)
values_after (reply.Released leaf hes) label values = with_value values label (mac_of leaf)
values_after (reply.Cleared leaf) label values = with_value values label (mac_of leaf)
values_after (reply.Wrong leaf) label values = with_value values label (mac_of leaf)
values_after _ label values = values

-- the values after a resync; `mac` is that of the newest entry
abbrev pub values_by : Resync → List ℕ → (ℕ → List ℕ) → ℕ → List ℕ
values_by resync.InStep mac values = values
values_by (resync.Inserted label) mac values = with_value values label mac
values_by (resync.Put label leaf) mac values = with_value values label (mac_of leaf)
values_by (resync.Removed label) mac values = with_value values label no_hash
values_by resync.Emptied mac values = λ _. no_hash
values_by (resync.Lost host chip) mac values = values

-- a resync that isn't lost
abbrev pub IsFound : Resync → Type 0
IsFound resync.InStep = Unit {0}
IsFound (resync.Inserted label) = Unit {0}
IsFound (resync.Put label leaf) = Unit {0}
IsFound (resync.Removed label) = Unit {0}
IsFound resync.Emptied = Unit {0}
IsFound (resync.Lost host chip) = ⊥
