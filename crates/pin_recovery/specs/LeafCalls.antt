-- Chip calls of a host that is in step: with the label's own record and its true path.
use Rattle.std.specs.Prelude.{◌≡◌, ◌≢◌, ℕ, ◌<◌, Some, None, List, length}
use Rattle.pw_path.specs.Tree.{aux_of, no_hash}
use Rattle.pw_types.specs.Schedule.{IsSchedule}
use Rattle.pw_leaf.specs.declared.keys.ChipKeys.{ChipKeys}
use Rattle.pw_leaf.specs.Contents.{Contents, new_contents}
use Rattle.pw_leaf.specs.LeafBytes.{leaf_bytes, leaf_mac}
use Rattle.pw_chip.specs.declared.reply.Reply.{Reply}
use Rattle.pw_chip.specs.declared.reply.Reply.TheVariants.{Done, Inserted}
use Rattle.pw_chip.specs.Calls.{CallData, Insert, Remove, Try, Reset}
use Rattle.pw_chip.specs.Step.{tried, reset_at, step}
use Rattle.pw_chip.specs.Ledger.{leaves_after}
use Rattle.pw_chip.specs.Law.{values}
use Rattle.pin_recovery.specs.Devices.{Leaves, Devices, record_of}

-- what a host asks at a label
pub data LeafOp : Type 0 where
  InsertLeaf : (label : ℕ) → (les : List ℕ) → (hes : List ℕ) → (reset : List ℕ) → (schedule : List (ℕ × ℕ)) → (iv : List ℕ) → LeafOp
  TryLeaf : (label : ℕ) → (les : List ℕ) → LeafOp
  ResetLeaf : (label : ℕ) → (reset : List ℕ) → LeafOp
  RemoveLeaf : (label : ℕ) → LeafOp

-- the label
abbrev pub label_of : LeafOp → ℕ
label_of (InsertLeaf label les hes reset schedule iv) = label
label_of (TryLeaf label les) = label
label_of (ResetLeaf label reset) = label
label_of (RemoveLeaf label) = label

-- the call that a host with these leaves makes
unfoldable pub call_of : ChipKeys → Leaves → LeafOp → CallData
call_of keys leaves (InsertLeaf label les hes reset schedule iv) =
    Insert label (aux_of (values keys leaves) label) (values keys leaves label) les hes reset schedule iv
call_of keys leaves (TryLeaf label les) = Try label (aux_of (values keys leaves) label) (record_of keys (leaves label)) les
call_of keys leaves (ResetLeaf label reset) = Reset label (aux_of (values keys leaves) label) (record_of keys (leaves label)) reset
call_of keys leaves (RemoveLeaf label) = Remove label (aux_of (values keys leaves) label) (values keys leaves label)

-- the reply that it gets
abbrev pub reply_to : Devices → LeafOp → ℕ → Reply
reply_to d op now = (step d.words (call_of d.words.keys d.leaves op) now).0

-- the two devices after the call and its record's put or removal; the leaves are those of the ledger
unfoldable pub stepped : Devices → LeafOp → ℕ → Devices
stepped d op now = record {
  words = (step d.words (call_of d.words.keys d.leaves op) now).1;
  leaves = leaves_after (record { boot = d.words.boot; at = now }) (call_of d.words.keys d.leaves op) (reply_to d op now) d.leaves;
}

-- what a host can ask
unfoldable pub IsLeafOp : LeafOp → Type 0
IsLeafOp (InsertLeaf label les hes reset schedule iv) =
    (label < 16384) × (length les ≡ 32) × (length hes ≡ 32) × (length reset ≡ 32) × IsSchedule schedule × (length iv ≡ 16)
IsLeafOp (TryLeaf label les) = label < 16384
IsLeafOp (ResetLeaf label reset) = label < 16384
IsLeafOp (RemoveLeaf label) = label < 16384

-- The answer to a call is the one to the label's leaf. Only a removal asks that the leaf's MAC isn't that of an empty label.
unfoldable pub IsAnswered : Devices → LeafOp → ℕ → Type 0
IsAnswered d (InsertLeaf label les hes reset schedule iv) now =
    d.leaves label ≡ None → reply_to d (InsertLeaf label les hes reset schedule iv) now ≡ Inserted (leaf_bytes d.words.keys (new_contents label les hes reset schedule iv))
IsAnswered d (TryLeaf label les) now =
    (x : Contents) → d.leaves label ≡ Some x → reply_to d (TryLeaf label les) now ≡ tried d.words.keys x les (record { boot = d.words.boot; at = now }) d.words.start
IsAnswered d (ResetLeaf label reset) now =
    (x : Contents) → d.leaves label ≡ Some x → reply_to d (ResetLeaf label reset) now ≡ reset_at d.words.keys x reset
IsAnswered d (RemoveLeaf label) now =
    (x : Contents) → d.leaves label ≡ Some x → leaf_mac d.words.keys x ≢ no_hash → reply_to d (RemoveLeaf label) now ≡ Done
