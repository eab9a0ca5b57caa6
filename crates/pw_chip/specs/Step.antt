-- One call of a chip: its reply, and what it leaves.
use Rattle.std.specs.Prelude.{ℕ, Bool, Result, Ok, Err, List, if◌then◌else◌, nat_lt, ◌==◌, ◌&&◌, ◌||◌, bytes_eq}
use Rattle.pw_path.specs.Tree.{no_hash}
use Rattle.pw_path.specs.Path.{root_of}
use Rattle.pw_types.specs.Schedule.{limit_of}
use Rattle.pw_types.specs.Delay.{readiness}
use Rattle.pw_types.specs.declared.stamp.Stamp.{Stamp}
use Rattle.pw_types.specs.declared.delay.Readiness.{Readiness}
use Rattle.pw_types.specs.declared.delay.Readiness.TheVariants as delay
use Rattle.pw_log.specs.declared.entry.LogEntry.{LogEntry}
use Rattle.pw_log.specs.declared.entry.TheConstants.{RESET_TREE, INSERT, REMOVE, TRY, RESET, NO_VERDICT, RIGHT, WRONG}
use Rattle.pw_log.specs.declared.answer.LogAnswer.TheVariants.{InStep, One}
use Rattle.pw_log.specs.Entries.{pushed}
use Rattle.pw_leaf.specs.declared.keys.ChipKeys.{ChipKeys}
use Rattle.pw_leaf.specs.declared.fault.LeafFault.{LeafFault}
use Rattle.pw_leaf.specs.declared.fault.LeafFault.TheVariants.{BadShape}
use Rattle.pw_leaf.specs.Contents.{Contents, new_contents, bumped, cleared}
use Rattle.pw_leaf.specs.LeafBytes.{leaf_bytes, leaf_mac}
use Rattle.pw_leaf.specs.Reading.{check_at, mac_of}
use Rattle.pw_chip.specs.declared.reply.Reply.{Reply}
use Rattle.pw_chip.specs.declared.reply.Reply.TheVariants.{Done, Inserted, Released, Cleared, Log, Replayed, LabelInvalid, PathAuthFailed, LeafInvalid, Wrong, Delayed, Locked, ResetWrong, RootUnknown, LabelUsed, LabelEmpty}
use Rattle.pw_chip.specs.declared.open.Refusal.{Refusal}
use Rattle.pw_chip.specs.declared.open.Refusal.TheVariants.{NoLabel, NoLeaf, NoPath}
use Rattle.pw_chip.specs.State.{ChipState, empty_root}
use Rattle.pw_chip.specs.Calls.{CallData, ResetTree, Insert, Remove, Try, Reset, GetLog, Replay}

-- ---- what calls have in common

-- the log rule: a call that leaves the root changes nothing, and each other call adds its entry
unfoldable pub logged : ChipState → LogEntry → ChipState
logged w e = if bytes_eq e.root w.log.newest.root then w else record w { log = pushed w.log e }

-- the refusal of a presented leaf
abbrev pub refused : Refusal → Reply
refused NoLabel = LabelInvalid
refused (NoLeaf fault) = LeafInvalid fault
refused NoPath = PathAuthFailed

abbrev pub opened_on : List ℕ → ℕ → List (List (List ℕ)) → List ℕ → Result Contents LeafFault → Result Contents Refusal
opened_on tree_root label aux leaf (Err fault) = Err (NoLeaf fault)
opened_on tree_root label aux leaf (Ok x) =
    if x.label == label then
    (if bytes_eq (root_of label (mac_of leaf) aux) tree_root then Ok x else Err NoPath)
    else Err (NoLeaf (BadShape 1))

-- the contents of a record that stands at the label in the tree of this root: first the label is tested, then the record, then the path
unfoldable pub opened : ChipKeys → List ℕ → ℕ → List (List (List ℕ)) → List ℕ → Result Contents Refusal
opened keys tree_root label aux leaf =
    if nat_lt label 16384 then opened_on tree_root label aux leaf (check_at keys leaf) else Err NoLabel

-- the entry of a call that leaves these contents at the label
abbrev pub leaf_entry : ChipKeys → ℕ → ℕ → ℕ → List (List (List ℕ)) → Contents → Stamp → LogEntry
leaf_entry keys operation verdict label aux x now =
    record { operation = operation; label = label; root = root_of label (leaf_mac keys x) aux; mac = leaf_mac keys x; verdict = verdict; stamp = now }

-- ---- try

abbrev pub tried_when : Readiness → ChipKeys → Contents → List ℕ → Stamp → Reply
tried_when delay.Locked keys x les now = Locked
tried_when (delay.Delayed until) keys x les now = Delayed until
tried_when delay.Ready keys x les now =
    if bytes_eq x.les les then Released (leaf_bytes keys (cleared x)) x.hes else Wrong (leaf_bytes keys (bumped now x))

-- the answer to a try at a leaf with these contents
unfoldable pub tried : ChipKeys → Contents → List ℕ → Stamp → ℕ → Reply
tried keys x les now start = tried_when (readiness x.schedule x.wrong x.last now start) keys x les now

abbrev pub after_try : ChipState → ℕ → List (List (List ℕ)) → Contents → Stamp → Reply → ChipState
after_try w label aux x now (Released leaf hes) = logged w (leaf_entry w.keys TRY RIGHT label aux (cleared x) now)
after_try w label aux x now (Wrong leaf) = logged w (leaf_entry w.keys TRY WRONG label aux (bumped now x) now)
after_try w label aux x now _ = w

abbrev pub try_opened : ChipState → ℕ → List (List (List ℕ)) → List ℕ → ℕ → Result Contents Refusal → Reply × ChipState
try_opened w label aux les now (Err refusal) = (refused refusal, w)
try_opened w label aux les now (Ok x) =
    let reply = tried w.keys x les (record { boot = w.boot; at = now }) w.start in
    (reply, after_try w label aux x (record { boot = w.boot; at = now }) reply)

unfoldable pub try_step : ChipState → ℕ → List (List (List ℕ)) → List ℕ → List ℕ → ℕ → Reply × ChipState
try_step w label aux leaf les now = try_opened w label aux les now (opened w.keys w.log.newest.root label aux leaf)

-- ---- reset

-- the answer to a reset of a leaf with these contents
unfoldable pub reset_at : ChipKeys → Contents → List ℕ → Reply
reset_at keys x reset = if bytes_eq x.reset reset then Cleared (leaf_bytes keys (cleared x)) else ResetWrong

abbrev pub after_reset : ChipState → ℕ → List (List (List ℕ)) → Contents → Stamp → Reply → ChipState
after_reset w label aux x now (Cleared leaf) = logged w (leaf_entry w.keys RESET NO_VERDICT label aux (cleared x) now)
after_reset w label aux x now _ = w

abbrev pub reset_opened : ChipState → ℕ → List (List (List ℕ)) → List ℕ → ℕ → Result Contents Refusal → Reply × ChipState
reset_opened w label aux reset now (Err refusal) = (refused refusal, w)
reset_opened w label aux reset now (Ok x) =
    let reply = reset_at w.keys x reset in
    (reply, after_reset w label aux x (record { boot = w.boot; at = now }) reply)

unfoldable pub reset_step : ChipState → ℕ → List (List (List ℕ)) → List ℕ → List ℕ → ℕ → Reply × ChipState
reset_step w label aux leaf reset now = reset_opened w label aux reset now (opened w.keys w.log.newest.root label aux leaf)

-- ---- replay

-- whether the entry changed the leaf at the label
abbrev pub is_replayed : LogEntry → ℕ → Bool
is_replayed e label = ((e.operation == TRY) || (e.operation == RESET)) && (e.label == label)

-- what an entry of this verdict made of a leaf
abbrev pub redone_by : ℕ → Stamp → Contents → Contents
redone_by verdict stamp x = if verdict == WRONG then bumped stamp x else cleared x

-- whether the leaf has no try left that the entry could count
abbrev pub is_full : ℕ → Contents → Bool
is_full verdict x = (verdict == WRONG) && (x.wrong == limit_of x.schedule)

abbrev pub replay_opened : ChipState → Result Contents Refusal → Reply
replay_opened w (Err refusal) = refused refusal
replay_opened w (Ok x) =
    if is_full w.log.newest.verdict x then Locked
    else Replayed (leaf_bytes w.keys (redone_by w.log.newest.verdict w.log.newest.stamp x))

unfoldable pub replay_step : ChipState → ℕ → List (List (List ℕ)) → List ℕ → Reply × ChipState
replay_step w label aux leaf =
    if nat_lt label 16384 then
    (if is_replayed w.log.newest label then (replay_opened w (opened w.keys w.log.older.root label aux leaf), w)
    else (RootUnknown, w))
    else (LabelInvalid, w)

-- ---- the tree, insert, remove, and the log

unfoldable pub reset_tree_step : ChipState → ℕ → Reply × ChipState
reset_tree_step w now =
    (Done, logged w (record { operation = RESET_TREE; label = 0; root = empty_root; mac = no_hash; verdict = NO_VERDICT; stamp = record { boot = w.boot; at = now } }))

unfoldable pub insert_step : ChipState → ℕ → List (List (List ℕ)) → List ℕ → Contents → ℕ → Reply × ChipState
insert_step w label aux mac x now =
    if nat_lt label 16384 then
    (if bytes_eq (root_of label mac aux) w.log.newest.root then
    (if bytes_eq mac no_hash then
    (Inserted (leaf_bytes w.keys x), logged w (leaf_entry w.keys INSERT NO_VERDICT label aux x (record { boot = w.boot; at = now })))
    else (LabelUsed, w))
    else (PathAuthFailed, w))
    else (LabelInvalid, w)

unfoldable pub remove_step : ChipState → ℕ → List (List (List ℕ)) → List ℕ → ℕ → Reply × ChipState
remove_step w label aux mac now =
    if nat_lt label 16384 then
    (if bytes_eq (root_of label mac aux) w.log.newest.root then
    (if bytes_eq mac no_hash then (LabelEmpty, w)
    else (Done, logged w (record { operation = REMOVE; label = label; root = root_of label no_hash aux; mac = no_hash; verdict = NO_VERDICT; stamp = record { boot = w.boot; at = now } })))
    else (PathAuthFailed, w))
    else (LabelInvalid, w)

-- what the log tells a host with this root
unfoldable pub log_reply : ChipState → List ℕ → Reply
log_reply w host =
    if bytes_eq w.log.newest.root host then Log InStep
    else if bytes_eq w.log.older.root host then Log (One w.log.newest)
    else RootUnknown

-- ---- a call

unfoldable pub step : ChipState → CallData → ℕ → Reply × ChipState
step w ResetTree now = reset_tree_step w now
step w (Insert label aux mac les hes reset schedule iv) now = insert_step w label aux mac (new_contents label les hes reset schedule iv) now
step w (Remove label aux mac) now = remove_step w label aux mac now
step w (Try label aux leaf les) now = try_step w label aux leaf les now
step w (Reset label aux leaf reset) now = reset_step w label aux leaf reset now
step w (GetLog host) now = (log_reply w host, w)
step w (Replay label aux leaf) now = replay_step w label aux leaf
