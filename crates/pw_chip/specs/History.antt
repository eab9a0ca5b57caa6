-- A ledger's leaf, in words about the replies: what its insert gave it, and its wrong tries since its count began.
use Rattle.std.specs.Prelude.{ℕ, ◌+◌, Bool, true, false, Option, Some, None, option_map, List, [], ◌∷◌, if◌then◌else◌, ◌==◌}
use Rattle.pw_types.specs.declared.stamp.Stamp.{Stamp}
use Rattle.pw_leaf.specs.Contents.{Contents, new_contents, no_stamp}
use Rattle.pw_chip.specs.declared.reply.Reply.{Reply}
use Rattle.pw_chip.specs.declared.reply.Reply.TheVariants.{Done, Inserted, Released, Cleared, Wrong}
use Rattle.pw_chip.specs.State.{ChipState, booted}
use Rattle.pw_chip.specs.Calls.{CallData, ResetTree, Insert, Remove, Try, Reset}
use Rattle.pw_chip.specs.Step.{step}
use Rattle.pw_chip.specs.Ledger.{leaves_after, Event, Boots, Calls, Ledger, noted_call, noted_boot}
use Rattle.pw_chip.specs.Law.{words_after, ledger_after}

pub record Noted : Type 0 where
  pub stamp : Stamp
  pub call : CallData
  pub reply : Reply

-- the ledger's leaves after these, the newest first
unfoldable pub leaves_of : List Noted → ℕ → Option Contents
leaves_of [] = λ i. None
leaves_of (noted ∷ older) = leaves_after noted.stamp noted.call noted.reply (leaves_of older)

-- a wrong try at the label
unfoldable pub is_wrong_at : ℕ → CallData → Reply → Bool
is_wrong_at label (Try l aux leaf les) (Wrong r) = label == l
is_wrong_at label _ _ = false

-- an insert, a right try or a reset at the label
unfoldable pub begins_at : ℕ → CallData → Reply → Bool
begins_at label (Insert l aux mac les hes reset schedule iv) (Inserted r) = label == l
begins_at label (Try l aux leaf les) (Released r hes) = label == l
begins_at label (Reset l aux leaf reset) (Cleared r) = label == l
begins_at label _ _ = false

-- the wrong tries at the label since its count began
unfoldable pub wrongs_since : ℕ → List Noted → ℕ
wrongs_since label [] = 0
wrongs_since label (noted ∷ older) =
    if begins_at label noted.call noted.reply then 0
    else if is_wrong_at label noted.call noted.reply then wrongs_since label older + 1
    else wrongs_since label older

-- when the last of them came
unfoldable pub last_wrong_since : ℕ → List Noted → Stamp
last_wrong_since label [] = no_stamp
last_wrong_since label (noted ∷ older) =
    if begins_at label noted.call noted.reply then no_stamp
    else if is_wrong_at label noted.call noted.reply then noted.stamp
    else last_wrong_since label older

-- an insert at the label
unfoldable pub inserts_at : ℕ → CallData → Reply → Bool
inserts_at label (Insert l aux mac les hes reset schedule iv) (Inserted r) = label == l
inserts_at label _ _ = false

-- a remove at the label, or the tree was emptied
unfoldable pub ends_at : ℕ → CallData → Reply → Bool
ends_at label ResetTree Done = true
ends_at label (Remove l aux mac) Done = label == l
ends_at label _ _ = false

-- the contents that a call gives a leaf
unfoldable pub given_by : CallData → Option Contents
given_by (Insert label aux mac les hes reset schedule iv) = Some (new_contents label les hes reset schedule iv)
given_by _ = None

-- the contents that the label's insert gave its leaf, where it wasn't removed since
unfoldable pub inserted_since : ℕ → List Noted → Option Contents
inserted_since label [] = None
inserted_since label (noted ∷ older) =
    if inserts_at label noted.call noted.reply then given_by noted.call
    else if ends_at label noted.call noted.reply then None
    else inserted_since label older

-- so many wrong tries, the last of them then
abbrev pub counted : ℕ → Stamp → Contents → Contents
counted wrong last x = record x { wrong = wrong; last = last }

-- the label's leaf: what its insert gave it, with the wrong tries since
unfoldable pub leaf_since : ℕ → List Noted → Option Contents
leaf_since label history =
    option_map (counted (wrongs_since label history) (last_wrong_since label history)) (inserted_since label history)

-- ---- the history of a run

-- what was answered in these events, the newest first, before what was answered already
unfoldable pub history_after : ChipState → Ledger → List Event → List Noted → List Noted
history_after w ledger [] history = history
history_after w ledger (Boots moment ∷ events) history = history_after (booted w moment) (noted_boot ledger moment) events history
history_after w ledger (Calls call now ∷ events) history =
    history_after (step w call now).1 (noted_call ledger call now (step w call now).0) events
    (record { stamp = record { boot = ledger.boot; at = now }; call = call; reply = (step w call now).0 } ∷ history)

-- the ledger after these events
unfoldable pub ledger_in_the_end : ChipState → Ledger → List Event → Ledger
ledger_in_the_end w ledger [] = ledger
ledger_in_the_end w ledger (event ∷ events) = ledger_in_the_end (words_after w event) (ledger_after w ledger event) events

-- the words after these events
unfoldable pub words_in_the_end : ChipState → List Event → ChipState
words_in_the_end w [] = w
words_in_the_end w (event ∷ events) = words_in_the_end (words_after w event) events
