-- What is due on the board after a call on a leaf.
use Rattle.std.specs.Prelude.{ℕ, List, Bool, false, ◌&&◌, if◌then◌else◌, bytes_eq, Option, None, Some}
use Rattle.board_model.specs.Disk.{Disk, Effect, Same, Goes}
use Rattle.leaf_writes.specs.Writes.{StoredWith, NoneOneOrBoth, EndsAtOneOf}
use Rattle.pw_chip.specs.State.{ChipState}
use Rattle.pw_chip.specs.WordsBytes.{words_bytes}
use Rattle.pw_chip.specs.declared.reply.Reply.{Reply}
use Rattle.pw_chip.specs.declared.reply.Reply.TheVariants as reply
use Rattle.leaf_calls.specs.declared.due.Due.{Due}
use Rattle.leaf_calls.specs.declared.due.Due.TheVariants as dues

-- whether a record has these bytes
abbrev pub is_record : List ℕ → Option (List ℕ) → Bool
is_record bytes None = false
is_record bytes (Some there) = bytes_eq bytes there

-- a record is due, unless it is there and the words are the same
abbrev pub due_record : ChipState → ChipState → Option (List ℕ) → List ℕ → Due
due_record old new there leaf =
    if bytes_eq (words_bytes new) (words_bytes old) && is_record leaf there then dues.Nothing else dues.Put leaf

-- What is due after a reply: the record that it has, or the record's removal. `there` is the leaf's record before.
abbrev pub due_of : ChipState → ChipState → Option (List ℕ) → Reply → Due
due_of old new there reply.Done = dues.Remove
due_of old new there (reply.Inserted leaf) = due_record old new there leaf
due_of old new there (reply.Released leaf hes) = due_record old new there leaf
due_of old new there (reply.Cleared leaf) = due_record old new there leaf
due_of old new there (reply.Wrong leaf) = due_record old new there leaf
due_of old new there _ = dues.Nothing

-- what it leaves of an image at each moment, with these words
abbrev pub Leaving : List ℕ → List ℕ → Due → Effect
Leaving words name dues.Nothing = Same
Leaving words name (dues.Put leaf) = NoneOneOrBoth words name (Some leaf)
Leaving words name dues.Remove = NoneOneOrBoth words name None

-- what it leaves once it is done
abbrev pub Done : List ℕ → List ℕ → Due → Effect
Done words name dues.Nothing = Same
Done words name (dues.Put leaf) = StoredWith words name (Some leaf)
Done words name dues.Remove = StoredWith words name None

-- what is there, done or not
abbrev pub EndsWith : List ℕ → List ℕ → Due → Disk → Disk → Type 0
EndsWith words name dues.Nothing old new = Goes old new Same
EndsWith words name (dues.Put leaf) old new = EndsAtOneOf words name (Some leaf) old new
EndsWith words name dues.Remove old new = EndsAtOneOf words name None old new
