-- What a call on a leaf makes of the host, the board and the chip.
use Rattle.std.specs.Prelude.{◌≡◌, ℕ, List, Option, Result, IsErr, IfOk}
use Rattle.board_model.specs.Disk.{Disk, Follows, Leaves, Goes}
use Rattle.pw_chip.specs.State.{ChipState}
use Rattle.pw_chip.specs.WordsBytes.{words_bytes}
use Rattle.pw_chip.specs.declared.reply.Reply.{Reply}
use Rattle.pin_ops.specs.Following.{values_after}
use Rattle.label_tree.specs.Values.{value_in}
use Rattle.fault_count.specs.declared.count.Failed.{Failed}
use Rattle.leaf_calls.specs.declared.due.Due.{Due}
use Rattle.leaf_calls.specs.declared.host.ChipHost.{ChipHost}
use Rattle.leaf_calls.specs.Dues.{due_of, Leaving, Done, EndsWith}

-- what a host has of its chip: the words, and each label's value in its tree
pub record Host : Type 0 where
  pub words : ChipState
  pub values : ℕ → List ℕ

-- the same of what it keeps
abbrev pub host_of : ChipHost → Host
host_of host = record { words = host.words; values = value_in host.tree }

-- A call that the chip answers so, with these words after it, of the leaf with this label, name and record, between two
-- moments of the board.
module _ (label : ℕ) (name : List ℕ) (there : Option (List ℕ)) (answer : Reply × ChipState) (before : Host)
    (old new : Disk) where
  -- what is due after it
  abbrev pub due_after : Due
  due_after = due_of before.words answer.1 there answer.0

  -- the host follows it, and its writes are done
  pub record IsMade (after : Host) : Type 0 where
    pub words : after.words ≡ answer.1
    pub values : after.values ≡ values_after answer.0 label before.values
    pub durable : Follows (Done (words_bytes answer.1) name due_after) old.may_leave new.may_leave
    pub done : Goes old new (Done (words_bytes answer.1) name due_after)

  -- At each moment a crash leaves neither write, the words alone, or both. Where the writes are done the reply is the
  -- chip's; where they fail the host has what it had.
  pub record MakesCall (after : Host) (result : Result Reply Failed) : Type 0 where
    pub any_moment : Leaves old new (Leaving (words_bytes answer.1) name due_after)
    pub done_or_not : EndsWith (words_bytes answer.1) name due_after old new
    pub made : IfOk result (λ reply. (reply ≡ answer.0) × IsMade after)
    pub failed : IsErr result → after ≡ before
