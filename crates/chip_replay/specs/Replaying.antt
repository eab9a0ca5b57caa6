-- What a replay makes of the host, the records and the board.
use Rattle.std.specs.Prelude.{◌≡◌, ℕ, Option, List, Result, IsErr, IfOk}
use Rattle.board_model.specs.Disk.{Disk, Follows, Leaves, Goes}
use Rattle.fault_count.specs.declared.count.Failed.{Failed}
use Rattle.pw_path.specs.Tree.{root}
use Rattle.pw_chip.specs.State.{ChipState, IsSameEra}
use Rattle.pw_chip.specs.WordsBytes.{words_bytes}
use Rattle.leaf_calls.specs.Calls.{Host}
use Rattle.pin_ops.specs.declared.answer.Resync.{Resync}
use Rattle.pin_ops.specs.Following.{IsFound}
use Rattle.pin_recovery.specs.Recovery.{words_by, tree_by}
use Rattle.chip_replay.specs.Records.{Rows, answer_of, rows_by}
use Rattle.chip_replay.specs.Carrying.{Carrying, Carried, EndsCarried}

-- A replay at a moment, of a host with these records, between two moments of the board. `name` is that of the record
-- which may change.
module _ (name : Option (List ℕ)) (now : ℕ) (before : Host) (records : Rows) (old new : Disk) where
  -- what the log answers
  abbrev pub answer : Resync
  answer = answer_of before.words before.values records

  -- the chip's words once it is carried out
  abbrev pub next_words : ChipState
  next_words = words_by before.words before.values answer now

  -- It is carried out.
  pub record IsReplayed (after : Host) (rows_after : Rows) : Type 0 where
    pub words : after.words ≡ next_words
    pub values : after.values ≡ tree_by answer before.words.log.newest.mac before.values
    pub rows : rows_after ≡ rows_by answer records
    -- unless the tree is lost the chip's newest root is the tree's
    pub in_step : IsFound answer → after.words.log.newest.root ≡ root after.values
    pub era : IsSameEra before.words after.words
    pub durable : Follows (Carried (words_bytes next_words) name answer) old.may_leave new.may_leave
    pub done : Goes old new (Carried (words_bytes next_words) name answer)

  -- At each moment a crash leaves the one write done or not.
  pub record Replays (after : Host) (rows_after : Rows) (result : Result Resync Failed) : Type 0 where
    pub any_moment : Leaves old new (Carrying (words_bytes next_words) name answer)
    pub done_or_not : EndsCarried (words_bytes next_words) name answer old new
    pub made : IfOk result (λ told. (told ≡ answer) × IsReplayed after rows_after)
    pub failed_words : IsErr result → after.words ≡ before.words
    pub failed_rows : IsErr result → rows_after ≡ records
