-- How contracts see the objects outside: boards, sources, sinks and clocks.
use Rattle.std.specs.Prelude.{ℕ, List, Option}
use Rattle.board_model.specs.Disk.{Disk}

pub record Outside (B S K C : Type 0) : Type 1 where
  -- what a board has, and how often it has failed
  pub disk : B → Disk
  pub board_faults : B → ℕ
  -- the bytes that a source has left, how many it gave, and how often it has failed
  pub left : S → Option (List ℕ)
  pub taken : S → ℕ
  pub source_faults : S → ℕ
  -- the bytes that were written to a sink, and how often it has failed
  pub written : K → Option (List ℕ)
  pub sink_faults : K → ℕ
  -- the numbers that a clock gave
  pub given : C → Option (List ℕ)
