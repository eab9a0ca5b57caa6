-- The source, the sink and the clock in memory, as contracts see them.
use Rattle.std.specs.Prelude.{ℕ, ◌+◌, ◌-◌, ◌^◌, min, List, length, take, slice_index, nat_le, Option, None, Some, if◌then◌else◌}

-- how many calls were made once another is; it stays at 2^64 - 1
abbrev pub next_call : ℕ → ℕ
next_call calls = min (calls + 1) (2 ^ 64 - 1)

-- a source: the bytes that are left, the most that a read gives, and the numbers of the reads that fail
pub record SourceState : Type 0 where
  pub left : List ℕ
  pub piece : ℕ
  pub fails : List ℕ
  pub calls : ℕ
  pub taken : ℕ
  pub faults : ℕ

-- a sink: the bytes that were written, how many more it has room for, and the numbers of the writes that fail
pub record SinkState : Type 0 where
  pub written : List ℕ
  pub room : ℕ
  pub fails : List ℕ
  pub calls : ℕ
  pub faults : ℕ

-- a clock: the numbers that it is to give
pub record ClockState : Type 0 where
  pub numbers : List ℕ
  pub calls : ℕ

-- the number that a call gives: past the list's end the last one again, or 0 where there is none
abbrev pub number_of : ClockState → ℕ
number_of clock = slice_index clock.numbers (min clock.calls (length clock.numbers - 1))

-- the numbers that were given, as long as they are the list's
abbrev pub given_by : ClockState → Option (List ℕ)
given_by clock = if nat_le clock.calls (length clock.numbers) then Some (take clock.calls clock.numbers) else None
