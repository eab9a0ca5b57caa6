-- Moments, in seconds.
use Rattle.std.specs.Prelude.{ℕ, ◌-◌, ◌^◌, ◌<◌, min}

-- a moment, of which there are 2^40
abbrev pub IsMoment : ℕ → Type 0
IsMoment at = at < 2 ^ 40

-- the moment for a number of seconds that a clock gave: the last one, where the number is later
abbrev pub cut_moment : ℕ → ℕ
cut_moment number = min number (2 ^ 40 - 1)
