-- The lines of an input, and what a service sees of each.
use Rattle.std.specs.Prelude.{ℕ, ◌==◌, List, [], ◌∷◌, length, map, nat_le, if◌then◌else◌}
use Rattle.request_loop.specs.declared.line.Line.{Line}
use Rattle.request_loop.specs.declared.line.Line.TheVariants.{Whole, TooLong}

-- a line as a service sees it: its bytes, or that it is too long
pub data LineSeen : Type 0 where
  whole : List ℕ → LineSeen
  too_long : LineSeen

-- a byte in front of the first line, or as a line of its own where there is none
abbrev pub before_first : ℕ → List (List ℕ) → List (List ℕ)
before_first byte [] = (byte ∷ []) ∷ []
before_first byte (line ∷ lines) = (byte ∷ line) ∷ lines

-- a byte in front of the first line, where there is one
abbrev pub before_ended : ℕ → List (List ℕ) → List (List ℕ)
before_ended byte [] = []
before_ended byte (line ∷ lines) = (byte ∷ line) ∷ lines

-- the parts between line feeds; a rest at the end that isn't empty is a line too
abbrev pub lines_of : List ℕ → List (List ℕ)
lines_of [] = []
lines_of (byte ∷ bytes) = if byte == 10 then [] ∷ lines_of bytes else before_first byte (lines_of bytes)

-- only the lines that a line feed ends
abbrev pub lines_ended : List ℕ → List (List ℕ)
lines_ended [] = []
lines_ended (byte ∷ bytes) = if byte == 10 then [] ∷ lines_ended bytes else before_ended byte (lines_ended bytes)

-- of a line of more than 100,000 bytes nothing is seen but that it is too long
abbrev pub seen_of : List ℕ → LineSeen
seen_of line = if nat_le (length line) 100000 then whole line else too_long

-- the lines of an input, as they are seen
abbrev pub lines_seen : List ℕ → List LineSeen
lines_seen input = map seen_of (lines_of input)

-- the lines that a line feed ends, as they are seen
abbrev pub ended_seen : List ℕ → List LineSeen
ended_seen input = map seen_of (lines_ended input)

-- what the code's line shows of it
abbrev pub line_seen : Line → LineSeen
line_seen (Whole bytes) = whole bytes.now
line_seen TooLong = too_long
