-- What is written into bytes, piece after piece.
use Rattle.std.specs.Prelude.{ℕ, ◌+◌, ◌<◌, ◌⊎◌, List, length, take, drop}
use Rattle.ct_bytes.specs.declared.writer.Writer.{Writer}

-- the bytes that were written
abbrev pub written : Writer → List ℕ
written writer = take writer.used writer.bytes.now

-- the bytes behind them, which are the room that is left
abbrev pub behind : Writer → List ℕ
behind writer = drop writer.used writer.bytes.now

-- a field with its length byte has over 255 bytes, or the room is too small for it
abbrev pub TooLongField : List ℕ → List ℕ → Type 0
TooLongField bytes room = (255 < length bytes) ⊎ (length room < 1 + length bytes)
