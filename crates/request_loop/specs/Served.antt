-- What was taken, answered and written when the loop ends.
use Rattle.std.specs.Prelude.{◌≡◌, ℕ, ◌<◌, ◌≤◌, ◌^◌, Option, List, [], ◌++◌, length, map}
use Rattle.fault_count.specs.Told.{Becomes, Gives}
use Rattle.request_loop.specs.declared.serve.LoopEnd.{LoopEnd}
use Rattle.request_loop.specs.declared.serve.LoopEnd.TheVariants.{End, SourceFault, SinkFault, InputLimit, NoMemory}
use Rattle.request_loop.specs.Lines.{LineSeen, lines_seen, ended_seen}
use Rattle.request_loop.specs.Exchange.{Exchange, written_for}

-- the lines that were answered, in order
abbrev pub lines_answered : List Exchange → List LineSeen
lines_answered exchanges = map (λ x. x.line) exchanges

-- Which lines of the input were answered, and what is left of it. At a sink fault the first of these answered
-- the lines that had ended before the last read, of at most 4096 bytes.
abbrev pub TakesLines : LoopEnd → List Exchange → List Exchange → List ℕ → List ℕ → Type 0
TakesLines End earlier exchanges input rest =
    (lines_answered exchanges ≡ lines_seen input) × (rest ≡ []) × (length input < 2 ^ 32)
TakesLines SourceFault earlier exchanges input rest =
    (taken : List ℕ) × (input ≡ taken ++ rest) × (lines_answered exchanges ≡ ended_seen taken)
TakesLines SinkFault earlier exchanges input rest =
    (before : List ℕ) × (piece : List ℕ) × (more : List LineSeen) × (input ≡ (before ++ piece) ++ rest)
    × (lines_answered earlier ≡ ended_seen before) × (length piece ≤ 4096)
    × (lines_seen input ≡ lines_answered exchanges ++ more)
TakesLines InputLimit earlier exchanges input rest =
    (taken : List ℕ) × (input ≡ taken ++ rest) × (lines_answered exchanges ≡ ended_seen taken) × (length taken ≡ 2 ^ 32)
TakesLines NoMemory earlier exchanges input rest = (exchanges ≡ []) × (rest ≡ input)

-- every reply was written, with its line feed
abbrev pub WritesAll : List Exchange → List ℕ → List ℕ → Type 0
WritesAll exchanges old new = new ≡ old ++ written_for exchanges

-- the replies to the earlier lines were written whole, and of those behind them the first bytes
pub record WritesPart (earlier exchanges : List Exchange) (old new : List ℕ) : Type 0 where
  pub late : List Exchange
  pub done : List ℕ
  pub rest : List ℕ
  pub all : exchanges ≡ earlier ++ late
  pub cut : written_for late ≡ done ++ rest
  pub written : new ≡ old ++ (written_for earlier ++ done)

-- a sink fault cuts the replies since the last read short; else every reply was written
abbrev pub WritesReplies : LoopEnd → List Exchange → List Exchange → List ℕ → List ℕ → Type 0
WritesReplies End earlier = WritesAll
WritesReplies SourceFault earlier = WritesAll
WritesReplies SinkFault earlier = WritesPart earlier
WritesReplies InputLimit earlier = WritesAll
WritesReplies NoMemory earlier = WritesAll

-- The service answered these lines one after another, each with a number of the clock for it alone. The
-- earlier ones are those before the last read.
pub record IsServed {S : Type 0} (end : LoopEnd) (was now : S → List Exchange → Type 0)
    (left_before left_after sink_before sink_after clock_before clock_after : Option (List ℕ))
    (exchanges : List Exchange) : Type 0 where
  pub earlier : List Exchange
  pub answered : (start : S) (done : List Exchange) → was start done → now start (done ++ exchanges)
  pub moments : Gives clock_before clock_after (map (λ x. x.moment) exchanges)
  pub lines : Becomes left_before left_after (TakesLines end earlier exchanges)
  pub written : Becomes sink_before sink_after (WritesReplies end earlier exchanges)
