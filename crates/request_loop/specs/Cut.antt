-- The line that is being read, and a stretch of the loop: what the steps of the loop say to each other.
use Rattle.std.specs.Prelude.{◌≡◌, ℕ, ◌<◌, ◌==◌, Bool, true, false, IsTrue, Option, Result, Ok, Err, List, [], ◌∷◌, ◌++◌, length, map, if◌then◌else◌}
use Rattle.fault_count.specs.Told.{Becomes, Gives}
use Rattle.request_loop.specs.Lines.{lines_of, lines_ended}
use Rattle.request_loop.specs.Exchange.{Exchange, written_for}

-- no line feed is among these
abbrev pub has_no_feed : List ℕ → Bool
has_no_feed [] = true
has_no_feed (byte ∷ bytes) = if byte == 10 then false else has_no_feed bytes

-- after these bytes a line has begun with `line`: whatever comes next belongs to it, up to a line feed
pub record HasBegun (taken line : List ℕ) : Type 0 where
  pub no_feed : IsTrue (has_no_feed line)
  pub ended : (more : List ℕ) → lines_ended (taken ++ more) ≡ lines_ended taken ++ lines_ended (line ++ more)
  pub lines : (more : List ℕ) → lines_of (taken ++ more) ≡ lines_ended taken ++ lines_of (line ++ more)

-- the bytes of a line, or that it is too long
abbrev pub KeepsLine : Bool → List ℕ → List ℕ → Type 0
KeepsLine true bytes line = 100000 < length line
KeepsLine false bytes line = bytes ≡ line

-- what is kept of the line that has begun after these bytes
pub record HoldsPart (is_long : Bool) (bytes taken : List ℕ) : Type 0 where
  pub line : List ℕ
  pub place : HasBegun taken line
  pub kept : KeepsLine is_long bytes line

-- From old to new these bytes were written, or wait, behind those that waited before.
pub record Queues (before after text old new : List ℕ) : Type 0 where
  pub done : List ℕ
  pub written : new ≡ old ++ done
  pub all : done ++ after ≡ before ++ text

-- what a step that writes leaves in the sink: after a fault nothing is known of what still waits
abbrev pub QueuesFor : {A E : Type 0} → Result A E → List ℕ → List ℕ → List ℕ → List ℕ → List ℕ → Type 0
QueuesFor (Ok _) before after text old new = Queues before after text old new
QueuesFor (Err _) before after text old new = (rest : List ℕ) × Queues before rest text old new

-- the same of the replies to these
abbrev pub WritesFor : {A E : Type 0} → Result A E → List ℕ → List ℕ → List Exchange → List ℕ → List ℕ → Type 0
WritesFor result before after exchanges = QueuesFor result before after (written_for exchanges)

-- these lines were answered in a stretch of the loop
pub record Serves {S : Type 0} (was now : S → List Exchange → Type 0) (sink_before sink_after clock_before clock_after : Option (List ℕ))
    (Writes : List Exchange → List ℕ → List ℕ → Type 0) (exchanges : List Exchange) : Type 0 where
  pub answered : (start : S) (earlier : List Exchange) → was start earlier → now start (earlier ++ exchanges)
  pub moments : Gives clock_before clock_after (map (λ x. x.moment) exchanges)
  pub written : Becomes sink_before sink_after (Writes exchanges)
