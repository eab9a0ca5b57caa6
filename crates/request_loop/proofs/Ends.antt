-- What all ends of the loop have in common, for its callers.
use Rattle.std.proofs.Common.{◌≡◌, ℕ, List, [], ◌++◌, length, take, sym, ap, ◌∙◌, append_assoc, append-nil}
use Rattle.std.proofs.Math.Seq.{take-append_seam, take-length}
use Rattle.request_loop.specs.declared.serve.LoopEnd.{LoopEnd}
use Rattle.request_loop.specs.declared.serve.LoopEnd.TheVariants.{End, SourceFault, SinkFault, InputLimit, NoMemory}
use Rattle.request_loop.specs.Lines.{LineSeen, lines_seen, ended_seen}
use Rattle.request_loop.specs.Exchange.{Exchange, written_for}
use Rattle.request_loop.specs.Served.{TakesLines, WritesAll, WritesPart, WritesReplies, lines_answered}
use Rattle.request_loop.proofs.Cutting.{lines_seen-more}
use Rattle.request_loop.proofs.Serving.{written_for-append}

-- the front of the input was taken, and the rest is left
pub taken_front : (end : LoopEnd) (earlier exchanges : List Exchange) (input rest : List ℕ) → TakesLines end earlier exchanges input rest → (taken : List ℕ) × (input ≡ taken ++ rest)
taken_front End earlier exchanges input rest p = (input, sym (append-nil input) ∙ ap (λ rest. input ++ rest) (sym p.1))
taken_front SourceFault earlier exchanges input rest p = (p.0, p.1)
taken_front SinkFault earlier exchanges input rest p = (p.0 ++ p.1, p.3)
taken_front InputLimit earlier exchanges input rest p = (p.0, p.1)
taken_front NoMemory earlier exchanges input rest p = ([], sym p.1)

-- the lines that end in the front of the input are its first lines
pub ended_front : (exchanges : List Exchange) (taken input rest : List ℕ) → input ≡ taken ++ rest → lines_answered exchanges ≡ ended_seen taken
    → (more : List LineSeen) × (lines_seen input ≡ lines_answered exchanges ++ more)
ended_front exchanges taken input rest e lines =
    let more = lines_seen-more taken rest in
    (more.0, ap lines_seen e ∙ (more.1 ∙ ap (λ lines. lines ++ more.0) (sym lines)))

-- the lines that were answered are the first lines of the input
pub answered_front : (end : LoopEnd) (earlier exchanges : List Exchange) (input rest : List ℕ) → TakesLines end earlier exchanges input rest
    → (more : List LineSeen) × (lines_seen input ≡ lines_answered exchanges ++ more)
answered_front End earlier exchanges input rest p = ([], sym p.0 ∙ sym (append-nil (lines_answered exchanges)))
answered_front SourceFault earlier exchanges input rest p = ended_front exchanges p.0 input rest p.1 p.2
answered_front SinkFault earlier exchanges input rest p = (p.2, p.6)
answered_front InputLimit earlier exchanges input rest p = ended_front exchanges p.0 input rest p.1 p.2
answered_front NoMemory earlier exchanges input rest p = (lines_seen input, ap (λ exchanges. lines_answered exchanges ++ lines_seen input) (sym p.0))

-- what was written is all that was to be written
pub written-all : (exchanges : List Exchange) (old new : List ℕ) → WritesAll exchanges old new → (count : ℕ) × (new ≡ old ++ take count (written_for exchanges))
written-all exchanges old new p =
    (length (written_for exchanges), p ∙ ap (λ text. old ++ text) (sym (take-length (written_for exchanges))))

-- or a front of it
pub written-part : (earlier exchanges : List Exchange) (old new : List ℕ) → WritesPart earlier exchanges old new → (count : ℕ) × (new ≡ old ++ take count (written_for exchanges))
written-part earlier exchanges old new p = (
  length (written_for earlier ++ p.done),
  p.written ∙ ap (λ text. old ++ text) (sym (ap (take (length (written_for earlier ++ p.done))) whole ∙ take-append_seam (written_for earlier ++ p.done) p.rest)),
) where
  whole : written_for exchanges ≡ (written_for earlier ++ p.done) ++ p.rest
  whole = ap written_for p.all ∙ (written_for-append earlier p.late
      ∙ (ap (λ text. written_for earlier ++ text) p.cut ∙ sym (append_assoc (written_for earlier) p.done p.rest)))

-- at each end, so many first bytes of the replies were written, and nothing else
pub written_front : (end : LoopEnd) (earlier exchanges : List Exchange) (old new : List ℕ) → WritesReplies end earlier exchanges old new
    → (count : ℕ) × (new ≡ old ++ take count (written_for exchanges))
written_front End earlier exchanges old new p = written-all exchanges old new p
written_front SourceFault earlier exchanges old new p = written-all exchanges old new p
written_front SinkFault earlier exchanges old new p = written-part earlier exchanges old new p
written_front InputLimit earlier exchanges old new p = written-all exchanges old new p
written_front NoMemory earlier exchanges old new p = written-all exchanges old new p
