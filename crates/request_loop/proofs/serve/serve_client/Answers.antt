use Rattle.std.proofs.Common.{◌≡◌, ◌≤◌, ◌∙◌, ℕ, List, [], ◌++◌, refl, sym, ap, subst, take, length, append-nil, arith, Ok, Err}
use Rattle.std.proofs.lemmas.Grind.{common_steps}
use Rattle.request_loop.specs.Lines.{ended_seen}
use Rattle.request_loop.specs.Exchange.{Exchange}
use Rattle.request_loop.specs.Served.{WritesAll, WritesPart, lines_answered}
use Rattle.request_loop.specs.Cut.{WritesFor}
use Rattle.fault_count.proofs.ToldLemmas.{becomes_same}
use Rattle.request_loop.proofs.Cutting.{holds-start}
use Rattle.request_loop.proofs.Serving.{serves-none, serves-then, writes-part, writes-more}
use Rattle.request_loop.proofs.Taking.{left-more, left-end, lines-more, lines-end, takes-end, takes-last, takes-part, takes-none, length-taken}
use Rattle.request_loop.proofs.serve.serve_client.Goals as goal

-- nothing was done
pub returns-in-Err-clause-served : goal.returns-in-Err-clause-served
returns-in-Err-clause-served g c =
    let none = serves-none (λ start. g.V.Service.answered start c.args.service.now) (g.K.Sink.written c.args.sink.now) (g.C.Clock.given c.args.clock.now) WritesAll (λ old. sym (append-nil old)) in
    ([], record { earlier = []; answered = none.answered; moments = none.moments; lines = takes-none _; written = none.written })

-- nothing is taken yet
pub loop-taken-init : goal.loop-taken-init
loop-taken-init g c = record {
  room = c.in-Ok.ensures.room;
  none = c.in-Ok.ensures.none;
  within = omega arith;
  counted = omega arith;
  most = omega arith;
  source_count = refl;
  sink_count = refl;
  bytes = [];
  count = refl;
  left = becomes_same (λ input rest. input ≡ rest) _ (λ (input : List ℕ). refl);
  exchanges = [];
  lines = refl;
  served = serves-none _ _ _ WritesAll (λ old. sym (append-nil old));
  part = holds-start _ _ c.in-Ok.ensures.part;
}

-- the reply to the last line couldn't be written
pub returns-in-Err-serve_end-clause-served : goal.returns-in-Err-serve_end-clause-served
returns-in-Err-serve_end-clause-served g c =
    let before = c.loop-taken.invariant in
    let made = c.in-Err-serve_end.ensures.served in
    let xs : List Exchange = before.exchanges in
    let ys : List Exchange = made.0 in
    let whole = serves-then xs ys WritesAll (WritesFor {A = ℕ} {E = ℕ} (Err 0) [] []) (WritesPart xs) _ _ _ (writes-part xs ys) before.served made.1 in (
      xs ++ ys,
      record {
        earlier = xs;
        answered = whole.answered;
        moments = whole.moments;
        lines = takes-last _ _ before.bytes xs (xs ++ ys) before.lines (lines-end before.bytes xs ys before.lines (made.2 before.bytes before.part))
            (left-end _ _ _ before.bytes c.read_more.new.window c.in-Ok-read_more.count c.if-count-eq0.true before.left c.in-Ok-read_more.ensures.ok c.in-Ok-read_more.ensures.end);
        written = whole.written;
      },
    )

-- the input is at its end
pub returns-then-count-eq0-clause-served : goal.returns-then-count-eq0-clause-served
returns-then-count-eq0-clause-served g c =
    let before = c.loop-taken.invariant in
    let made = c.in-Ok-serve_end.ensures.served in
    let xs : List Exchange = before.exchanges in
    let ys : List Exchange = made.0 in
    let whole = serves-then xs ys WritesAll (WritesFor {A = ℕ} {E = ℕ} (Ok 0) [] []) WritesAll _ _ _ (writes-more xs ys) before.served made.1 in (
      xs ++ ys,
      record {
        earlier = xs;
        answered = whole.answered;
        moments = whole.moments;
        lines = takes-end _ _ before.bytes xs (xs ++ ys) (lines-end before.bytes xs ys before.lines (made.2 before.bytes before.part)) (omega (arith, before.count))
            (left-end _ _ _ before.bytes c.read_more.new.window c.in-Ok-read_more.count c.if-count-eq0.true before.left c.in-Ok-read_more.ensures.ok c.in-Ok-read_more.ensures.end);
        written = whole.written;
      },
    )

-- a reply couldn't be written
pub returns-in-Err-serve_piece-clause-served : goal.returns-in-Err-serve_piece-clause-served
returns-in-Err-serve_piece-clause-served g c =
    let before = c.loop-taken.invariant in
    let made = c.in-Err-serve_piece.ensures.served in
    let xs : List Exchange = before.exchanges in
    let ys : List Exchange = made.0 in
    let piece : List ℕ = take c.in-Ok-read_more.count c.read_more.new.window in
    let fits : c.in-Ok-read_more.count ≤ length c.read_more.new.window = c.in-Ok-read_more.ensures.within in
    let short : length piece ≤ 4096 = grind (arith, common_steps, c.min-most.ensures, c.read_more.auto.window, fits) in
    let whole = serves-then xs ys WritesAll (WritesFor {A = ℕ} {E = ℕ} (Err 0) [] []) (WritesPart xs) _ _ _ (writes-part xs ys) before.served made.4 in (
      xs ++ ys,
      record {
        earlier = xs;
        answered = whole.answered;
        moments = whole.moments;
        lines = takes-part _ _ before.bytes piece made.1 made.2 xs (xs ++ ys) made.3 short before.lines
            (lines-more before.bytes made.1 xs ys before.lines (made.5 before.bytes before.part))
            (left-more _ _ _ before.bytes piece before.left c.in-Ok-read_more.ensures.ok);
        written = whole.written;
      },
    )

-- another piece was taken
pub loop-taken-preserved : goal.loop-taken-preserved
loop-taken-preserved g c =
    let before = c.loop-taken.invariant in
    let made = c.in-Ok-serve_piece.ensures.served in
    let xs : List Exchange = before.exchanges in
    let ys : List Exchange = made.0 in
    let piece : List ℕ = take c.in-Ok-read_more.count c.read_more.new.window in
    let fits : c.in-Ok-read_more.count ≤ length c.read_more.new.window = c.in-Ok-read_more.ensures.within in
    let gone : made.1 ≡ piece = sym (made.3 ∙ (ap (λ rest. made.1 ++ rest) made.6 ∙ append-nil made.1)) in
    record {
      room = c.serve_piece.ensures.room;
      none = c.in-Ok-serve_piece.ensures.none;
      within = grind (arith, common_steps, c.min-most.ensures, c.read_more.auto.window, fits);
      counted = omega (arith, c.in-Ok-read_more.ensures.taken);
      most = omega (arith, c.in-Ok-read_more.ensures.taken);
      source_count = c.in-Ok-read_more.ensures.cause.kept (λ e. cc) ∙ before.source_count;
      sink_count = c.serve_piece.ensures.cause.kept (λ e. let k = rw c.in-Ok-serve_piece.is at e in cc) ∙ before.sink_count;
      bytes = before.bytes ++ piece;
      count = length-taken before.bytes c.read_more.new.window c.loop-taken.taken c.in-Ok-read_more.count before.count fits;
      left = left-more _ _ _ before.bytes piece before.left c.in-Ok-read_more.ensures.ok;
      exchanges = xs ++ ys;
      lines = subst (λ (gone : List ℕ). lines_answered (xs ++ ys) ≡ ended_seen (before.bytes ++ gone)) gone
          (lines-more before.bytes made.1 xs ys before.lines (made.5 before.bytes before.part));
      served = serves-then xs ys WritesAll (WritesFor {A = ℕ} {E = ℕ} (Ok 0) [] []) WritesAll _ _ _ (writes-more xs ys) before.served made.4;
      part = c.in-Ok-serve_piece.ensures.part before.bytes before.part;
    }
