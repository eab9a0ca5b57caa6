use Rattle.std.proofs.Common.{◌+◌, ◌<◌, ◌∙◌, ◌++◌, List, [], ℕ, refl, sym, ap, subst, take, drop, length, append-nil, take-append-drop, take_all, Ok, arith}
use Rattle.std.proofs.lemmas.Result.{err_from_is_err_and}
use Rattle.request_loop.specs.Lines.{ended_seen}
use Rattle.request_loop.specs.Exchange.{Exchange, written_for}
use Rattle.request_loop.specs.Cut.{HoldsPart, Queues}
use Rattle.request_loop.proofs.Cutting.{holds-more, ended_seen-more}
use Rattle.request_loop.proofs.Serving.{queues-none, serves-none, waits-then}
use Rattle.request_loop.proofs.serve.take_piece.Goals as goal

-- before the first byte nothing ended
pub loop-byte-init : goal.loop-byte-init
loop-byte-init g c = record {
  room = c.requires;
  count = refl;
  served = ([], serves-none _ _ _ (λ exchanges. Queues c.args.replies.now.bytes.items c.args.replies.now.bytes.items (written_for exchanges)) (queues-none c.args.replies.now.bytes.items), λ taken h. ap ended_seen (append-nil taken) ∙ sym (append-nil (ended_seen taken)));
  part = λ taken h. subst (λ (taken : List ℕ). HoldsPart c.args.part.now.is_long c.args.part.now.bytes.items taken) (sym (append-nil taken)) h;
}

-- the line that ended with this byte is the last one that was answered
pub returns-in_err-take_byte-clause-served : goal.returns-in_err-take_byte-clause-served
returns-in_err-take_byte-clause-served g c =
    let p = err_from_is_err_and c.from_residual.result c.from_residual.ensures.1 in
    let before = c.loop-byte.invariant.served in
    let more = c.in_err-take_byte.ensures.served in
    let xs : List Exchange = before.0 in
    let ys : List Exchange = more.0 in
    let i : ℕ = c.loop-byte.byte-index in
    let piece : List ℕ = c.args.piece.now in
    let h : i < length piece = omega arith in (
      xs ++ ys,
      take (i + 1) piece,
      drop (i + 1) piece,
      sym (take-append-drop (i + 1) piece),
      waits-then c.from_residual.result xs ys c.args.replies.now.bytes.items c.loop-byte.replies.bytes.items c.take_byte.new.replies.bytes.items _ _ _ before.1 (rw p.1 more.1),
      (λ taken held. ended_seen-more taken piece i xs ys h (before.2 taken held) (more.2 (taken ++ take i piece) (c.loop-byte.invariant.part taken held))),
      rw p.1 tt,
    )

-- one more byte
pub loop-byte-preserved : goal.loop-byte-preserved
loop-byte-preserved g c =
    let before = c.loop-byte.invariant.served in
    let more = c.in_ok-take_byte.ensures.served in
    let xs : List Exchange = before.0 in
    let ys : List Exchange = more.0 in
    let i : ℕ = c.loop-byte.byte-index in
    let piece : List ℕ = c.args.piece.now in
    let h : i < length piece = omega arith in
    record {
      room = c.take_byte.ensures.room;
      count = c.in_ok-take_byte.ensures.cause.kept (λ e. cc) ∙ c.loop-byte.invariant.count;
      served = (
        xs ++ ys,
        waits-then {A = ℕ} {E = ℕ} (Ok 0) xs ys c.args.replies.now.bytes.items c.loop-byte.replies.bytes.items c.take_byte.new.replies.bytes.items _ _ _ before.1 more.1,
        (λ taken held. ended_seen-more taken piece i xs ys h (before.2 taken held) (more.2 (taken ++ take i piece) (c.loop-byte.invariant.part taken held))),
      );
      part = λ taken held. holds-more _ _ taken piece i h (c.in_ok-take_byte.ensures.part (taken ++ take i piece) (c.loop-byte.invariant.part taken held));
    }

-- the whole piece was taken
pub returns-clause-served : goal.returns-clause-served
returns-clause-served g c =
    let before = c.loop-byte.invariant.served in
    (before.0, take c.loop-byte.byte-index c.args.piece.now, [], sym (append-nil _ ∙ take_all c.loop-byte.byte-index c.args.piece.now c.loop-byte-test.false), before.1, before.2, refl)
