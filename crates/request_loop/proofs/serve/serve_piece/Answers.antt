use Rattle.std.proofs.Common.{◌≡◌, ℕ, List, [], Ok, Err}
use Rattle.std.proofs.lemmas.Result.{err_from_is_err_and}
use Rattle.request_loop.specs.Exchange.{Exchange}
use Rattle.request_loop.proofs.Serving.{serves-nothing, serves-out, on_ok}
use Rattle.request_loop.proofs.serve.serve_piece.Goals as goal

-- a reply couldn't be written while the piece was taken
pub returns-in_err-take_piece-clause-served : goal.returns-in_err-take_piece-clause-served
returns-in_err-take_piece-clause-served g c =
    let p = err_from_is_err_and c.from_residual.result c.from_residual.ensures.1 in
    let made = c.in_err-take_piece.ensures.served in
    let xs : List Exchange = made.0 in
    rw p.1 (
      xs,
      made.1,
      made.2,
      made.3,
      serves-nothing {A = ℕ} {E = ℕ} (Err 0) xs c.args.replies.now.bytes.items [] c.requires.none made.4,
      made.5,
      tt,
    )

-- what waited is written
pub returns-clause-served : goal.returns-clause-served
returns-clause-served g c =
    let made = c.in_ok-take_piece.ensures.served in
    let xs : List Exchange = made.0 in
    let waiting : List ℕ = c.take_piece.new.replies.bytes.items in (
      xs,
      made.1,
      made.2,
      made.3,
      serves-out c.write.result xs [] waiting _ _
          (serves-nothing {A = ℕ} {E = ℕ} (Ok 0) xs c.args.replies.now.bytes.items waiting c.requires.none made.4)
          c.write.ensures.ok c.write.ensures.err,
      made.5,
      on_ok c.write.result (made.2 ≡ []) made.6,
    )
