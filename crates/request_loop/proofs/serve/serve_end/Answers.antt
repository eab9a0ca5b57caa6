use Rattle.std.proofs.Common.{ℕ, List, [], Ok, Err}
use Rattle.std.proofs.lemmas.Result.{err_from_is_err_and}
use Rattle.request_loop.specs.Exchange.{Exchange}
use Rattle.request_loop.proofs.Serving.{serves-nothing, serves-out}
use Rattle.request_loop.proofs.serve.serve_end.Goals as goal

-- the reply couldn't be written
pub returns-in_err-take_end-clause-served : goal.returns-in_err-take_end-clause-served
returns-in_err-take_end-clause-served g c =
    let p = err_from_is_err_and c.from_residual.result c.from_residual.ensures.1 in
    let made = c.in_err-take_end.ensures.served in
    let xs : List Exchange = made.0 in
    rw p.1 (
      xs,
      serves-nothing {A = ℕ} {E = ℕ} (Err 0) xs c.args.replies.now.bytes.items [] c.requires.none made.1,
      made.2,
    )

-- what waited is written
pub returns-clause-served : goal.returns-clause-served
returns-clause-served g c =
    let made = c.in_ok-take_end.ensures.served in
    let xs : List Exchange = made.0 in
    let waiting : List ℕ = c.take_end.new.replies.bytes.items in (
      xs,
      serves-out c.write.result xs [] waiting _ _
          (serves-nothing {A = ℕ} {E = ℕ} (Ok 0) xs c.args.replies.now.bytes.items waiting c.requires.none made.1)
          c.write.ensures.ok c.write.ensures.err,
      made.2,
    )
