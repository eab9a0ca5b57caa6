use Rattle.std.proofs.Common.{sym, arith}
use Rattle.client_threads.proofs.Zips.{zip_each}
use Rattle.client_threads.proofs.serve.serve_all.Goals as goal

-- each place is what the call at it left
pub returns-then-count-gt0 : goal.returns-then-count-gt0
returns-then-count-gt0 g c =
    record {
      serves = zip_each _ c.args.jobs.now c.for_each_mut.new.s (omega (arith, c.for_each_mut.auto))
          (λ i d below. let k = (c.for_each_mut.ensures i d below).1 in rw (sym k.argument_is, sym k.left) k.call);
    }
