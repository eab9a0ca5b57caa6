-- What came out of the jobs is what serving left in them.
use Rattle.std.proofs.Common.{arith, ◌≡◌, ◌++◌, map, take, drop, length, ap, ◌∙◌}
use Rattle.std.proofs.lemmas.Grind.{common_steps}
use Rattle.std.proofs.lemmas.Slice.Zip.{AllZip-long}
use Rattle.client_threads.specs.Ends.{ends_from}
use Rattle.home_service.proofs.Jobs.{serves_clients}
use Rattle.home_service.proofs.clients.serve_clients.Goals as goal

pub returns-clause-served : goal.returns-clause-served
returns-clause-served g c =
    let old = c.make_jobs.new.jobs.items in
    let new = c.serve_all.new.jobs in
    let given = c.as_mut_slice.ensures.value in
    let size : length new ≡ length old = AllZip-long _ _ _ c.serve_all.ensures.serves ∙ ap length given in
    let whole : take c.make_jobs.new.jobs.len (new ++ drop (length new) old) ≡ new = grind (arith, common_steps) in (
      map (λ job. job.end) new,
      c.ends_of-end.ensures.value
          ∙ ap (λ jobs. ends_from c.args.first (map (λ job. job.end) jobs)) (c.as_slice.ensures.value ∙ whole),
      serves_clients g.S.Source.left g.S.Source.taken g.S.Source.faults g.K.Sink.written g.K.Sink.faults
          g.C.Clock.given g.H.Home.pins g.H.Home.seen g.H.Home.bare (λ service. service.home.now)
          (λ service. service.seat) c.args.home.now _ old _ new _ _ _ _ _ _ _ c.serve_all.ensures.serves given whole
          c.in-Ok.ensures.jobs.0 c.in-Ok.ensures.clients.0 c.in-Ok.ensures.seats.0 c.make_jobs.ensures.home
          c.make_jobs.ensures.clients c.make_jobs.ensures.seats c.take_apart.ensures.clients
          c.take_apart.ensures.seats,
    )
