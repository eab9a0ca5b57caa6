use Rattle.std.proofs.Common.{length}
use Rattle.home_service.proofs.clients.+make_jobs.Given as goal

abbrev pub decreases-make_jobs : goal.decreases-make_jobs
decreases-make_jobs g l = length l.seats.items
