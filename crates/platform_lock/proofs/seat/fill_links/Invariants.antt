-- As many links as rounds were made are there, and none of those before is gone.
use Rattle.std.proofs.Common.{◌≤◌, vec_len}
use Rattle.platform_lock.proofs.seat.fill_links.Given as goal

abbrev pub invariant-loop : goal.invariant-loop
invariant-loop l = (vec_len l.fn.links ≤ vec_len l.links) × (l.counter ≤ vec_len l.links)
