use Rattle.std.proofs.Common.{◌≡◌, ℕ, ◌<◌}
use Rattle.std.specs.Prelude.{slice_get}
use Rattle.turn_reload.specs.Editions.{editions_in}
use Rattle.turn_reload.proofs.editions.are_same_blocks.Given as goal

-- the places so far are the same
abbrev pub invariant-places : goal.invariant-places
invariant-places l = (k : ℕ) → k < l.at → slice_get (editions_in l.fn.one) k ≡ slice_get (editions_in l.fn.other) k
