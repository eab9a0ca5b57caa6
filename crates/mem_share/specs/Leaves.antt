-- Which leaves come of inserts and tries.
use Rattle.std.specs.Prelude.{◌≤◌, ◌<◌, ◌^◌}
use Rattle.share_api.specs.declared.leaf.Leaf.{Leaf}

-- the wrong tries are no more than any schedule has attempts, and the stamp is a moment
pub record IsCounted (leaf : Leaf) : Type 0 where
  pub few : leaf.wrong ≤ 1000
  pub early : leaf.last.at < 2 ^ 40
