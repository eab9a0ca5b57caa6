-- The editions of a stash's blocks.
use Rattle.std.specs.Prelude.{ℕ, List, map}
use Rattle.std.specs.FinMap.{entries}
use Rattle.share_api.specs.Contents.{Bytes}
use Rattle.stash_format.specs.declared.block.Block.{Block}
use Rattle.stash_format.specs.declared.contents.Contents.{Contents as Stash}

-- the labels with their editions, in the labels' order
abbrev pub editions_in : Stash → List (Bytes × ℕ)
editions_in stash = map (λ (e : Bytes × Block). (e.0, e.1.edition)) (entries stash.blocks)
