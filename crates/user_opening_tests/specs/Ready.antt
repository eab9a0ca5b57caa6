-- A state and a share between turns.
use Rattle.std.specs.Prelude.{◌≡◌}
use Rattle.home_recovery.specs.Told.{lost_tree}
use Rattle.mem_share.specs.Mem.{seen_of}
use Rattle.mem_share.specs.declared.share.MemShare.{MemShare}
use Rattle.user_state.specs.declared.state.UserState.{UserState}
use Rattle.user_turn.specs.Acts.{IsSteady}

-- a turn over this share can begin with the state
pub record IsReady (state : UserState) (share : MemShare) : Type 0 where
  pub steady : IsSteady state
  pub lost : state.stored.lost ≡ lost_tree (seen_of share).lost
