-- When an account can take a turn.
use Rattle.std.specs.Prelude.{◌≡◌, Option}
use Rattle.home_recovery.specs.Told.{lost_tree}
use Rattle.share_api.specs.Conditions.{IsOf}
use Rattle.share_api.specs.Contents.{Bytes}
use Rattle.user_state.specs.declared.state.UserState.{UserState}
use Rattle.user_turn.specs.Acts.{IsSteady}

-- A turn can begin with the state over the share of an account of this name: it is between turns, it is that account's,
-- and it was loaded while the tree was lost or not as the share tells.
pub record IsReadyFor (owner : Option Bytes) (lost : Option (Bytes × Bytes)) (state : UserState) : Type 0 where
  pub steady : IsSteady state
  pub own : IsOf owner state.account
  pub lost_is : state.stored.lost ≡ lost_tree lost
