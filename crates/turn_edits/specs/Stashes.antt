-- What rows read of the loaded stash.
use Rattle.std.specs.Prelude.{◌≡◌, Bool, true, false, Option, None, Some, is_some}
use Rattle.stash_format.specs.declared.contents.Contents.{Contents as Stash}
use Rattle.user_state.specs.declared.state.UserState.{UserState}

-- whether the stash has a payload
abbrev pub has_payload : Option Stash → Bool
has_payload None = false
has_payload (Some stash) = is_some stash.payload

-- The vault is mounted, and yet the stash has no payload.
pub record LacksPayload (state : UserState) : Type 0 where
  pub mounted : is_some state.vault ≡ true
  pub lacks : has_payload state.stored.stash ≡ false
